use Prim.Native.Nat.{◌+◌, ◌-◌}
use lib.ListN.{length}
use Rattle.forms.specs.Forms.{utf_ebcdic}
use Rattle.laws.proofs.Runs.{CopyingRun}
use Rattle.runs_from_utf_ebcdic.proofs.to_units.ascii.Given as goal

abbrev pub invariant-loop-taken : goal.invariant-loop-taken
invariant-loop-taken g l = let f = g.F.TargetForm in CopyingRun utf_ebcdic f.form l.src l.at l.written (f.units l.initial.dst) l.taken (f.units l.dst)

abbrev pub decreases-loop-taken : goal.decreases-loop-taken
decreases-loop-taken g l = length l.src - (l.at + l.taken)
