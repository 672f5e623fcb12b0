use Prim.Native.Nat.{◌+◌, ◌-◌}
use lib.ListN.{length}
use Rattle.forms.specs.Forms.{fss_utf}
use Rattle.laws.proofs.Runs.{CopyingRun}
use Rattle.runs_from_fss_utf.proofs.to_units.ascii.Given as goal

abbrev pub invariant-loop-taken : goal.invariant-loop-taken
invariant-loop-taken g l = let f = g.F.TargetForm in CopyingRun fss_utf f.form l.src l.at l.written (f.units l.initial.dst) l.taken (f.units l.dst)

abbrev pub decreases-loop-taken : goal.decreases-loop-taken
decreases-loop-taken g l = length l.src - (l.at + l.taken)

abbrev pub invariant-loop-k : goal.invariant-loop-k
invariant-loop-k g l = let f = g.F.TargetForm in CopyingRun fss_utf f.form l.src l.at l.written (f.units l.fn.dst) l.k (f.units l.dst)
