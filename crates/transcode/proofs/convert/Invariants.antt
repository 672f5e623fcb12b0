use Prim.Native.Nat.{◌-◌}
use lib.ListN.{length}
use Rattle.laws.proofs.Writing.{Writing}
use Rattle.transcode.proofs.convert.Given as goal

abbrev pub invariant-loop-at : goal.invariant-loop-at
invariant-loop-at g l =
    Writing g.F.SourceForm.form g.G.TargetForm.form (g.F.SourceForm.units l.src) (g.G.TargetForm.units l.initial.dst) l.at l.written (g.G.TargetForm.units l.dst)

abbrev pub decreases-loop-at : goal.decreases-loop-at
decreases-loop-at g l = length l.src - l.at
