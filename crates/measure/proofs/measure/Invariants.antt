use Prim.Native.Nat.{◌-◌}
use lib.ListN.{length}
use Rattle.encoder.specs.Target.{target_form}
use Rattle.laws.proofs.Measuring.{Measuring}
use Rattle.measure.proofs.measure.Given as goal

abbrev pub invariant-loop-at : goal.invariant-loop-at
invariant-loop-at g l = Measuring g.F.SourceForm.form (target_form l.target) (g.F.SourceForm.units l.src) l.at l.units

abbrev pub decreases-loop-at : goal.decreases-loop-at
decreases-loop-at g l = length l.src - l.at
