use Prim.Native.Nat.{◌-◌}
use lib.ListN.{length}
use Rattle.lossy_runs.proofs.Filling.{Filling}
use Rattle.lossy.proofs.decode_lossy.Given as goal

abbrev pub invariant-loop-at : goal.invariant-loop-at
invariant-loop-at g l = Filling g.F.SourceForm.form (g.F.SourceForm.units l.text) l.initial.values l.initial.starts l.at l.items l.marks l.values l.starts

abbrev pub decreases-loop-at : goal.decreases-loop-at
decreases-loop-at g l = length l.text - l.at
