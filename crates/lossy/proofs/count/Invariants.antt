use Prim.Native.Nat.{◌-◌}
use lib.ListN.{length}
use Rattle.lossy.proofs.Counting.{Counting}
use Rattle.lossy.proofs.count.Given as goal

abbrev pub invariant-loop-at : goal.invariant-loop-at
invariant-loop-at g l = Counting g.F.SourceForm.form (g.F.SourceForm.units l.text) l.at l.count

abbrev pub decreases-loop-at : goal.decreases-loop-at
decreases-loop-at g l = length l.text - l.at
