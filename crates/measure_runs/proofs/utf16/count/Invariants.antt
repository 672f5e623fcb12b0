use Prim.Native.Nat.{◌-◌, ◌≤◌}
use lib.ListN.{length as long}
use Rattle.forms.specs.Forms.{utf16, strictly}
use Rattle.laws.proofs.Runs.{Counted}
use Rattle.encoder.specs.Target.{target_form}
use Rattle.measure_runs.proofs.utf16.count.Given as goal

abbrev pub invariant-loop-next : goal.invariant-loop-next
invariant-loop-next l =
    (l.at ≤ l.next) × (l.next ≤ long l.src) × Counted utf16 (strictly (target_form l.target)) l.src l.at (l.next - l.at) l.units

abbrev pub decreases-loop-next : goal.decreases-loop-next
decreases-loop-next l = long l.src - l.next
