use Prim.Native.Nat.{ℕ, ◌≤◌, ◌*◌}
use mathlib.Core.Path.{◌≡◌}
use lib.ListN.{get_or}
use Rattle.laws.proofs.Runs.{sum as total}
use Rattle.measure_runs.proofs.utf16.sum.Given as goal

abbrev pub invariant-loop-unit : goal.invariant-loop-unit
invariant-loop-unit g l =
    (l.units ≤ 5 * l.unit-index)
    × ((a : ℕ → ℕ) → ((u r : ℕ) → goal.F-post g l.fn.counted u r → r ≡ a u) → l.units ≡ total (λ i. a (get_or l.fn.src i 0)) l.at l.unit-index)
