use Prim.Native.Nat.{ℕ, ◌-◌, ◌≤◌}
use mathlib.Core.Path.{◌≡◌}
use mathlib.Core.Bool.{Bool}
use lib.ListN.{get_or}
use Rattle.std.specs.Int.{from_bool}
use Rattle.laws.proofs.Runs.{sum as total}
use Rattle.measure_runs.proofs.fss_utf_weights.count64.Given as goal

abbrev pub invariant-loop-i : goal.invariant-loop-i
invariant-loop-i g l =
    (l.count ≤ l.i)
    × ((t : ℕ → ℕ → Bool) → ((p b : ℕ) (r : Bool) → goal.F-post g l.test p b r → r ≡ t p b) → l.count ≡ total (λ i. from_bool (t (get_or l.src (i - 1) 0) (get_or l.src i 0))) l.at l.i)
