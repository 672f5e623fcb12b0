use Prim.Native.Nat.{◌≤◌, ◌*◌}
use mathlib.Core.Path.{◌≡◌}
use Rattle.laws.proofs.Runs.{sum as total}
use Rattle.measure_runs.specs.Ucs4Bounds.{is_excluded, units_at}
use Rattle.measure_runs.proofs.Utf16Tests.{NoneUnless}
use Rattle.measure_runs.proofs.ucs4.utf16_block.Given as goal

abbrev pub invariant-loop-unit : goal.invariant-loop-unit
invariant-loop-unit l =
    (l.sum ≤ 2 * l.unit-index) × (l.sum ≡ total (units_at l.fn.src) l.at l.unit-index) × NoneUnless is_excluded l.bad l.fn.src l.at l.unit-index
