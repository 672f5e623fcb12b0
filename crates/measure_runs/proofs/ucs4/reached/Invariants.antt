use Prim.Native.Nat.{◌≤◌, ◌*◌}
use mathlib.Core.Path.{◌≡◌}
use Rattle.laws.proofs.Runs.{sum as total}
use Rattle.measure_runs.specs.Ucs4Bounds.{reached_at}
use Rattle.measure_runs.proofs.ucs4.reached.Given as goal

abbrev pub invariant-loop-unit : goal.invariant-loop-unit
invariant-loop-unit l = (l.sum ≤ 3 * l.unit-index) × (l.sum ≡ total (reached_at l.first l.second l.third l.fn.src) l.at l.unit-index)
