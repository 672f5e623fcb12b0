use Prim.Native.Nat.{◌+◌}
use mathlib.Core.Path.{◌≡◌, refl, sym}
use native.Mathlib.Omega.{arith}
use lib.ListN.{get_or}
use Rattle.laws.proofs.Runs.{sum_zero, sum_more}
use Rattle.measure_runs.specs.Ucs4Bounds.{reached_at}
use Rattle.measure_runs.proofs.Slices.{unit_at}
use Rattle.measure_runs.proofs.Ucs4Counting.{reached-most}
use Rattle.measure_runs.proofs.ucs4.reached.Goals as goal

pub loop-unit-init : goal.loop-unit-init
loop-unit-init c = (omega arith, sym (sum_zero _ _))

pub loop-unit-preserved : goal.loop-unit-preserved
loop-unit-preserved c =
    let a = c.args in
    let l = c.loop-unit in
    let k = a.at + l.unit-index in
    let e : c.from.result + c.from-in-loop-unit.result + c.from-in-loop-unit-2.result ≡ reached_at a.first a.second a.third a.src.now k =
    rw (c.from.ensures, c.from-in-loop-unit.ensures, c.from-in-loop-unit-2.ensures, unit_at a.src.now a.at a.count l.unit-index c.loop-unit-test.true) refl in (
      omega (arith, l.invariant.0, e, reached-most a.first a.second a.third (get_or a.src.now k 0)),
      rw (e, l.invariant.1) (sym (sum_more (reached_at a.first a.second a.third a.src.now) a.at l.unit-index)),
    )
