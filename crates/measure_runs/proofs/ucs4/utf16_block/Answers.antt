use Prim.Native.Nat.{◌+◌}
use mathlib.Core.Path.{◌≡◌, refl, sym, ap, ◌∙◌}
use native.Mathlib.Omega.{arith}
use Rattle.laws.proofs.Runs.{sum_zero, sum_more}
use Rattle.measure_runs.specs.Ucs4Bounds.{is_excluded, units_at}
use Rattle.measure_runs.proofs.Slices.{unit_at}
use Rattle.measure_runs.proofs.Ucs4Counting.{units-most, counted-utf16}
use Rattle.measure_runs.proofs.Utf16Tests.{none_begin, none_more, none_end}
use Rattle.measure_runs.proofs.ucs4.utf16_block.Goals as goal

pub loop-unit-init : goal.loop-unit-init
loop-unit-init c = (omega arith, sym (sum_zero _ _), none_begin)

pub loop-unit-preserved : goal.loop-unit-preserved
loop-unit-preserved c =
    let a = c.args in
    let l = c.loop-unit in
    let u = unit_at a.src.now a.at a.count l.unit-index c.loop-unit-test.true in
    let e : 1 + c.from.result ≡ units_at a.src.now (a.at + l.unit-index) = rw (c.from.ensures, u) refl in (
      omega (arith, l.invariant.0, e, units-most a.src.now (a.at + l.unit-index)),
      rw (e, l.invariant.1) (sym (sum_more (units_at a.src.now) a.at l.unit-index)),
      none_more l.invariant.2 (c.is_excluded-bad.ensures ∙ ap is_excluded u),
    )

pub returns-else-bad : goal.returns-else-bad
returns-else-bad c =
    let a = c.args in
    let p = c.requires in
    let l = c.loop-unit in
    let e : l.unit-index ≡ a.count = omega arith in
    rw (l.invariant.1, e) (counted-utf16 a.src.now a.at a.count a.most p.1 p.2 p.3 (none_end l.invariant.2 (omega arith) c.if-bad.false))
