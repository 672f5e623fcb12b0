use mathlib.Core.Path.{sym, ap, ◌∙◌}
use native.Mathlib.Omega.{arith}
use lib.ListN.{get_or}
use Rattle.laws.proofs.Runs.{sum_zero, sum_more}
use Rattle.measure_runs.proofs.Slices.{unit_at}
use Rattle.measure_runs.proofs.utf16.sum.Goals as goal

pub loop-unit-init : goal.loop-unit-init
loop-unit-init g c = (omega arith, λ a h. sym (sum_zero _ _))

pub loop-unit-preserved : goal.loop-unit-preserved
loop-unit-preserved g c =
    let l = c.loop-unit in
    let s = c.args.src.now in
    let at = c.args.at in (
      omega (arith, l.invariant.0, c.requires.few _ _ c.counted-units.ensures),
      λ a h.
          let e = h _ _ c.counted-units.ensures ∙ ap a (unit_at s at c.args.count l.unit-index c.loop-unit-test.true) in
          rw (e, l.invariant.1 a h) (sym (sum_more (λ i. a (get_or s i 0)) at l.unit-index)),
    )

pub returns : goal.returns
returns g c = λ a h. search (arith, c.loop-unit.invariant.1 a h)
