use Prim.Native.Nat.{◌-◌}
use mathlib.Core.Path.{sym, ap, ◌∙◌}
use native.Mathlib.Omega.{arith}
use lib.ListN.{get_or}
use Rattle.std.specs.Int.{from_bool}
use Rattle.laws.proofs.Runs.{sum_zero, sum_more}
use Rattle.measure_runs.proofs.Validating.{from_bool-most}
use Rattle.measure_runs.proofs.fss_utf_weights.count64.Goals as goal

pub loop-i-init : goal.loop-i-init
loop-i-init g c = (omega arith, λ t h. sym (sum_zero _ _))

pub loop-i-preserved : goal.loop-i-preserved
loop-i-preserved g c =
    let l = c.loop-i in
    let s = c.args.src.now in (
      omega (arith, l.invariant.0, c.from-count.ensures, from_bool-most c.test.result),
      λ t h.
          let e = c.from-count.ensures ∙ ap from_bool (h _ _ _ c.test.ensures) in
          rw (e, l.invariant.1 t h) (sym (sum_more (λ i. from_bool (t (get_or s (i - 1) 0) (get_or s i 0))) c.args.at l.i)),
    )

pub returns : goal.returns
returns g c = λ t h. search (arith, c.loop-i.invariant.1 t h)
