use mathlib.Core.Path.{sym, ◌∙◌}
use Prim.Native.Nat.{◌≤◌, ◌-◌}
use Rattle.measure_runs.specs.Validation.{Whole}
use Rattle.measure_runs.proofs.Validating.{whole_cut}
use native.Mathlib.Omega.{arith}
use Rattle.measure_runs.proofs.fss_utf.valid_run.Goals as goal

pub overflow_sub-result : goal.overflow_sub-result
overflow_sub-result c =
    let cut : (let v = c.valid_blocks-blocks.result in
    let z = c.args in
    (c.added_few-cut.result ≤ v.units) × Whole z.weights z.src.now z.at c.in_ok-last.last (v.units - c.added_few-cut.result)) =
    whole_cut c.valid_blocks-blocks.ensures (omega (arith, c.if-at-lt3.false)) (sym c.trails.ensures ∙ c.if-trails.false) c.in_ok-last.ensures.1
    c.in_ok-last.ensures.2 c.added_few-cut.ensures in
    cut.0

pub returns : goal.returns
returns c =
    let cut : (let v = c.valid_blocks-blocks.result in
    let z = c.args in
    (c.added_few-cut.result ≤ v.units) × Whole z.weights z.src.now z.at c.in_ok-last.last (v.units - c.added_few-cut.result)) =
    whole_cut c.valid_blocks-blocks.ensures (omega (arith, c.if-at-lt3.false)) (sym c.trails.ensures ∙ c.if-trails.false) c.in_ok-last.ensures.1
    c.in_ok-last.ensures.2 c.added_few-cut.ensures in
    cut.1
