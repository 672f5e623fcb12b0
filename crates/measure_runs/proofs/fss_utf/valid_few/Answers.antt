use Prim.Native.Nat.{◌-◌, ◌≤◌}
use mathlib.Core.Path.{sym, ◌∙◌}
use Rattle.measure_runs.specs.Validation.{Weighed}
use Rattle.measure_runs.proofs.Validating.{padded_none}
use Rattle.measure_runs.proofs.WellFormed.{padded_units}
use Rattle.measure_runs.proofs.fss_utf.valid_few.Goals as goal

pub put-requires : goal.put-requires
put-requires c = (c.block_length-count.ensures.0, c.block_length-count.ensures.1, padded_none c.args.src.now c.args.at)

pub overflow_sub-result-2 : goal.overflow_sub-result-2
overflow_sub-result-2 c =
    let units : (let z = c.args in
    let j = c.block_length-count.result in
    (64 - j ≤ c.added64.result) × Weighed z.weights z.src.now z.at j (c.added64.result - (64 - j))) =
    let l = c.block_length-count.ensures in
    padded_units c.put.ensures l.1 l.0 (sym c.trails.ensures ∙ c.if-trails.false) (c.ill_formed64.ensures c.if-ill_formed64.false) c.requires.1 c.added64.ensures in
    units.0

pub returns : goal.returns
returns c =
    let units : (let z = c.args in
    let j = c.block_length-count.result in
    (64 - j ≤ c.added64.result) × Weighed z.weights z.src.now z.at j (c.added64.result - (64 - j))) =
    let l = c.block_length-count.ensures in
    padded_units c.put.ensures l.1 l.0 (sym c.trails.ensures ∙ c.if-trails.false) (c.ill_formed64.ensures c.if-ill_formed64.false) c.requires.1 c.added64.ensures in
    units.1
