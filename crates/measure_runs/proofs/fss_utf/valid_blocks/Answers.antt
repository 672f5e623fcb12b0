use Prim.Native.Nat.{◌+◌}
use Rattle.measure_runs.specs.Validation.{Blocks}
use Rattle.measure_runs.proofs.Validating.{blocks_none, blocks_more, units-most}
use native.Mathlib.Omega.{arith}
use Rattle.measure_runs.proofs.fss_utf.valid_blocks.Goals as goal

pub loop-length-init : goal.loop-length-init
loop-length-init c = blocks_none c.requires.1

pub overflow_add-units : goal.overflow_add-units
overflow_add-units c =
    let turned : (let l = c.loop-length in
    let a = c.args in
    Blocks a.weights a.src.now a.at (l.length + 64) (l.units + c.added64-units.result)) =
    blocks_more c.loop-length.invariant (omega arith) (c.ill_formed64.ensures c.if-ill_formed64.false) c.added64-units.ensures in
    let l = c.loop-length in
    omega (arith, turned.counted, turned.inside, units-most c.args.weights c.args.src.now c.args.at (l.length + 64), c.requires.2)

pub loop-length-preserved : goal.loop-length-preserved
loop-length-preserved c =
    let turned : (let l = c.loop-length in
    let a = c.args in
    Blocks a.weights a.src.now a.at (l.length + 64) (l.units + c.added64-units.result)) =
    blocks_more c.loop-length.invariant (omega arith) (c.ill_formed64.ensures c.if-ill_formed64.false) c.added64-units.ensures in
    turned
