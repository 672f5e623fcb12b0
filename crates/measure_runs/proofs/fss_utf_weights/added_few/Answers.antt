use mathlib.Core.Path.{◌∙◌}
use Rattle.measure_runs.proofs.Validating.{adding_none, adding_more, added-most}
use lib.ListN.{get_or}
use Prim.Native.Nat.{◌+◌, ◌-◌}
use native.Mathlib.Omega.{arith}
use Rattle.measure_runs.proofs.fss_utf_weights.added_few.Goals as goal

pub loop-i-init : goal.loop-i-init
loop-i-init c = adding_none

pub loop-i-preserved : goal.loop-i-preserved
loop-i-preserved c =
    let l = c.loop-i in
    let a = c.args in
    let k = a.at + l.i in
    let e = c.from-units.ensures ∙ c.added_by.ensures in
    adding_more l.invariant e (omega (arith, e, added-most a.weights (get_or a.src.now (k - 1) 0) (get_or a.src.now k 0)))
