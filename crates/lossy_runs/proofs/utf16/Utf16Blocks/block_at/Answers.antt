use Prim.Native.Nat.{◌+◌}
use mathlib.Core.Path.{sym, ◌∙◌}
use native.Mathlib.Omega.{arith}
use Rattle.laws.proofs.Values.{neither_left, neither_right}
use Rattle.lossy_runs.proofs.Units.{lone_unit}
use Rattle.lossy_runs.proofs.ReadingOn.{loading_more}
use Rattle.lossy_runs.proofs.utf16.Utf16Blocks.block_at.Goals as goal

pub loop-j-preserved : goal.loop-j-preserved
loop-j-preserved c = let l = c.loop-j in
    let x = c.from-unit.result in
    let t = c.is_surrogate-found.result in
    loading_more l.invariant c.loop-j-test.true (neither_left l.found t)
    (λ q. lone_unit (omega arith) c.from-unit.ensures (omega (arith, c.from-unit.ensures, c.type_inv.text (c.args.at + l.j))) (sym c.is_surrogate-found.ensures ∙ neither_right l.found t q))
