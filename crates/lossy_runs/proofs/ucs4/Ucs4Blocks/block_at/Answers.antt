use Prim.Native.Nat.{◌+◌, ◌<◌}
use mathlib.Core.Path.{refl}
use native.Mathlib.Omega.{arith}
use lib.ListN.{length, get_or}
use Rattle.characters.proofs.Shorts.{or_left, or_right}
use Rattle.lossy_runs.proofs.Units.{carried-before, carried-last, carried-put, below_carried, ucs4-unit}
use Rattle.lossy_runs.proofs.ReadingOn.{loading_more}
use Rattle.lossy_runs.proofs.ucs4.Ucs4Blocks.block_at.Goals as goal

pub loop-j-preserved : goal.loop-j-preserved
loop-j-preserved c = let l = c.loop-j in
    let z = c.args in
    let x = get_or z.text.now (z.at + l.j) 0 in
    let h = c.loop-j-test.true in
    let k : l.j < length l.block = omega (arith, h, l.invariant.0.long) in (
      loading_more l.invariant.0 h (carried-before l.block l.j x k) (λ q. ucs4-unit (omega arith) refl (carried-last l.block l.j x k q)),
      record {
        all =
            λ q. carried-put l.block l.j x k (l.invariant.1.all (omega (arith, q, or_left l.all x))) (below_carried (omega (arith, q, or_right l.all x)));
      },
    )
