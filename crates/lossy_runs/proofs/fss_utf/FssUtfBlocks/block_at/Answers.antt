use native.Mathlib.Omega.{arith}
use Rattle.characters.proofs.Shorts.{or_left, or_right, one_byte}
use Rattle.lossy_runs.proofs.ReadingOn.{loading_more}
use Rattle.lossy_runs.proofs.fss_utf.FssUtfBlocks.block_at.Goals as goal

pub loop-j-preserved : goal.loop-j-preserved
loop-j-preserved c = let l = c.loop-j in
    let x = c.from-unit.result in
    loading_more l.invariant c.loop-j-test.true (λ q. omega (arith, q, or_left l.all x))
    (λ q. one_byte (omega arith) (omega (arith, q, or_right l.all x, c.from-unit.ensures)) c.from-unit.ensures)
