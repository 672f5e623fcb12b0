use Rattle.laws.proofs.Blocks.{at-most_join, at-most_looser}
use native.Mathlib.Omega.{arith}
use Rattle.measure_runs.proofs.fss_utf_ascii.whole_blocks.Goals as goal

pub loop-length-preserved : goal.loop-length-preserved
loop-length-preserved c = (omega arith, at-most_join c.loop-length.invariant.1 (at-most_looser 127 c.joined.ensures (omega arith)))

pub loop-length-2-preserved : goal.loop-length-2-preserved
loop-length-2-preserved c = (omega arith, at-most_join c.loop-length-2.invariant.1 (at-most_looser 127 c.joined-in-loop-length-2.ensures (omega arith)))
