use Rattle.laws.proofs.Blocks.{at-most_join, at-most_looser}
use native.Mathlib.Omega.{arith}
use Rattle.measure_runs.proofs.utf_ebcdic.ascii_length.Goals as goal

pub loop-length-preserved : goal.loop-length-preserved
loop-length-preserved c = (omega arith, at-most_join c.loop-length.invariant.1 (at-most_looser 127 c.or16.ensures (omega arith)))
