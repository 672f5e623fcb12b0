use Rattle.laws.proofs.Blocks.{at-most_join, at-most_looser}
use native.Mathlib.Omega.{arith}
use Rattle.measure_runs.proofs.fss_utf_ascii.ascii_length.Goals as goal

pub returns : goal.returns
returns c = (omega arith, at-most_join c.whole_blocks-length.ensures.1 (at-most_looser 127 c.joined.ensures (omega arith)))
