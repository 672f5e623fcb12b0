use Rattle.laws.proofs.Blocks.{at-most-or}
use Rattle.measure_runs.proofs.Slices.{unit_at}
use Rattle.measure_runs.proofs.fss_utf_ascii.joined.Goals as goal

pub loop-byte-preserved : goal.loop-byte-preserved
loop-byte-preserved c = at-most-or _ c.loop-byte.invariant (unit_at c.args.src.now c.args.at c.args.count c.loop-byte.byte-index c.loop-byte-test.true)
