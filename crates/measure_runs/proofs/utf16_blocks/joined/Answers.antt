use Rattle.laws.proofs.Blocks.{at-most-or}
use Rattle.measure_runs.proofs.Slices.{unit_at}
use Rattle.measure_runs.proofs.utf16_blocks.joined.Goals as goal

pub loop-unit-preserved : goal.loop-unit-preserved
loop-unit-preserved c = at-most-or _ c.loop-unit.invariant (unit_at c.args.src.now c.args.at c.args.count c.loop-unit.unit-index c.loop-unit-test.true)
