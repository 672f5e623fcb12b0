use Rattle.lossy_runs.proofs.ReadingOn.{read-after}
use Rattle.lossy_runs.proofs.blocks.read_on.Goals as goal

pub returns : goal.returns
returns g c = read-after c.block_at-block.ensures c.if-block-at.false c.some_at.ensures
