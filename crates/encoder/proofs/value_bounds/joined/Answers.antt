use Rattle.laws.proofs.Blocks.{at-most-or}
use Rattle.encoder.proofs.Parts.{from_start}
use Rattle.encoder.proofs.value_bounds.joined.Goals as goal

pub loop-value-preserved : goal.loop-value-preserved
loop-value-preserved c = at-most-or _ c.loop-value.invariant (from_start c.args.values.now c.loop-value.value-index)
