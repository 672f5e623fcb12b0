use Rattle.laws.proofs.Blocks.{AtMost}
use Rattle.encoder.proofs.value_bounds.joined.Given as goal

abbrev pub invariant-loop-value : goal.invariant-loop-value
invariant-loop-value l = AtMost l.values 0 l.value-index l.most
