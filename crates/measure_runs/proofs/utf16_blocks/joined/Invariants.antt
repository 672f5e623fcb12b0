use Rattle.laws.proofs.Blocks.{AtMost}
use Rattle.measure_runs.proofs.utf16_blocks.joined.Given as goal

abbrev pub invariant-loop-unit : goal.invariant-loop-unit
invariant-loop-unit l = AtMost l.fn.src l.at l.unit-index l.most
