use Rattle.laws.proofs.Blocks.{AtMost}
use Rattle.measure_runs.proofs.fss_utf_ascii.joined.Given as goal

abbrev pub invariant-loop-byte : goal.invariant-loop-byte
invariant-loop-byte l = AtMost l.fn.src l.at l.byte-index l.most
