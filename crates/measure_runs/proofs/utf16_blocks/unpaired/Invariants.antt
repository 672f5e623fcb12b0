use Rattle.measure_runs.proofs.Utf16Tests.{PairedUnless}
use Rattle.measure_runs.proofs.utf16_blocks.unpaired.Given as goal

abbrev pub invariant-loop-k : goal.invariant-loop-k
invariant-loop-k l = PairedUnless l.bad l.src l.at l.k
