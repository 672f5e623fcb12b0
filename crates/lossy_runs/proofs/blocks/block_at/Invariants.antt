use Rattle.lossy_runs.proofs.ReadingOn.{Copied}
use Rattle.lossy_runs.proofs.blocks.block_at.Given as goal

abbrev pub invariant-loop-k : goal.invariant-loop-k
invariant-loop-k g l = Copied l.initial.values l.items l.block l.k l.values
