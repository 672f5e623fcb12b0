use Rattle.lossy_runs.specs.ReadOn.{offsets_from}
use Rattle.lossy_runs.proofs.ReadingOn.{Copied}
use Rattle.lossy_runs.proofs.blocks.put_offsets.Given as goal

abbrev pub invariant-loop-j : goal.invariant-loop-j
invariant-loop-j l = Copied l.initial.cells l.from (offsets_from l.at 16) l.j l.cells
