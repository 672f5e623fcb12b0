use Rattle.laws.proofs.Values.{written_run}
use Rattle.runs_from_utf16.proofs.to_ucs4.quarters.Goals as goal

pub loop-length-preserved : goal.loop-length-preserved
loop-length-preserved c = written_run c.requires.1 c.loop-length.invariant c.quarter-run.ensures.0
