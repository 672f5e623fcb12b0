use Rattle.measure_runs.proofs.Validating.{padded_put}
use Rattle.measure_runs.proofs.fss_utf.put.Goals as goal

pub returns : goal.returns
returns c = rw c.copy_from_slice.ensures.after (padded_put c.args.count c.requires.2 c.requires.0 c.requires.1)
