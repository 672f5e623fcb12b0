use Rattle.measure_runs.proofs.FssUtfAsciiCounting.{ascii_counted}
use Rattle.measure_runs.proofs.fss_utf.count.Goals as goal

pub returns-then-ascii-ne0 : goal.returns-then-ascii-ne0
returns-then-ascii-ne0 c = ascii_counted c.args.target c.ascii_length-ascii.ensures.0 c.ascii_length-ascii.ensures.1
