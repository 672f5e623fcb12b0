use Rattle.laws.proofs.Runs.{counted_join}
use Rattle.measure_runs.proofs.UtfEbcdicExchanging.{ascii_counted}
use Rattle.measure_runs.proofs.utf_ebcdic.count.Goals as goal

pub returns : goal.returns
returns c = let a = c.ascii_length-ascii.ensures in counted_join (ascii_counted c.args.target a.0 a.1) c.few-rest.ensures
