use Rattle.std.proofs.Common.{arith}
use Rattle.std.proofs.lemmas.Grind.{common_steps}
use Rattle.laws.proofs.Blocks.{at-most-or}
use Rattle.measure_runs.proofs.UtfEbcdicExchanging.{exchanged-at}
use Rattle.measure_runs.proofs.utf_ebcdic.or16.Goals as goal

pub loop-byte-preserved : goal.loop-byte-preserved
loop-byte-preserved c = at-most-or _ c.loop-byte.invariant (grind (arith, common_steps, exchanged-at))
