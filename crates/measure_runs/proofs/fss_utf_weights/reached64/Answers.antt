use mathlib.Core.Path.{sym}
use lib.Dec.{leb}
use Rattle.std.proofs.Common.{rules}
use Rattle.measure_runs.proofs.Validating.{none-reached}
use Rattle.measure_runs.proofs.fss_utf_weights.reached64.Goals as goal

pub returns-in-Some : goal.returns-in-Some
returns-in-Some c = rw c.in-Some.is (c.count64.ensures (λ p b. leb c.in-Some.weight b) (λ p b r e. search rules))

pub returns-in-None : goal.returns-in-None
returns-in-None c = rw c.in-None.is (sym (none-reached c.args.src.now c.args.at 64))
