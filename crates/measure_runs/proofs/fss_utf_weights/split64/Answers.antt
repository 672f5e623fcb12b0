use mathlib.Core.Path.{sym}
use Rattle.std.proofs.Common.{rules, Some}
use Rattle.measure_runs.specs.Validation.{splits}
use Rattle.measure_runs.proofs.Validating.{none_split}
use Rattle.measure_runs.proofs.fss_utf_weights.split64.Goals as goal

pub returns-in-Some : goal.returns-in-Some
returns-in-Some c = rw c.in-Some.is (c.count64.ensures (splits (Some c.in-Some.split)) (λ p b r e. search rules))

pub returns-in-None : goal.returns-in-None
returns-in-None c = rw c.in-None.is (sym (none_split c.args.src.now c.args.at 64))
