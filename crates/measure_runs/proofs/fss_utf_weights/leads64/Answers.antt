use Rattle.std.proofs.Common.{rules, not}
use Rattle.measure_runs.specs.Validation.{is_trailing_byte}
use Rattle.measure_runs.proofs.fss_utf_weights.leads64.Goals as goal

pub returns : goal.returns
returns c = c.count64.ensures (λ p b. not (is_trailing_byte b)) (λ p b r e. search rules)
