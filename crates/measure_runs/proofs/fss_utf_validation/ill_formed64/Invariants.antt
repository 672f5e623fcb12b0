use Rattle.measure_runs.proofs.Validating.{Joined}
use Rattle.measure_runs.proofs.fss_utf_validation.ill_formed64.Given as goal

abbrev pub invariant-loop-i : goal.invariant-loop-i
invariant-loop-i l = Joined l.src l.at l.i l.joined
