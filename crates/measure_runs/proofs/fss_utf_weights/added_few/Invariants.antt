use Rattle.measure_runs.proofs.Validating.{Adding}
use Rattle.measure_runs.specs.Validation.{added_at}
use Rattle.measure_runs.proofs.fss_utf_weights.added_few.Given as goal

abbrev pub invariant-loop-i : goal.invariant-loop-i
invariant-loop-i l = Adding (added_at l.weights l.src) 6 l.at l.i l.units
