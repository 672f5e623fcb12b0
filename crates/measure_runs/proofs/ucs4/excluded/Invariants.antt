use Rattle.measure_runs.specs.Ucs4Bounds.{is_excluded}
use Rattle.measure_runs.proofs.Utf16Tests.{NoneUnless}
use Rattle.measure_runs.proofs.ucs4.excluded.Given as goal

abbrev pub invariant-loop-unit : goal.invariant-loop-unit
invariant-loop-unit l = NoneUnless is_excluded l.some l.fn.src l.at l.unit-index
