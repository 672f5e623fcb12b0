use Rattle.forms.specs.Forms.{is_surrogate}
use Rattle.measure_runs.proofs.Utf16Tests.{NoneUnless}
use Rattle.measure_runs.proofs.utf16_blocks.surrogates.Given as goal

abbrev pub invariant-loop-unit : goal.invariant-loop-unit
invariant-loop-unit l = NoneUnless is_surrogate l.some l.fn.src l.at l.unit-index
