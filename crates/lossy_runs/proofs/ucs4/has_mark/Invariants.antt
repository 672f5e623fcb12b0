use mathlib.Core.Path.{◌≡◌}
use mathlib.Core.Bool.{false}
use Rattle.lossy_runs.proofs.Units.{CarriedIf}
use Rattle.lossy_runs.proofs.ucs4.has_mark.Given as goal

abbrev pub invariant-loop-unit : goal.invariant-loop-unit
invariant-loop-unit l = CarriedIf (l.bad ≡ false) l.block l.unit-index
