use Prim.Native.Nat.{◌-◌}
use Rattle.forms.specs.Forms.{utf_ebcdic, strictly}
use Rattle.laws.proofs.Runs.{Counted}
use Rattle.encoder.specs.Target.{target_form}
use Rattle.measure_runs.proofs.utf_ebcdic.few.Given as goal

abbrev pub invariant-loop-length : goal.invariant-loop-length
invariant-loop-length l = Counted utf_ebcdic (strictly (target_form l.target)) l.src l.at l.length l.units

abbrev pub decreases-loop-length : goal.decreases-loop-length
decreases-loop-length l = l.room - l.length
