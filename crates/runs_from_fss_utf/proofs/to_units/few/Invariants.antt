use Prim.Native.Nat.{◌-◌}
use Rattle.forms.specs.Forms.{fss_utf}
use Rattle.laws.proofs.Runs.{WritingRun}
use Rattle.runs_from_fss_utf.proofs.to_units.few.Given as goal

abbrev pub invariant-loop-length : goal.invariant-loop-length
invariant-loop-length g l = let f = g.F.TargetForm in WritingRun fss_utf f.form l.src l.at l.written (f.units l.initial.dst) l.length l.units (f.units l.dst)

abbrev pub decreases-loop-length : goal.decreases-loop-length
decreases-loop-length g l = l.room - l.length
