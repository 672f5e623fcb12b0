use Prim.Native.Nat.{◌-◌}
use Rattle.forms.specs.Forms.{fss_utf, utf_ebcdic}
use Rattle.laws.proofs.Runs.{WritingRun}
use Rattle.runs_from_fss_utf.proofs.to_utf_ebcdic.write.Given as goal

abbrev pub invariant-loop-length : goal.invariant-loop-length
invariant-loop-length l = WritingRun fss_utf utf_ebcdic l.src l.at l.written l.initial.dst l.length l.units l.dst

abbrev pub decreases-loop-length : goal.decreases-loop-length
decreases-loop-length l = l.room - l.length
