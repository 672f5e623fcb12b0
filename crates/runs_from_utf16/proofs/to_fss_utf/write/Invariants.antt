use Prim.Native.Nat.{◌-◌}
use lib.ListN.{length as long}
use Rattle.forms.specs.Forms.{utf16, fss_utf}
use Rattle.laws.proofs.Values.{WrittenTo}
use Rattle.runs_from_utf16.proofs.to_fss_utf.write.Given as goal

abbrev pub invariant-loop-length : goal.invariant-loop-length
invariant-loop-length l = WrittenTo utf16 fss_utf l.src l.at l.length l.initial.dst l.written l.end l.dst

abbrev pub decreases-loop-length : goal.decreases-loop-length
decreases-loop-length l = long l.src - l.at - l.length
