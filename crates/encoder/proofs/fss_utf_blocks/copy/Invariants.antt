use Prim.Native.Nat.{◌+◌}
use Rattle.forms.specs.Forms.{fss_utf}
use Rattle.laws.proofs.Values.{Encoded}
use Rattle.encoder.proofs.fss_utf_blocks.copy.Given as goal

abbrev pub invariant-loop-k : goal.invariant-loop-k
invariant-loop-k l = Encoded fss_utf l.values 0 l.k l.initial.dst l.at (l.at + l.k) l.dst
