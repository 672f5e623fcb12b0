use Prim.Native.Nat.{◌+◌}
use Rattle.forms.specs.Forms.{utf16}
use Rattle.laws.proofs.Values.{Encoded}
use Rattle.encoder.proofs.utf16_blocks.copy.Given as goal

abbrev pub invariant-loop-k : goal.invariant-loop-k
invariant-loop-k l = Encoded utf16 l.values 0 l.k l.initial.dst l.at (l.at + l.k) l.dst
