use Prim.Native.Nat.{◌+◌}
use Rattle.items.proofs.Tails.{JoiningBytes}
use Rattle.items.proofs.bytes.tail_at.Given as goal

abbrev pub invariant-loop-count : goal.invariant-loop-count
invariant-loop-count l = JoiningBytes l.form l.text l.from l.asked l.lead l.count (l.from + l.count) l.value
