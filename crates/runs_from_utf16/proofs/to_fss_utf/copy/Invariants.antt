use Prim.Native.Nat.{◌≤◌}
use Rattle.laws.proofs.Values.{CopiedTo}
use Rattle.runs_from_utf16.proofs.to_fss_utf.copy.Given as goal

abbrev pub invariant-loop-k : goal.invariant-loop-k
invariant-loop-k l = (l.k ≤ l.count) × CopiedTo l.src l.at l.k l.initial.dst l.written l.dst
