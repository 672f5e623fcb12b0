use Prim.Native.Nat.{◌≤◌}
use Rattle.runs_from_utf16.proofs.Midway.{Midway}
use Rattle.runs_from_utf16.proofs.to_ucs4.pairs.Given as goal

abbrev pub invariant-loop-k : goal.invariant-loop-k
invariant-loop-k l = (l.k ≤ l.last) × Midway l.src l.at l.written l.initial.dst l.k l.end l.dst
