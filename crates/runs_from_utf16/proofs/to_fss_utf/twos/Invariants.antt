use Prim.Native.Nat.{◌+◌, ◌*◌, ◌≤◌}
use Rattle.forms.specs.Forms.{fss_utf}
use Rattle.laws.proofs.Spare.{Overrun}
use Rattle.runs_from_utf16.proofs.to_fss_utf.twos.Given as goal

abbrev pub invariant-loop-turn : goal.invariant-loop-turn
invariant-loop-turn l = (4 * l.turn + 1 ≤ l.count) × Overrun fss_utf l.src l.at (4 * l.turn) l.fn.dst l.written l.end l.dst

abbrev pub invariant-loop-part : goal.invariant-loop-part
invariant-loop-part l = (4 * l.turn + l.part + 1 ≤ l.count) × Overrun fss_utf l.src l.at (4 * l.turn + l.part) l.fn.dst l.written l.end l.dst

abbrev pub invariant-loop-k : goal.invariant-loop-k
invariant-loop-k l = (l.k + 1 ≤ l.count) × Overrun fss_utf l.src l.at l.k l.fn.dst l.written l.end l.dst
