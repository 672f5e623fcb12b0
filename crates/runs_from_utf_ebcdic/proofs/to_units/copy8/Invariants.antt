use Prim.Native.Nat.{◌≤◌}
use mathlib.Core.List.{map}
use Rattle.forms.specs.Exchange.{i8_of}
use Rattle.laws.proofs.Blocks.{AtMost, Held, Copied}
use Rattle.runs_from_utf_ebcdic.proofs.to_units.copy8.Given as goal

abbrev pub invariant-loop-i : goal.invariant-loop-i
invariant-loop-i g l = (l.i ≤ 8) × AtMost (map i8_of l.src) l.at l.i l.joined × Held i8_of l.src l.at 8 l.i l.block

abbrev pub invariant-loop-k : goal.invariant-loop-k
invariant-loop-k g l = let f = g.F.TargetForm in Copied (f.units l.initial.dst) l.written 8 l.block l.k (f.units l.dst)
