use Prim.Native.Nat.{◌+◌, ◌-◌, ◌≤◌}
use lib.ListN.{length}
use mathlib.Core.List.{map}
use Rattle.forms.specs.Exchange.{i8_of}
use Rattle.laws.proofs.Blocks.{AtMost}
use Rattle.measure_runs.proofs.utf_ebcdic.ascii_length.Given as goal

abbrev pub invariant-loop-length : goal.invariant-loop-length
invariant-loop-length l = (l.at + l.length ≤ lib.ListN.length l.src) × AtMost (map i8_of l.src) l.at l.length 127

abbrev pub decreases-loop-length : goal.decreases-loop-length
decreases-loop-length l = lib.ListN.length l.src - (l.at + l.length)
