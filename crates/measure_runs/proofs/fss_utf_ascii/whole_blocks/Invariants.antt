use Prim.Native.Nat.{◌+◌, ◌-◌, ◌≤◌}
use lib.ListN.{length}
use Rattle.laws.proofs.Blocks.{AtMost}
use Rattle.measure_runs.proofs.fss_utf_ascii.whole_blocks.Given as goal

abbrev pub invariant-loop-length : goal.invariant-loop-length
invariant-loop-length l = (l.at + l.length ≤ lib.ListN.length l.src) × AtMost l.src l.at l.length 127

abbrev pub decreases-loop-length : goal.decreases-loop-length
decreases-loop-length l = lib.ListN.length l.src - (l.at + l.length)

abbrev pub invariant-loop-length-2 : goal.invariant-loop-length-2
invariant-loop-length-2 l = (l.at + l.length ≤ lib.ListN.length l.src) × AtMost l.src l.at l.length 127

abbrev pub decreases-loop-length-2 : goal.decreases-loop-length-2
decreases-loop-length-2 l = lib.ListN.length l.src - (l.at + l.length)
