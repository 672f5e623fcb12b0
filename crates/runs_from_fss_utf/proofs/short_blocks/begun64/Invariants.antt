use Prim.Native.Nat.{◌+◌}
use lib.ListN.{get_or}
use Rattle.runs_from_fss_utf.specs.ShortBlock.{Filled, Begun}
use Rattle.runs_from_fss_utf.proofs.short_blocks.begun64.Given as goal

abbrev pub invariant-loop-i : goal.invariant-loop-i
invariant-loop-i l = Filled (λ k x. Begun (get_or l.src (l.at + k) 0) x) 64 l.i l.begins
