use Prim.Native.Nat.{◌+◌, ◌-◌}
use lib.ListN.{length}
use Rattle.measure_runs.specs.Validation.{Blocks}
use Rattle.measure_runs.proofs.fss_utf.valid_blocks.Given as goal

abbrev pub invariant-loop-length : goal.invariant-loop-length
invariant-loop-length l = Blocks l.weights l.src l.at l.length l.units

abbrev pub decreases-loop-length : goal.decreases-loop-length
decreases-loop-length l = lib.ListN.length l.src - (l.at + l.length)
