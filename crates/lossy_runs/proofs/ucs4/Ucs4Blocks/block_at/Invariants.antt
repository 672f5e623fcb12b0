use Prim.Native.Nat.{◌<◌}
use Rattle.forms.specs.Forms.{ucs4}
use Rattle.lossy_runs.specs.Ucs4Units.{AllCarried}
use Rattle.lossy_runs.proofs.Units.{CarriedIf}
use Rattle.lossy_runs.proofs.ReadingOn.{Loading}
use Rattle.lossy_runs.proofs.ucs4.Ucs4Blocks.block_at.Given as goal

abbrev pub invariant-loop-j : goal.invariant-loop-j
invariant-loop-j l = Loading ucs4 l.text l.at l.j l.block (AllCarried l.block l.j) × CarriedIf (l.all < 0xD800) l.block l.j
