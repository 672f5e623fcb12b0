use Prim.Native.Nat.{◌<◌}
use Rattle.forms.specs.Forms.{fss_utf}
use Rattle.lossy_runs.proofs.ReadingOn.{Loading}
use Rattle.lossy_runs.proofs.fss_utf.FssUtfBlocks.block_at.Given as goal

abbrev pub invariant-loop-j : goal.invariant-loop-j
invariant-loop-j l = Loading fss_utf l.text l.at l.j l.block (l.all < 0x80)
