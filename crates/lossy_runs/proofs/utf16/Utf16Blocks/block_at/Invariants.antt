use mathlib.Core.Path.{◌≡◌}
use mathlib.Core.Bool.{false}
use Rattle.forms.specs.Forms.{utf16}
use Rattle.lossy_runs.proofs.ReadingOn.{Loading}
use Rattle.lossy_runs.proofs.utf16.Utf16Blocks.block_at.Given as goal

abbrev pub invariant-loop-j : goal.invariant-loop-j
invariant-loop-j l = Loading utf16 l.text l.at l.j l.block (l.found ≡ false)
