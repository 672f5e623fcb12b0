use native.Mathlib.Omega.{arith}
use Rattle.laws.proofs.ReadItems.{item-onward}
use Rattle.lossy_runs.proofs.ReadingOn.{character-item, read-character}
use Rattle.lossy_runs.proofs.blocks.some_at.Goals as goal

pub overflow_add-to : goal.overflow_add-to
overflow_add-to g c = omega (arith, c.requires.short, item-onward (character-item c.in-Some.ensures))

pub loop-to-preserved : goal.loop-to-preserved
loop-to-preserved g c = read-character c.requires c.loop-to.invariant c.in-Some.ensures
