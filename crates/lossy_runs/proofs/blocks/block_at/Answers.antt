use mathlib.Core.Path.{refl}
use native.Mathlib.Omega.{arith}
use Rattle.lossy_runs.proofs.ReadingOn.{copied_more, copied_all, block_room, read_block}
use Rattle.lossy_runs.proofs.blocks.block_at.Goals as goal

pub loop-k-preserved : goal.loop-k-preserved
loop-k-preserved g c = copied_more c.loop-k.invariant (block_room c.requires c.in-Some.ensures).0 (omega arith) c.loop-k-test.true refl

pub returns : goal.returns
returns g c =
    read_block c.requires c.in-Some.ensures (omega arith) (copied_all c.loop-k.invariant (omega arith) c.loop-k-test.false) c.put_offsets.ensures
