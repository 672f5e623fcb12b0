use mathlib.Core.Path.{sym}
use Rattle.lossy_runs.proofs.ReadingOn.{copied_more, offsets_at, offsets_length}
use Rattle.lossy_runs.proofs.blocks.put_offsets.Goals as goal

pub loop-j-preserved : goal.loop-j-preserved
loop-j-preserved c = let l = c.loop-j in
    let a = c.args in
    copied_more l.invariant c.requires.1 (offsets_length a.at 16) c.loop-j-test.true (sym (offsets_at a.at 16 l.j c.loop-j-test.true))
