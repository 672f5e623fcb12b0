use native.Mathlib.Omega.{arith}
use Rattle.laws.proofs.Values.{written_none, written_left, written_run, written_wrote}
use Rattle.runs_from_utf16.proofs.to_fss_utf.write.Goals as goal

pub loop-length-init : goal.loop-length-init
loop-length-init c = written_none c.requires.0

pub loop-length-preserved : goal.loop-length-preserved
loop-length-preserved c = let b = c.block-run in
    written_run c.requires.1 c.loop-length.invariant b.ensures.0

pub rest-run-requires : goal.rest-run-requires
rest-run-requires c = (omega (arith, c.loop-length.invariant.run.inside), written_left c.requires.1 c.loop-length.invariant)

pub returns : goal.returns
returns c = let b = c.rest-run in
    written_wrote (written_run c.requires.1 c.loop-length.invariant b.ensures.0)
