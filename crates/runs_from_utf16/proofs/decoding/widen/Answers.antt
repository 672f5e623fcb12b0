use native.Mathlib.Omega.{arith}
use Rattle.laws.proofs.Values.{copied_more}
use Rattle.runs_from_utf16.proofs.decoding.widen.Goals as goal

pub loop-k-preserved : goal.loop-k-preserved
loop-k-preserved c = (omega (arith, c.loop-k-test.true), copied_more c.requires.0 c.requires.1 c.loop-k.invariant.1 _ c.from.ensures c.loop-k-test.true)
