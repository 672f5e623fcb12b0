use Rattle.laws.proofs.Progress.{character-onward}
use Rattle.laws.proofs.Runs.{writing_run_begin, writing_run_held, writing_run_more}
use native.Mathlib.Omega.{arith}
use Rattle.runs_from_utf16.proofs.to_utf_ebcdic.write.Goals as goal

pub loop-length-init : goal.loop-length-init
loop-length-init c = writing_run_begin (omega (arith, c.requires.0)) c.requires.1

pub write-end-requires : goal.write-end-requires
write-end-requires c = let h = writing_run_held c.loop-length.invariant c.in-Some.ensures in (h.0, h.1)

pub loop-length-preserved : goal.loop-length-preserved
loop-length-preserved c = writing_run_more c.loop-length.invariant c.in-Some.ensures c.write-end.ensures.0 c.write-end.ensures.1

pub overflow_add-length : goal.overflow_add-length
overflow_add-length c = omega (arith, (character-onward c.in-Some.ensures).1, c.well_formed)

pub loop-length-smaller : goal.loop-length-smaller
loop-length-smaller c = omega (arith, (character-onward c.in-Some.ensures).0, c.loop-length-test.true)
