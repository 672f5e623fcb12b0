use Rattle.laws.proofs.Runs.{copying_run_begin, copying_run_more}
use native.Mathlib.Omega.{arith}
use Rattle.runs_from_utf_ebcdic.proofs.to_units.ascii.Goals as goal

pub loop-taken-init : goal.loop-taken-init
loop-taken-init g c = copying_run_begin c.requires.0 (rw (g.met.F.TargetForm.counted _) c.requires.1)

pub loop-taken-preserved : goal.loop-taken-preserved
loop-taken-preserved g c =
    copying_run_more c.loop-taken.invariant (rw (g.met.F.TargetForm.counted _) (omega (arith, c.if-dst-written-lt8.false))) (c.copy8.ensures.0 c.if-not-copy8.false)
