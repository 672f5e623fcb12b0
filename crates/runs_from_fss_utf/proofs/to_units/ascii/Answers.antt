use Prim.Native.Nat.{◌+◌, ◌<◌}
use lib.ListN.{get_or}
use Rattle.laws.proofs.Runs.{copying_run_begin, copying_run_more}
use Rattle.measure_runs.proofs.FssUtfAsciiCounting.{ascii_more}
use native.Mathlib.Omega.{arith}
use Rattle.runs_from_fss_utf.proofs.to_units.ascii.Goals as goal

pub loop-taken-init : goal.loop-taken-init
loop-taken-init g c = copying_run_begin c.requires.0 (rw (g.met.F.TargetForm.counted _) c.requires.1)

pub loop-taken-preserved : goal.loop-taken-preserved
loop-taken-preserved g c =
    copying_run_more c.loop-taken.invariant (rw (g.met.F.TargetForm.counted _) (omega (arith, c.if-dst-written-lt16.false))) (c.copy16.ensures.0 c.if-not-copy16.false)

pub loop-k-preserved : goal.loop-k-preserved
loop-k-preserved g c =
    let l = c.loop-k in
    let m = g.met.F.TargetForm in
    let u = get_or c.args.src.now (c.args.at + l.k) 0 in
    let a : u < 0x80 = omega (arith, c.if-byte-ge128.false) in
    rw c.put_value.ensures
    (ascii_more l.invariant (omega (arith, c.loop-k-test.true)) (rw (m.counted _) (omega (arith, c.if-dst-written.false))) a (g.met.F.WideForm.below u (omega arith)) c.from.ensures)
