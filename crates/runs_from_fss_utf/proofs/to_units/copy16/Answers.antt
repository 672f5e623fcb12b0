use Prim.Native.Nat.{◌+◌, ◌<◌}
use lib.ListN.{get_or}
use Rattle.laws.proofs.Blocks.{at-most-or, held_more, copied_more}
use Rattle.laws.proofs.Runs.{wrote_block}
use Rattle.measure_runs.proofs.FssUtfAsciiCounting.{ascii_run}
use native.Mathlib.Omega.{arith}
use Rattle.runs_from_fss_utf.proofs.to_units.copy16.Goals as goal

pub loop-i-preserved : goal.loop-i-preserved
loop-i-preserved g c = (at-most-or _ c.loop-i.invariant.0 c.from-value.ensures, held_more _ c.loop-i.invariant.1 c.loop-i-test.true c.from-value.ensures)

pub loop-k-preserved : goal.loop-k-preserved
loop-k-preserved g c =
    let m = g.met.F.TargetForm in
    rw c.put_value.ensures (copied_more c.loop-k.invariant (rw (m.counted _) c.requires.1) c.loop-i.invariant.1.long c.loop-k-test.true)

pub returns : goal.returns
returns g c =
    let l = c.loop-i.invariant in (
      λ t.
          wrote_block (omega (arith, c.requires.0)) l.1.long
          (λ j h.
          let u = get_or c.args.src.now (c.args.at + j) 0 in
          let a : u < 0x80 = omega (arith, l.0.each j (omega arith), c.if-joined-ge128.false) in
          ascii_run (omega (arith, c.requires.0)) a (g.met.F.WideForm.below u (omega arith)) (l.1.each j (omega arith)))
          c.loop-k.invariant c.loop-k-test.false,
      λ f. cc,
    )
