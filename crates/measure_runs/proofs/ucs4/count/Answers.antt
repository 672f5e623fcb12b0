use Rattle.std.proofs.Common.{◌≡◌, ◌+◌, ◌-◌, ◌≤◌, length, arith}
use Rattle.laws.proofs.Runs.{counted_join}
use Rattle.encoder.proofs.Parts.{part_at_most}
use Rattle.measure_runs.proofs.ucs4.count.Goals as goal

pub block-requires : goal.block-requires
block-requires c =
    let s = c.args.src.now in
    let p = c.args.at + c.loop-length.length in
    let n = p + 32 - p in
    let e : n ≡ 32 = omega arith in
    let h : p + 32 ≤ length s = omega (arith, c.loop-length-test.true) in
    (omega arith, h, rw e at (part_at_most s p n (omega (arith, h)) c.joined-most.ensures))

pub loop-length-preserved : goal.loop-length-preserved
loop-length-preserved c = counted_join c.loop-length.invariant c.in-Some.ensures

pub block-requires-2 : goal.block-requires-2
block-requires-2 c =
    let s = c.args.src.now in
    let p = c.args.at + c.loop-length.length in
    let n = length s - p in
    let e : n ≡ length s - c.args.at - c.loop-length.length = omega arith in
    let h : p + n ≤ length s = omega (arith, c.requires.0, c.loop-length.invariant) in
    (omega (arith, c.loop-length-test.false), rw e at h, rw e at (part_at_most s p n h c.joined-most-2.ensures))

pub returns : goal.returns
returns c = counted_join c.loop-length.invariant c.in-Some-block.ensures
