use Rattle.std.proofs.Common.{◌≡◌, ◌+◌, ◌<◌, length, arith}
use Rattle.laws.proofs.Spare.{overrun_last-room, overrun_last}
use Rattle.encoder.proofs.Overruns.{twos_below, twos_room, twos_more}
use Rattle.encoder.proofs.Parts.{others_length, others_value, last_value}
use Rattle.encoder.proofs.fss_utf_blocks.twos.Goals as goal

pub overrun-end-requires : goal.overrun-end-requires
overrun-end-requires c =
    let a = c.args in
    let o = c.in-Some.others.now in
    let p = c.requires in
    let e = c.in-Some.ensures.cases.0 in
    let n = others_length a.values.now o c.in-Some.last.now e in
    let v = others_value a.values.now o c.in-Some.last.now e c.loop-value.value-index c.loop-value-test.true in
    let h : c.loop-value.value-index + 1 < length a.values.now = omega (arith, n, c.loop-value-test.true) in
    rw v (twos_below p.0 p.1 p.2 c.loop-value.invariant h, twos_room p.0 p.1 p.2 c.loop-value.invariant h)

pub loop-value-preserved : goal.loop-value-preserved
loop-value-preserved c =
    let a = c.args in
    let o = c.in-Some.others.now in
    let p = c.requires in
    let e = c.in-Some.ensures.cases.0 in
    let n = others_length a.values.now o c.in-Some.last.now e in
    let v = others_value a.values.now o c.in-Some.last.now e c.loop-value.value-index c.loop-value-test.true in
    let h : c.loop-value.value-index + 1 < length a.values.now = omega (arith, n, c.loop-value-test.true) in
    let w = c.overrun-end.ensures in
    twos_more p.0 p.1 p.2 c.loop-value.invariant h (rw v at w.0) (rw v at w.1)

pub write-requires : goal.write-requires
write-requires c =
    let a = c.args in
    let o = c.in-Some.others.now in
    let p = c.requires in
    let e = c.in-Some.ensures.cases.0 in
    let n = others_length a.values.now o c.in-Some.last.now e in
    let v = last_value a.values.now o c.in-Some.last.now e in
    let k : c.loop-value.value-index ≡ length o = omega (arith, c.loop-value-test.false, c.loop-value.auto.value-index-end) in
    let h : length o < length a.values.now = omega (arith, n) in
    rw v (p.0.each (length o) h, overrun_last-room p.0 p.1 (rw k at c.loop-value.invariant) h)

pub returns : goal.returns
returns c =
    let a = c.args in
    let o = c.in-Some.others.now in
    let p = c.requires in
    let e = c.in-Some.ensures.cases.0 in
    let n = others_length a.values.now o c.in-Some.last.now e in
    let v = last_value a.values.now o c.in-Some.last.now e in
    let k : c.loop-value.value-index ≡ length o = omega (arith, c.loop-value-test.false, c.loop-value.auto.value-index-end) in
    let w = c.write.ensures in
    overrun_last p.0 p.1 (rw k at c.loop-value.invariant) (omega (arith, n)) n (rw v at w.0) (rw v at w.1)
