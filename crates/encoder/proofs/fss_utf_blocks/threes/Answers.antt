use Rattle.std.proofs.Common.{arith}
use Rattle.laws.proofs.Values.{encoded_one, value_room, encoded_join}
use Rattle.encoder.proofs.Parts.{from_start}
use Rattle.encoder.proofs.fss_utf_blocks.threes.Goals as goal

pub three-end-requires : goal.three-end-requires
three-end-requires c =
    let p = c.requires in
    let i = c.loop-value.value-index in
    let h = c.loop-value-test.true in
    let e = from_start c.args.values.now i in
    rw e (p.0.each i h, p.3.each i h, omega (arith, p.2.each i h), value_room p.0.inside p.1 h c.loop-value.invariant)

pub loop-value-preserved : goal.loop-value-preserved
loop-value-preserved c =
    let i = c.loop-value.value-index in
    let h = c.loop-value-test.true in
    let e = from_start c.args.values.now i in
    let w = c.three-end.ensures in
    encoded_join c.requires.1 (omega (arith, h)) c.loop-value.invariant (encoded_one (omega (arith, h)) e w.0 w.1)
