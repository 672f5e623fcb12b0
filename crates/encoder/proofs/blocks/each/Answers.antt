use Rattle.std.proofs.Common.{arith}
use Rattle.laws.proofs.Values.{encoded_one, value_room, encoded_join}
use Rattle.encoder.proofs.Parts.{from_start}
use Rattle.encoder.proofs.blocks.each.Goals as goal

pub write-end-requires : goal.write-end-requires
write-end-requires g c =
    let p = c.requires in
    let i = c.loop-value.value-index in
    let h = c.loop-value-test.true in
    let e = from_start c.args.values.now i in
    let r = value_room p.0.inside p.1 h c.loop-value.invariant in
    let n = g.met.F.TargetForm.counted c.loop-value.dst in
    rw e (p.0.each i h, rw n at r)

pub loop-value-preserved : goal.loop-value-preserved
loop-value-preserved g c =
    let i = c.loop-value.value-index in
    let h = c.loop-value-test.true in
    let e = from_start c.args.values.now i in
    let w = c.write-end.ensures in
    encoded_join c.requires.1 (omega (arith, h)) c.loop-value.invariant (encoded_one (omega (arith, h)) e w.0 w.1)
