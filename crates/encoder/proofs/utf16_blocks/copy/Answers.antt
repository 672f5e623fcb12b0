use Rattle.std.proofs.Common.{◌+◌, ◌<◌, get_or, arith}
use Rattle.forms.specs.Forms.{utf16}
use Rattle.laws.proofs.Values.{encoded_put}
use Rattle.laws.proofs.FourForms.{utf16_laws}
use Rattle.laws.proofs.UnitEncodings.{unit}
use Rattle.encoder.proofs.Parts.{from_start}
use Rattle.encoder.proofs.utf16_blocks.copy.Goals as goal

pub bounds-dst-at : goal.bounds-dst-at
bounds-dst-at c =
    let below : get_or c.args.values.now (0 + c.loop-k.k) 0 < 0x10000 = omega (arith, c.requires.2.each c.loop-k.k c.loop-k-test.true) in
    (encoded_put c.requires.1 c.requires.0.inside c.loop-k-test.true c.loop-k.invariant (unit _ utf16 utf16_laws (c.requires.0.each _ c.loop-k-test.true) below)).0

pub loop-k-preserved : goal.loop-k-preserved
loop-k-preserved c =
    let below : get_or c.args.values.now (0 + c.loop-k.k) 0 < 0x10000 = omega (arith, c.requires.2.each c.loop-k.k c.loop-k-test.true) in
    let e = from_start c.args.values.now c.loop-k.k in
    rw e (encoded_put c.requires.1 c.requires.0.inside c.loop-k-test.true c.loop-k.invariant (unit _ utf16 utf16_laws (c.requires.0.each _ c.loop-k-test.true) below)).1
