use Rattle.std.proofs.Common.{◌+◌, ◌<◌, get_or, arith}
use Rattle.laws.proofs.Values.{encoded_put}
use Rattle.encoder.proofs.FssUtf.{one_byte}
use Rattle.encoder.proofs.Parts.{from_start}
use Rattle.encoder.proofs.fss_utf_blocks.copy.Goals as goal

pub bounds-dst-at : goal.bounds-dst-at
bounds-dst-at c =
    let ascii : get_or c.args.values.now (0 + c.loop-k.k) 0 < 0x80 = omega (arith, c.requires.2.each c.loop-k.k c.loop-k-test.true) in
    (encoded_put c.requires.1 c.requires.0.inside c.loop-k-test.true c.loop-k.invariant (one_byte _ ascii)).0

pub loop-k-preserved : goal.loop-k-preserved
loop-k-preserved c =
    let ascii : get_or c.args.values.now (0 + c.loop-k.k) 0 < 0x80 = omega (arith, c.requires.2.each c.loop-k.k c.loop-k-test.true) in
    let e = from_start c.args.values.now c.loop-k.k in
    rw e (encoded_put c.requires.1 c.requires.0.inside c.loop-k-test.true c.loop-k.invariant (one_byte _ ascii)).1
