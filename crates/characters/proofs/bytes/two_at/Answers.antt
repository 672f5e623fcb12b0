use Rattle.std.proofs.Common.{◌+◌, ◌*◌, arith}
use Rattle.laws.proofs.Carried.{free_below}
use Rattle.characters.proofs.ByteCharacters.{two_bytes, four_rows, first_leads, last_leads, two_small}
use Rattle.characters.proofs.bytes.two_at.Goals as goal

pub returns : goal.returns
returns g c =
    let f = g.L.Layout.form in
    let p = c.requires in
    let l = c.from.result in
    let a = c.free_bits-a.result in
    let R = c.radix-radix.result in
    let r = rw c.form.ensures at c.radix-radix.ensures in
    two_bytes f c.args.text.now c.args.at (four_rows f) p.0 c.free_bits-a.ensures (rw r at c.if-radix-a.false) (rw (c.from.ensures, p.1, r, (first_leads f).1))
    (rw (c.lowest.ensures, c.form-2.ensures) at c.if-value-lowest.false)
    (free_below (l * R + a) (two_small f l R a (omega (arith, c.from.ensures, p.1, p.0.to, (last_leads f).1)) r c.if-radix-a.false))
