use Rattle.std.proofs.Common.{sym, ◌∙◌}
use Rattle.characters.proofs.ByteCharacters.{three_bytes, four_rows, first_leads}
use Rattle.characters.proofs.bytes.three_at.Goals as goal

pub returns : goal.returns
returns g c =
    let f = g.L.Layout.form in
    let p = c.requires in
    let r = rw c.form.ensures at c.radix-radix.ensures in
    three_bytes f c.args.text.now c.args.at (four_rows f) p.0 c.free_bits-a.ensures c.free_bits-b.ensures (rw r at c.if-radix-a.false)
    (rw (c.from.ensures, p.1, r, (first_leads f).2)) (rw (c.lowest.ensures, c.form-2.ensures) at c.if-value-lowest.false)
    (rw (sym c.is_surrogate.ensures ∙ c.if-is_surrogate.false))
