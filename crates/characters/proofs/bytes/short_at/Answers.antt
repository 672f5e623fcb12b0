use Rattle.std.proofs.Common.{arith}
use Rattle.laws.proofs.Carried.{free_below}
use Rattle.characters.proofs.ByteCharacters.{one_byte, four_rows, first_leads, last_leads}
use Rattle.characters.proofs.bytes.short_at.Goals as goal

pub returns-then-lead-first_trailing : goal.returns-then-lead-first_trailing
returns-then-lead-first_trailing g c =
    let f = g.L.Layout.form in
    let e = c.plain-lead.ensures in
    let z = (first_leads f).0 in
    let o = rw c.form.ensures at c.first_trailing.ensures in
    one_byte f c.args.text.now c.args.at (four_rows f)
    (record { inside = omega (arith, c.requires); from = omega (arith, z); to = omega (arith, e, o, (last_leads f).0, c.if-lead-first_trailing.true) })
    (omega (arith, c.from.ensures, e, z)) (free_below c.from.result (omega (arith, c.from.ensures)))
