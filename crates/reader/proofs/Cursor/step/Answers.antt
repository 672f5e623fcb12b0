use native.Mathlib.Omega.{arith}
use Rattle.std.proofs.Common.{rules}
use Rattle.reader.proofs.Steps.{item-within, next}
use Rattle.reader.proofs.Cursor.step.Goals as goal

pub returns : goal.returns
returns g c =
    let f = g.F.SourceForm in
    let s = c.args.text.now in
    let n = g.met.F.SourceForm.counted s in
    next f.form (f.units s) c.args.self (omega (arith, n)) (omega (arith, n)) c.item_at.result c.item_at.ensures (search rules) _ (search rules)

pub past-requires : goal.past-requires
past-requires g c =
    let f = g.F.SourceForm in
    let s = c.args.text.now in
    let n = g.met.F.SourceForm.counted s in
    item-within f.form (f.units s) c.args.self (omega (arith, n)) (omega (arith, n)) c.item_at.result c.item_at.ensures (search rules)
