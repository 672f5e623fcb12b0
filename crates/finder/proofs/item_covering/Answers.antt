use native.Mathlib.Omega.{arith}
use Rattle.std.proofs.Common.{rules}
use Rattle.laws.proofs.Finder.{near}
use Rattle.finder.proofs.Seeking.{beyond_at, finds_at}
use Rattle.finder.proofs.item_covering.Goals as goal

pub returns-then-text-offset : goal.returns-then-text-offset
returns-then-text-offset g c =
    let s = c.args.text.now in
    let n = g.met.F.SourceForm.counted s in
    beyond_at c.offset_out_of_range.ensures (search rules) (omega (arith, n)) (omega (arith, n))

pub overflow_sub-start : goal.overflow_sub-start
overflow_sub-start g c =
    let f = g.F.SourceForm in
    let m = g.met.F.SourceForm in
    let s = c.args.text.now in
    let n = m.counted s in
    (near f.form m.laws (f.units s) c.args.offset c.distance_back.result (omega (arith, n)) (search (arith, n)) c.distance_back.ensures).back

pub returns : goal.returns
returns g c =
    let f = g.F.SourceForm in
    let m = g.met.F.SourceForm in
    let s = c.args.text.now in
    let n = m.counted s in
    finds_at
    (near f.form m.laws (f.units s) c.args.offset c.distance_back.result (omega (arith, n)) (search (arith, n)) c.distance_back.ensures)
    (search rules)
    c.item_at.ensures
