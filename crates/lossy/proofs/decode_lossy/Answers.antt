use Prim.Native.Nat.{◌≤◌, ◌<◌}
use native.Mathlib.Omega.{arith}
use lib.ListN.{length}
use Rattle.std.proofs.Common.{rules}
use Rattle.laws.proofs.ReadItems.{ItemAt, item-at, item-onward}
use Rattle.lossy_runs.proofs.Filling.{Filling, filling_end, filling_more, filling_run, filling_none}
use Rattle.lossy.proofs.Counting.{ended}
use Rattle.lossy.proofs.decode_lossy.Goals as goal

pub loop-at-preserved-then-run-at : goal.loop-at-preserved-then-run-at
loop-at-preserved-then-run-at g c = filling_run c.loop-at.invariant c.read_on-run.ensures

pub overflow_add-at : goal.overflow_add-at
overflow_add-at g c =
    let f = g.F.SourceForm in
    let s = f.units c.args.text.now in
    let n = g.met.F.SourceForm.counted c.args.text.now in
    let h : c.loop-at.at < length s = omega (arith, n) in
    let read : ItemAt f.form s c.loop-at.at c.item_at-item.result c.span-at.result = item-at h c.item_at-item.ensures c.span-at.ensures in
    omega (arith, n, (item-onward read).1)

pub loop-at-preserved : goal.loop-at-preserved
loop-at-preserved g c =
    let f = g.F.SourceForm in
    let s = f.units c.args.text.now in
    let n = g.met.F.SourceForm.counted c.args.text.now in
    let h : c.loop-at.at < length s = omega (arith, n) in
    let read : ItemAt f.form s c.loop-at.at c.item_at-item.result c.span-at.result = item-at h c.item_at-item.ensures c.span-at.ensures in
    let filling :
    Filling f.form s c.args.values.now c.args.starts.now c.loop-at.at c.loop-at.items c.loop-at.marks c.read_on-run.new.values c.read_on-run.new.starts =
    filling_none c.loop-at.invariant c.read_on-run.ensures c.if-run-at.false in
    filling_more filling read c.value.ensures c.mark_count-marks.ensures

pub returns : goal.returns
returns g c =
    let f = g.F.SourceForm in
    let m = g.met.F.SourceForm in
    let n = m.counted c.args.text.now in
    let h : length (f.units c.args.text.now) ≤ c.loop-at.at = omega (arith, n) in
    ended {o = c.loop-at.values} {p = c.loop-at.starts} (search rules) (search rules) (filling_end m.laws c.loop-at.invariant h)
