use Prim.Native.Nat.{◌<◌}
use native.Mathlib.Omega.{arith}
use lib.ListN.{length}
use Rattle.laws.proofs.ReadItems.{ItemAt, item-at, item-onward}
use Rattle.lossy.proofs.Counting.{counting_more}
use Rattle.lossy.proofs.count.Goals as goal

pub overflow_add-at : goal.overflow_add-at
overflow_add-at g c =
    let f = g.F.SourceForm in
    let s = f.units c.args.text.now in
    let n = g.met.F.SourceForm.counted c.args.text.now in
    let h : c.loop-at.at < length s = omega (arith, n) in
    let read : ItemAt f.form s c.loop-at.at c.item_at.result c.span-span.result = item-at h c.item_at.ensures c.span-span.ensures in
    omega (arith, n, (item-onward read).1, c.requires)

pub loop-at-preserved : goal.loop-at-preserved
loop-at-preserved g c =
    let f = g.F.SourceForm in
    let s = f.units c.args.text.now in
    let n = g.met.F.SourceForm.counted c.args.text.now in
    let h : c.loop-at.at < length s = omega (arith, n) in
    let read : ItemAt f.form s c.loop-at.at c.item_at.result c.span-span.result = item-at h c.item_at.ensures c.span-span.ensures in
    counting_more c.loop-at.invariant read
