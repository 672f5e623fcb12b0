use Prim.Native.Nat.{◌+◌, ◌≤◌}
use mathlib.Core.Path.{◌≡◌, ap, ◌∙◌}
use native.Mathlib.Omega.{arith}
use lib.ListN.{length}
use Rattle.types.specs.declared.Span.{Span}
use Rattle.std.proofs.Common.{rules}
use Rattle.forms.specs.Form.{span_of}
use Rattle.forms.specs.Buffer.{with_units}
use Rattle.lines.specs.Listing.{line}
use Rattle.laws.proofs.Buffers.{length_with}
use Rattle.lines.proofs.Turns.{header_put, item-offset, item-short, item-within, listed_more, listed_end, placed_at}
use Rattle.lines.proofs.list.Goals as goal

pub item_line-requires : goal.item_line-requires
item_line-requires c =
    let s = c.args.text.now in
    let i = c.item_at-item in (
      omega (arith, item-offset s c.loop-at.at c.loop-at-test.true i.result i.ensures),
      omega (arith, item-short s c.loop-at.at c.loop-at-test.true i.result i.ensures),
    )

pub overflow_add-at : goal.overflow_add-at
overflow_add-at c =
    let i = c.item_at-item in
    omega
    (arith, item-within c.args.text.now c.loop-at.at c.loop-at-test.true i.result i.ensures, ap (λ (x : Span). x.length) c.span-span.ensures)

pub loop-at-preserved : goal.loop-at-preserved
loop-at-preserved c =
    let s = c.args.text.now in
    let i = c.item_at-item in
    let l = c.loop-at in
    let put = c.put-written-in-loop-at in
    let text = c.as_slice.result.now in
    let text_is : text ≡ line i.result = c.as_slice.ensures.value ∙ c.item_line.ensures.text in
    let begun = header_put c.args.out.now c.put-written.new.out c.put-written.result c.put-written.ensures.0 c.put-written.ensures.1 (omega arith) in
    let room : l.written + length text ≤ length l.out =
    omega (arith, l.invariant.room, l.invariant.cells, begun.0.counted, begun.1, ap length c.as_slice.ensures.value) in
    let span_is : c.span-span.result.length ≡ (span_of i.result).length = ap (λ (x : Span). x.length) c.span-span.ensures in
    let behind : put.result ≡ l.written + length text = search rules in
    let placed : put.new.out ≡ with_units l.out l.written text = placed_at l.out text put.new.out _ l.written put.result put.ensures.0 put.ensures.1 behind in
    rw span_is
    (listed_more s l.at c.loop-at-test.true i.result i.ensures c.put-written.result c.put-written.new.out l.out l.written l.count l.marks l.invariant
    text put.new.out put.result c.mark_count-marks.result text_is (omega (arith, ap length c.as_slice.ensures.value)) behind placed
    (length_with l.out text put.new.out l.written placed room) c.mark_count-marks.ensures)

pub returns : goal.returns
returns c =
    let l = c.loop-at in
    let begun = header_put c.args.out.now c.put-written.new.out c.put-written.result c.put-written.ensures.0 c.put-written.ensures.1 (omega arith) in
    listed_end c.args.text.now c.args.out.now c.put-written.new.out l.out c.put.new.out c.put-written.result l.written l.at l.count l.marks
    c.put.result l.invariant c.loop-at-test.false begun.0 c.as_slice-2.result.now (c.as_slice-2.ensures.value ∙ c.total_line.ensures.text) c.put.ensures.0 c.put.ensures.1
