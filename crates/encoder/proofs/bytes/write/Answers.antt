use Prim.Native.Nat.{ℕ, ◌+◌, ◌-◌, ◌≤◌}
use mathlib.Core.Path.{◌≡◌, ap, ◌∙◌}
use native.Mathlib.Omega.{arith}
use lib.ListN.{length}
use Rattle.std.proofs.lemmas.Grind.{common_steps}
use Rattle.forms.specs.Form.{encode}
use Rattle.forms.specs.Layout.{row_at}
use Rattle.tables.specs.ByteForms.{byte_form, layout_of, unit_of}
use Rattle.encoder.proofs.Backward.{backward_begin, backward_more, lead_byte, backward_end, Spelled, spelled_as}
use Rattle.encoder.proofs.bytes.write.Goals.{After-first_trailing-low, After-lead_base}
use Rattle.encoder.proofs.bytes.write.Goals as goal

count : (c : After-first_trailing-low) → length (encode (byte_form c.args.form) c.args.value) ≡ c.encoded_length-count.result - 1 + 1
count c = let n = c.requires.0 in let e = c.encoded_length-count.ensures in grind (arith, common_steps)

spelled : (c : After-first_trailing-low) → Spelled c.args.form c.args.value (c.encoded_length-count.result - 1) c.radix-radix.result c.first_trailing-low.result
spelled c =
    let a = c.args in
    spelled_as a.form a.value (c.encoded_length-count.result - 1) c.radix-radix.result c.first_trailing-low.result c.requires.0
    (count c) c.radix-radix.ensures c.first_trailing-low.ensures

lead : (c : After-lead_base) → c.lead_base.result + c.loop-left.rest ≤ 0xFF
lead c =
    let l = c.loop-left in
    omega (arith, lead_byte _ _ _ _ _ _ _ _ l.dst l.left l.rest c.loop-left-test.false l.invariant, c.lead_base.ensures)

pub loop-left-init : goal.loop-left-init
loop-left-init c =
    let room : c.args.at + (c.encoded_length-count.result - 1) + 1 ≤ length c.args.dst.now =
    omega (arith, c.requires.1, count (goal.at.loop-left-init c).After-first_trailing-low) in
    let a = c.args in
    backward_begin (row_at (layout_of a.form) (c.encoded_length-count.result - 1)).first c.first_trailing-low.result c.radix-radix.result (unit_of a.form)
    a.value a.dst.now a.at (c.encoded_length-count.result - 1) (spelled (goal.at.loop-left-init c).After-first_trailing-low).byte (spelled (goal.at.loop-left-init c).After-first_trailing-low).bound room

pub loop-left-preserved : goal.loop-left-preserved
loop-left-preserved c = let l = c.loop-left in
    backward_more _ _ _ _ _ _ _ _ l.dst l.left l.rest c.unit.result (spelled (goal.at.loop-left-preserved c).After-first_trailing-low).positive c.loop-left-test.true l.invariant c.unit.ensures

pub lead_base-requires : goal.lead_base-requires
lead_base-requires c = (spelled (goal.at.lead_base-requires c).After-first_trailing-low).row

pub overflow_cast-rest-2 : goal.overflow_cast-rest-2
overflow_cast-rest-2 c = omega (arith, (lead (goal.at.overflow_cast-rest-2 c).After-lead_base))

pub overflow_add-lead_base : goal.overflow_add-lead_base
overflow_add-lead_base c = omega (arith, (lead (goal.at.overflow_add-lead_base c).After-lead_base))

pub returns : goal.returns
returns c = let a = c.args in
    let l = c.loop-left in
    let e : c.unit-2.result ≡ unit_of a.form ((row_at (layout_of a.form) (c.encoded_length-count.result - 1)).first + l.rest) =
    c.unit-2.ensures ∙ ap (λ (x : ℕ). unit_of a.form (x + l.rest)) c.lead_base.ensures in (
      omega (arith, count (goal.at.returns c).After-first_trailing-low),
      backward_end _ _ _ _ _ _ _ _ l.dst l.left l.rest c.unit-2.result (encode (byte_form a.form) a.value) c.loop-left-test.false l.invariant e (spelled (goal.at.returns c).After-first_trailing-low).same,
    )
