-- What a step promises, by the place of its cursor: one law for each way through the code, for any form.
use Prim.Native.Nat.{ℕ, ◌+◌, ◌≤◌, ◌<◌}
use mathlib.Core.Path.{◌≡◌, refl, sym, ap, ◌∙◌}
use mathlib.Core.Bool.{Bool, true, false, cond}
use mathlib.Core.List.{List, [], ◌∷◌}
use native.Mathlib.Omega.{arith}
use native.Mathlib.Numerals.{add-one}
use lib.Dec.{ltb}
use lib.ListN.{length, get_or, drop, length-drop, drop_of_length-le}
use lib.Seq.{drop-cons}
use borrow.Author.Tests.{lt-ltb, le-ltb}
use Rattle.types.specs.declared.Fault.TheVariants.{SourceTooLong, OffsetOutOfRange}
use Rattle.types.specs.declared.Refusal.{Refusal}
use Rattle.types.specs.declared.Item.{Item}
use Rattle.types.specs.declared.Span.{Span}
use Rattle.forms.specs.Fault.{limit, refusal}
use Rattle.forms.specs.Answer.{numbers, item_values}
use Rattle.forms.specs.Form.{Form, size, first_of, span_of}
use Rattle.laws.proofs.Spans.{item-span, size-within}
use Rattle.items.specs.ItemAt.{item_at}
use Rattle.reader.specs.Step.{behind, step_over, step_at, step_numbers, numbers_over, ReadsItem}
use Rattle.reader.specs.declared.Cursor.{Cursor}
use Rattle.reader.specs.declared.Step.{Step}
use Rattle.reader.specs.declared.Step.TheVariants.{Next, End}
use Rattle.std.specs.Prelude.{Result, Ok, Err}

-- the numbers follow from the answer
module _ (F : Form) (c : Cursor) where
  over-numbers : (l : List ℕ) → step_numbers (Ok (step_over F c l)) ≡ numbers_over F c l
  over-numbers [] = refl
  over-numbers (u ∷ us) = refl

  step_numbers_lem :
      (a b : Bool) (l : List ℕ)
      → step_numbers (cond a (Err (refusal SourceTooLong 0)) (cond b (Err (refusal OffsetOutOfRange c.offset)) (Ok (step_over F c l))))
      ≡ cond a (numbers 1 0 (item_values 0 0)) (cond b (numbers 9 c.offset (item_values 0 0)) (numbers_over F c l))
  step_numbers_lem true b l = refl
  step_numbers_lem false true l = refl
  step_numbers_lem false false l = over-numbers l

  pub reads_item : (s : List ℕ) (r : Result Step Refusal) → r ≡ step_at F s c → ReadsItem F s c r
  reads_item s r e = record { answer = e; numbers = ap step_numbers e ∙ step_numbers_lem (ltb limit (length s)) (ltb (length s) c.offset) (drop c.offset s) }

-- a promise settles the answer, and its numbers
pub step_settled : (F : Form) (s : List ℕ) (c : Cursor) (q r : Result Step Refusal) → ReadsItem F s c q → ReadsItem F s c r → (q ≡ r) × (step_numbers q ≡ step_numbers r)
step_settled F s c q r a b = (a.answer ∙ sym b.answer, a.numbers ∙ sym b.numbers)

module _ (F : Form) (s : List ℕ) (c : Cursor) where
  pub too_long : (r : Refusal) → r ≡ refusal SourceTooLong 0 → limit < length s → ReadsItem F s c (Err r)
  too_long r e h = reads_item F c s (Err r) (rw (e, lt-ltb limit (length s) h))

  module _ (w : length s ≤ limit) where
    pub out_of_range : (r : Refusal) → r ≡ refusal OffsetOutOfRange c.offset → length s < c.offset → ReadsItem F s c (Err r)
    out_of_range r e h = reads_item F c s (Err r) (rw (e, le-ltb limit (length s) w, lt-ltb (length s) c.offset h))

    pub at-end : length s ≡ c.offset → ReadsItem F s c (Ok (End c))
    at-end e =
        let l : length s ≤ c.offset = omega arith in
        reads_item F c s (Ok (End c)) (rw (le-ltb limit (length s) w, le-ltb (length s) c.offset (omega arith), drop_of_length-le s l))

    module _ (h : c.offset < length s) (i : Item) {at : ℕ} (a : i ≡ item_at F s at) (p : at ≡ c.offset) where
      e : i ≡ item_at F s c.offset
      e = a ∙ ap (λ (x : ℕ). item_at F s x) p

      length_is : (span_of i).length ≡ size (first_of F (get_or s c.offset 0) (drop (c.offset + 1) s))
      length_is = ap (λ (x : Item). (span_of x).length) e ∙ ap (λ (x : Span). x.length) (item-span F c.offset (first_of F (get_or s c.offset 0) (drop (c.offset + 1) s)))

      pub item-within : c.offset + (span_of i).length ≤ limit
      item-within =
          omega
          (arith, length_is, size-within F (get_or s c.offset 0) (drop (c.offset + 1) s), length-drop (c.offset + 1) s)

      pub next : (r : Result Step Refusal) → r ≡ Ok (Next i (behind c i)) → ReadsItem F s c r
      next r q =
          reads_item F c s r
          (q ∙ rw (le-ltb limit (length s) w, le-ltb (length s) c.offset (omega arith), drop-cons s c.offset 0 h, ← add-one c.offset, e))
