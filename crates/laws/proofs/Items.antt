-- The items of a text from an offset on: the equations that a loop over a text goes by.
use Prim.Native.Nat.{ℕ, suc, ◌+◌, ◌≤◌, ◌<◌}
use mathlib.Core.Path.{◌≡◌, refl, ap, ◌∙◌}
use mathlib.Core.List.{List, [], ◌∷◌}
use native.Mathlib.Omega.{arith}
use native.Mathlib.Numerals.{add-one}
use lib.ListN.{length, get_or, drop, length-append, length-drop, drop_of_length-le}
use lib.Seq.{drop-cons, drop-drop}
use Rattle.types.specs.declared.Item.{Item}
use Rattle.types.specs.declared.Span.{Span}
use Rattle.forms.specs.Form.{Sequence, units, size, Form, first_of, sequences, span_of, item_of, items_from, items}
use Rattle.laws.proofs.Sequences.{joined, sequences-after, sequences-joined}
use Rattle.laws.proofs.Spans.{item-span, size-within}

abbrev pub items_onward : Form → List ℕ → ℕ → List Item
items_onward F s p = items_from F p (sequences F (drop p s))

-- the sequence at an offset inside the text
abbrev pub sequence_at : Form → List ℕ → ℕ → Sequence
sequence_at F s p = first_of F (get_or s p 0) (drop (p + 1) s)

module _ (F : Form) (s : List ℕ) (p : ℕ) where
  pub items-end : length s ≤ p → items_onward F s p ≡ []
  items-end h = rw (drop_of_length-le s h)

  module _ (h : p < length s) where
    head_is : drop p s ≡ get_or s p 0 ∷ drop (p + 1) s
    head_is = rw (add-one p) (drop-cons s p 0 h)

    behind_is : drop (length (sequence_at F s p).rest) (drop (p + 1) s) ≡ drop (p + size (sequence_at F s p)) s
    behind_is =
        let e : p + 1 + length (sequence_at F s p).rest ≡ p + size (sequence_at F s p) = omega arith in
        drop-drop (length (sequence_at F s p).rest) (p + 1) s ∙ ap (λ (n : ℕ). drop n s) e

    pub items_step : items_onward F s p ≡ item_of F p (sequence_at F s p) ∷ items_onward F s (p + size (sequence_at F s p))
    items_step =
        rw head_is
        (ap {B = List Item} (λ (is : List Item). item_of F p (sequence_at F s p) ∷ is)
        (ap (items_from F (p + size (sequence_at F s p))) (sequences-after F (drop (p + 1) s) (length (sequence_at F s p).rest) ∙ ap (sequences F) behind_is)))

    pub length_at : (span_of (item_of F p (sequence_at F s p))).length ≡ size (sequence_at F s p)
    length_at = ap (λ (x : Span). x.length) (item-span F p (sequence_at F s p))

    pub offset_at : (span_of (item_of F p (sequence_at F s p))).offset ≡ p
    offset_at = ap (λ (x : Span). x.offset) (item-span F p (sequence_at F s p))

    pub within-at : p + size (sequence_at F s p) ≤ length s
    within-at = omega (arith, size-within F (get_or s p 0) (drop (p + 1) s), length-drop (p + 1) s)

-- a text has as many items as sequences, and no more than units
pub length-items : (F : Form) (p : ℕ) (cs : List Sequence) → length (items_from F p cs) ≡ length cs
length-items F p [] = refl
length-items F p (c ∷ cs) = ap suc (length-items F (p + size c) cs)

joined-most : (cs : List Sequence) → length cs ≤ length (joined cs)
joined-most [] = omega arith
joined-most (c ∷ cs) = omega (arith, joined-most cs, length-append (units c) (joined cs))

pub items-most : (F : Form) (s : List ℕ) → length (items F s) ≤ length s
items-most F s = omega (arith, length-items F 0 (sequences F s), joined-most (sequences F s), ap length (sequences-joined F s 0))
