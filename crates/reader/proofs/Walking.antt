-- What follows of the readers: each step moves on, reading at a place is reading from there, and the steps from 0 on give the items.
use Prim.Native.Nat.{ℕ, zero, suc, ◌+◌, ◌-◌, ◌≤◌, ◌<◌}
use mathlib.Core.Path.{◌≡◌, refl, sym, ap, ◌∙◌}
use mathlib.Core.Bool.{Bool, true, false, cond}
use mathlib.Core.List.{List, [], ◌∷◌, map}
use native.Mathlib.Omega.{arith}
use native.Mathlib.Nat.{add-zero}
use lib.Dec.{ltb}
use lib.ListN.{length, drop, length-drop}
use lib.Seq.{drop-drop}
use borrow.Author.Tests.{le-ltb, ltb-false}
use Rattle.types.specs.declared.Item.{Item}
use Rattle.types.specs.declared.Refusal.{Refusal}
use Rattle.types.specs.declared.Span.{Span}
use Rattle.forms.specs.Fault.{limit}
use Rattle.forms.specs.Form.{Sequence, size, Form, first_of, sequences, Content, character, mark, content, with_span, span, span_of, item_of, items_from, items}
use Rattle.forms.specs.Forms.{fss_utf, utf_ebcdic, utf16, ucs4}
use Rattle.laws.proofs.Sequences.{sequences-after}
use Rattle.laws.proofs.FormLaws.{Laws}
use Rattle.laws.proofs.FourForms.{fss_utf_laws, utf_ebcdic_laws, utf16_laws, ucs4_laws}
use Rattle.laws.proofs.Spans.{item-span, size-within, size-longest}
use Rattle.reader.specs.Step.{cursor, behind, step_over, step_at}
use Rattle.reader.specs.Walk.{Moves, or_end, steps_from, moved_item, moved_step}
use Rattle.reader.specs.declared.Cursor.{Cursor}
use Rattle.reader.specs.declared.Step.{Step}
use Rattle.reader.specs.declared.Step.TheVariants.{Next}
use Rattle.std.specs.Prelude.{Result, Ok, Err}

-- within the limit and the text a step is that of the units from its place on
pub step_over_lem : (F : Form) (s : List ℕ) (c : Cursor) → length s ≤ limit → c.offset ≤ length s → step_at F s c ≡ Ok (step_over F c (drop c.offset s))
step_over_lem F s c w h = rw (le-ltb limit (length s) w, le-ltb (length s) c.offset h)

length_of : (F : Form) (p u : ℕ) (us : List ℕ) → (span_of (item_of F p (first_of F u us))).length ≡ size (first_of F u us)
length_of F p u us = ap (λ (x : Span). x.length) (item-span F p (first_of F u us))

module _ (F : Form) (laws : Laws F) (some : 0 < F.longest) (s : List ℕ) where
  moves-over : (c d : Cursor) (i : Item) (l : List ℕ) → drop c.offset s ≡ l → step_over F c l ≡ Next i d → c.offset ≤ length s → Moves F s c d
  moves-over c d i [] e n h = absurd (let z : ◌≡◌ {A = ℕ} 0 1 = cc in omega arith)
  moves-over c d i (u ∷ us) e n h =
      let b : behind c (item_of F c.offset (first_of F u us)) ≡ d = cc in
      let o : d.offset ≡ c.offset + size (first_of F u us) = sym (ap (λ (x : Cursor). x.offset) b) ∙ ap (λ (m : ℕ). c.offset + m) (length_of F c.offset u us) in
      let t : length s - c.offset ≡ suc (length us) = sym (length-drop c.offset s) ∙ ap length e in
      record {
        on = omega arith;
        reach = omega (arith, size-longest F laws some u us);
        within = omega (arith, size-within F u us);
      }

  moves_if :
      (c d : Cursor) (i : Item) (a b : Bool) (r q : Refusal) → ltb (length s) c.offset ≡ b
      → cond a (Err r) (cond b (Err q) (Ok (step_over F c (drop c.offset s)))) ≡ Ok (Next i d) → Moves F s c d
  moves_if c d i true b r q e n = absurd (let z : ◌≡◌ {A = ℕ} 0 1 = cc in omega arith)
  moves_if c d i false true r q e n = absurd (let z : ◌≡◌ {A = ℕ} 0 1 = cc in omega arith)
  moves_if c d i false false r q e n = moves-over c d i (drop c.offset s) refl (cc) (ltb-false (length s) c.offset e)

  pub step_moves : (c d : Cursor) (i : Item) → step_at F s c ≡ Ok (Next i d) → Moves F s c d
  step_moves c d i n = moves_if c d i (ltb limit (length s)) (ltb (length s) c.offset) _ _ refl n

pub fss_utf-moves : (s : List ℕ) (c d : Cursor) (i : Item) → step_at fss_utf s c ≡ Ok (Next i d) → Moves fss_utf s c d
fss_utf-moves = step_moves fss_utf fss_utf_laws (omega arith)

pub utf_ebcdic-moves : (s : List ℕ) (c d : Cursor) (i : Item) → step_at utf_ebcdic s c ≡ Ok (Next i d) → Moves utf_ebcdic s c d
utf_ebcdic-moves = step_moves utf_ebcdic utf_ebcdic_laws (omega arith)

pub utf16-moves : (s : List ℕ) (c d : Cursor) (i : Item) → step_at utf16 s c ≡ Ok (Next i d) → Moves utf16 s c d
utf16-moves = step_moves utf16 utf16_laws (omega arith)

pub ucs4-moves : (s : List ℕ) (c d : Cursor) (i : Item) → step_at ucs4 s c ≡ Ok (Next i d) → Moves ucs4 s c d
ucs4-moves = step_moves ucs4 ucs4_laws (omega arith)

-- "Reading at a place reads as though the text began there": a step at p is the step at 0 of the rest, p units further on
module _ (F : Form) where
  moved_content : (p n : ℕ) (t : Content) → with_span t (span p n) ≡ moved_item p (with_span t (span 0 n))
  moved_content p n (character v) = rw (add-zero p)
  moved_content p n (mark f) = rw (add-zero p)

  moved_item_lem : (p : ℕ) (c : Sequence) → item_of F p c ≡ moved_item p (item_of F 0 c)
  moved_item_lem p c = moved_content p (size c) (content F c)

  moved_over : (p : ℕ) (l : List ℕ) → Ok (step_over F (cursor p) l) ≡ moved_step p (Ok (step_over F (cursor 0) l))
  moved_over p [] = rw (add-zero p)
  moved_over p (u ∷ us) =
      let e : p + (span_of (item_of F p (first_of F u us))).length ≡ p + (0 + (span_of (item_of F 0 (first_of F u us))).length) =
      ap (λ (n : ℕ). p + n) (length_of F p u us ∙ sym (length_of F 0 u us) ∙ omega arith) in
      rw (e, moved_item_lem p (first_of F u us))

  pub reads_from-there : (s : List ℕ) (p : ℕ) → length s ≤ limit → p ≤ length s → step_at F s (cursor p) ≡ moved_step p (step_at F (drop p s) (cursor 0))
  reads_from-there s p w h =
      let v : length (drop p s) ≤ limit = rw (length-drop p s) (omega arith) in
      step_over_lem F s (cursor p) w h ∙ moved_over p (drop p s) ∙ ap (moved_step p) (sym (step_over_lem F (drop p s) (cursor 0) v (omega arith)))

  -- the steps from a place on give the items from there on
  module _ (s : List ℕ) (w : length s ≤ limit) where
    steps_over :
        (n p : ℕ) → p ≤ length s → length s - p < suc n → (l : List ℕ) → drop p s ≡ l
        → ((d : ℕ) → d ≤ length s → length s - d < n → steps_from F s n (cursor d) ≡ items_from F d (sequences F (drop d s)))
        → or_end (Ok (step_over F (cursor p) l)) (λ i d. i ∷ steps_from F s n d) ≡ items_from F p (sequences F l)
    steps_over n p h k [] e f = refl
    steps_over n p h k (u ∷ us) e f =
        let z = size (first_of F u us) in
        let t : length s - p ≡ suc (length us) = sym (length-drop p s) ∙ ap length e in
        let g : p + (span_of (item_of F p (first_of F u us))).length ≡ p + z = ap (λ (m : ℕ). p + m) (length_of F p u us) in
        let r : drop (p + z) s ≡ drop (length (first_of F u us).rest) us = sym (drop-drop z p s) ∙ ap (drop z) e in
        rw g
        (ap {B = List Item} (λ (is : List Item). item_of F p (first_of F u us) ∷ is)
        (f (p + z) (omega (arith, size-within F u us)) (omega arith)
        ∙ ap (λ (l : List ℕ). items_from F (p + z) (sequences F l)) r
        ∙ ap (items_from F (p + z)) (sym (sequences-after F us (length (first_of F u us).rest)))))

    steps_items : (n p : ℕ) → p ≤ length s → length s - p < n → steps_from F s n (cursor p) ≡ items_from F p (sequences F (drop p s))
    steps_items zero p h k = absurd (omega arith)
    steps_items (suc n) p h k =
        ap (λ (t : Result Step Refusal). or_end t (λ i d. i ∷ steps_from F s n d)) (step_over_lem F s (cursor p) w h)
        ∙ steps_over n p h k (drop p s) refl (λ d a b. steps_items n d a b)

    pub steps_are_items : steps_from F s (suc (length s)) (cursor 0) ≡ items F s
    steps_are_items = steps_items (suc (length s)) 0 (omega arith) (omega arith)

-- the longest item of each form is reached, by the starred points
pub longest-reached :
    (map size (sequences fss_utf (0xFD ∷ 0xBF ∷ 0xBF ∷ 0xBF ∷ 0xBF ∷ 0xBF ∷ [])) ≡ fss_utf.longest ∷ [])
    × (map size (sequences utf_ebcdic (0xE1 ∷ 0xFE ∷ 0xFE ∷ 0xFE ∷ 0xFE ∷ 0xFE ∷ 0xFE ∷ [])) ≡ utf_ebcdic.longest ∷ [])
    × (map size (sequences utf16 (0xD800 ∷ 0xDC00 ∷ [])) ≡ utf16.longest ∷ [])
    × (map size (sequences ucs4 (0x41 ∷ [])) ≡ ucs4.longest ∷ [])
longest-reached = (refl, refl, refl, refl)
