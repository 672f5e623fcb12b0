-- Condition 1 follows from the promises of the calls.
use Prim.Native.Nat.{ℕ, suc, ◌+◌, ◌≤◌, ◌<◌}
use mathlib.Core.Path.{◌≡◌, refl, ap, ◌∙◌}
use mathlib.Core.Logic.{◌≢◌, ◌⊎◌, inl, inr}
use mathlib.Core.List.{List, [], ◌∷◌, ◌++◌, map}
use native.Mathlib.Omega.{arith}
use borrow.Author.Tests.{lt-ltb}
use lib.ListN.{length, get_or, drop, length-append, length-drop, length-map}
use lib.Seq.{drop-cons}
use Rattle.types.specs.declared.Fault.{Fault}
use Rattle.types.specs.declared.Fault.TheVariants.{SourceTooLong, BufferTooShort}
use Rattle.types.specs.declared.Item.{Item}
use Rattle.types.specs.declared.Refusal.{Refusal}
use Rattle.forms.specs.Fault.{number_of, limit, refusal}
use Rattle.forms.specs.Form.{size, Form, first_of, Content, character, mark, content, span, with_span, span_of, item_of, items}
use Rattle.forms.specs.Conversion.{Outcome, converted, refused, outcome, strict, answer_of, cells_of}
use Rattle.forms.specs.Lossy.{value_of, offset_of, marks, Outcome as Reading, decoded, refused as unread, lossy}
use Rattle.forms.specs.Finder.{item_covering}
use Rattle.laws.specs.TwelvePairs.{Pair}
use Rattle.laws.proofs.Marks.{mark-most}
use Rattle.laws.proofs.Spans.{size-within}
use Rattle.laws.proofs.Finder.{found-over, found-beyond, found_inside}
use Rattle.laws.proofs.Answers.{in_room_lem}
use Rattle.demand3.proofs.ExactLossy.{exact_lossy}
use Rattle.reader.specs.Step.{cursor, step_at}
use Rattle.c_answers.specs.declared.JkConversion.{JkConversion}
use Rattle.c_answers.specs.declared.JkDecoding.{JkDecoding}
use Rattle.c_answers.specs.declared.JkItem.{JkItem}
use Rattle.c_answers.specs.Answer.{shown_item, item_answer, found_answer, conversion_answer}
use Rattle.c_answers.specs.Promises.{ConvertsInC, MeasuresInC, DecodesLossyInC}
use Rattle.acceptance.specs.FaultNumbers.{Among, strict_faults, measure_faults, decoding_faults}
use Rattle.acceptance.specs.Condition1.{ItemInside, ConversionCall, MeasureCall, DecodingCall, ReaderCall, FinderCall}
use Rattle.acceptance.proofs.Marking.{marks_of, mark-among}
use Rattle.acceptance.proofs.Each.{Known}
use Rattle.acceptance.proofs.Outcomes.{refused_with, behind, refusal-place, number_is}
use Rattle.acceptance.proofs.Decoded.{answer, values, starts}
use Rattle.acceptance.proofs.Condition2.{when_7, shows, beyond, at-end}
use Rattle.acceptance.proofs.Places.{shown-length}

front_length : (es d : List ℕ) → length es ≤ length d → length (es ++ drop (length es) d) ≡ length d
front_length es d h = omega (arith, length-append es (drop (length es) d), length-drop (length es) d)

module _ (F G : Form) (most : ℕ → ℕ) (pair : Pair F G most) (known : Known F) where
  module _ (s d : List ℕ) (r : JkConversion) (o : List ℕ) (c : ConvertsInC F G s d r o) where
    abbrev x : Outcome
    x = strict F G s (length d)

    cells-within : (y : Outcome) → x ≡ y → (length (cells_of y d) ≡ length d) × ((conversion_answer (answer_of y)).units ≤ length d)
    cells-within (converted es) e = let h = (in_room_lem (length d) (outcome F G s) es e).1 in (front_length es d h, h)
    cells-within (refused q) e = (refl, omega arith)

    pub conversion_call : ConversionCall s d r o
    conversion_call =
        record {
          numbered = number_is x r c.answer F G known pair.unheld s (pair.answers s (length d)).fault_1 (pair.answers s (length d)).item-fault;
          same-cells = ap length c.cells ∙ (cells-within x refl).0;
          within = omega (arith, ap (λ (b : JkConversion). b.units) c.answer, (cells-within x refl).1);
          place =
              refusal-place x r c.answer F G known pair.unheld s (pair.answers s (length d)).fault_1 (pair.answers s (length d)).item-fault
              (λ h. (when_7 F G most pair known s d r o c h).1);
          unchanged = λ n. c.cells ∙ ap (λ (y : Outcome). cells_of y d) (refused_with x r c.answer n).outcome_is;
        }

  module _ (s : List ℕ) (r : JkConversion) (m : MeasuresInC F G s r) where
    never_7 : r.fault ≢ 7
    never_7 h = (pair.lengths s).no_fault_7 r.offset (behind (outcome F G s) r m.answer BufferTooShort h)

    but_7 : (r.fault ≡ 0) ⊎ ((r.fault ≡ 1) ⊎ ((r.fault ≡ 7) ⊎ Among r.fault strict_faults)) → Among r.fault measure_faults
    but_7 (inl a) = inl a
    but_7 (inr (inl a)) = inr (inl a)
    but_7 (inr (inr (inl a))) = absurd (never_7 a)
    but_7 (inr (inr (inr a))) = inr (inr a)

    pub measure_call : MeasureCall s r
    measure_call =
        record {
          numbered = but_7 (number_is (outcome F G s) r m.answer F G known pair.unheld s (pair.lengths s).fault_1 (pair.lengths s).item-fault);
          place =
              refusal-place (outcome F G s) r m.answer F G known pair.unheld s (pair.lengths s).fault_1 (pair.lengths s).item-fault
              (λ h. absurd (never_7 h));
        }

marks-most : (is : List Item) → marks is ≤ length is
marks-most [] = omega arith
marks-most (i ∷ is) = omega (arith, mark-most i, marks-most is)

module _ (F : Form) where
  module _ (s d e : List ℕ) (r : JkDecoding) (o p : List ℕ) (c : DecodesLossyInC F s d e r o p) where
    abbrev y : Reading
    y = lossy F s (length d) (length e)

    by_refusal : (q : Refusal) (f : Fault) → y ≡ unread q → q ≡ refusal f 0 → Among (number_of f) decoding_faults → DecodingCall s d e r o p
    by_refusal q f h k n =
        let a = answer F s d e r o p c (unread q) h in
        let i : r.fault ≡ number_of f = ap (λ (b : JkDecoding). b.fault) a ∙ ap (λ (b : Refusal). number_of b.fault) k in
        let u : o ≡ d = values F s d e r o p c (unread q) h in
        let v : p ≡ e = starts F s d e r o p c (unread q) h in
        let j : r.items ≡ 0 = ap (λ (b : JkDecoding). b.items) a in
        let l : r.marks ≡ 0 = ap (λ (b : JkDecoding). b.marks) a in
        record {
          numbered = rw i n;
          same-cells = (ap length u, ap length v);
          within = (omega arith, omega arith, omega arith);
          unchanged = λ z. (u, v);
          place = ap (λ (b : JkDecoding). b.offset) a ∙ ap (λ (b : Refusal). b.offset) k;
          no_counts = λ z. (j, l);
        }

    by_reading : (z : Reading) → y ≡ z → DecodingCall s d e r o p
    by_reading (decoded is) h =
        let w = ((exact_lossy F s (length d) (length e)).result is).0 h in
        let g : length is ≡ length (items F s) = ap length w.3 in
        let a = answer F s d e r o p c (decoded is) h in
        let i : r.items ≡ length is = ap (λ (b : JkDecoding). b.items) a in
        let j : r.marks ≡ marks is = ap (λ (b : JkDecoding). b.marks) a in
        let k : r.fault ≡ 0 = ap (λ (b : JkDecoding). b.fault) a in
        record {
          numbered = inl k;
          same-cells = (
            ap length (values F s d e r o p c (decoded is) h) ∙ omega (arith, length-append (map value_of is) (drop (length is) d), length-map is value_of, length-drop (length is) d),
            ap length (starts F s d e r o p c (decoded is) h) ∙ omega (arith, length-append (map offset_of is) (drop (length is) e), length-map is offset_of, length-drop (length is) e),
          );
          within = (omega (arith, w.1), omega (arith, w.2), omega (arith, marks-most is));
          unchanged = λ n. absurd (n k);
          place = ap (λ (b : JkDecoding). b.offset) a;
          no_counts = λ n. absurd (n k);
        }
    by_reading (unread q) h = go ((exact_lossy F s (length d) (length e)).no_other q h)
      where
        go : (q ≡ refusal SourceTooLong 0) ⊎ (q ≡ refusal BufferTooShort 0) → DecodingCall s d e r o p
        go (inl k) = by_refusal q SourceTooLong h k (inr (inl refl))
        go (inr k) = by_refusal q BufferTooShort h k (inr (inr (inl refl)))

    pub decoding_call : DecodingCall s d e r o p
    decoding_call = by_reading (lossy F s (length d) (length e)) refl

module _ (F : Form) (known : Known F) (s : List ℕ) (q : ℕ) where
  shown-inside :
      (r : JkItem) (a u : ℕ) (us : List ℕ) (t : Content) → content F (first_of F u us) ≡ t → r ≡ shown_item (with_span t (span a (size (first_of F u us))))
      → a + size (first_of F u us) ≤ length s → (r.offset ≡ a) × ItemInside s r
  shown-inside r a u us (character v) y e k = (
    ap (λ (b : JkItem). b.offset) e,
    record {
      kind = inl (ap (λ (b : JkItem). b.kind) e, ap (λ (b : JkItem). b.fault) e);
      moves = omega (arith, ap (λ (b : JkItem). b.length) e);
      within = omega (arith, ap (λ (b : JkItem). b.length) e, ap (λ (b : JkItem). b.offset) e);
    },
  )
  shown-inside r a u us (mark f) y e k = (
    ap (λ (b : JkItem). b.offset) e,
    record {
      kind =
          inr (
            ap (λ (b : JkItem). b.kind) e,
            rw (ap (λ (b : JkItem). b.fault) e) (mark-among F u us (number_of f) (marks_of F u us known.own f y)),
            ap (λ (b : JkItem). b.value) e,
          );
      moves = omega (arith, ap (λ (b : JkItem). b.length) e);
      within = omega (arith, ap (λ (b : JkItem). b.length) e, ap (λ (b : JkItem). b.offset) e);
    },
  )

  read-inside : (r : JkItem) (a : ℕ) → a < length s → r ≡ shown_item (item_of F a (first_of F (get_or s a 0) (drop (suc a) s))) → (r.offset ≡ a) × ItemInside s r
  read-inside r a h e =
      let u = get_or s a 0 in
      let us = drop (suc a) s in
      shown-inside r a u us (content F (first_of F u us)) refl e (omega (arith, size-within F u us, length-drop (suc a) s))

  pub reader_call : (r : JkItem) → r ≡ item_answer (step_at F s (cursor q)) → ReaderCall s q r
  reader_call r e =
      record {
        over = λ h. e ∙ rw (lt-ltb limit (length s) h);
        beyond = beyond F known s q r e;
        end = at-end F known s q r e;
        inside = λ w h. read-inside r q h (shows F known s q r e w (omega arith) (get_or s q 0 ∷ drop (suc q) s) (drop-cons s q 0 h));
      }

  pub finder_call : (r : JkItem) → r ≡ found_answer (item_covering F s q) → FinderCall s q r
  finder_call r e =
      record {
        over = λ h. e ∙ ap found_answer (found-over F s q h);
        beyond = λ w h. e ∙ ap found_answer (found-beyond F s q w h);
        inside =
            λ w h.
            let i = known.finds.inside s q h in
            let a = (span_of i.0).offset in
            let c = (known.finds.covers s q i.0).0 i.1 in
            let k : a < length s = omega (arith, c.from) in
            let z = known.finds.read s q i.0 i.1 (get_or s a 0) (drop (suc a) s) (drop-cons s a 0 k) in
            let y = e ∙ ap found_answer (found_inside F s q w i.0 i.1) in
            let x = read-inside r a k (y ∙ ap shown_item z) in
            (omega (arith, c.from, x.0), omega (arith, c.to, x.0, ap (λ (b : JkItem). b.length) y, shown-length i.0), x.1);
      }
