-- A converter behind its measure: refused, too short, or the loop that writes; what the loop keeps and what it comes to.
use Prim.Native.Nat.{ℕ, ◌+◌, ◌≤◌, ◌<◌}
use mathlib.Core.Path.{◌≡◌, refl, sym, ap, ◌∙◌}
use mathlib.Core.Logic.{◌≢◌}
use mathlib.Core.List.{List, [], ◌∷◌, ◌++◌}
use native.Mathlib.Omega.{arith}
use borrow.Author.Tests.{le-ltb, lt-ltb}
use lib.ListN.{length, drop, length-append}
use Rattle.types.specs.declared.Fault.{Fault}
use Rattle.types.specs.declared.Fault.TheVariants.{BufferTooShort}
use Rattle.types.specs.declared.Span.{Span}
use Rattle.types.specs.declared.Item.TheVariants.{Character, Mark}
use Rattle.types.specs.declared.Refusal.{Refusal}
use Rattle.forms.specs.Fault.{refusal}
use Rattle.forms.specs.Form.{Form, items, encode}
use Rattle.forms.specs.Forms.{turned_away}
use Rattle.forms.specs.Buffer.{with_units, Holds}
use Rattle.forms.specs.Conversion.{converted, refused, convert_items, outcome, Measures, Converts}
use Rattle.laws.proofs.Outcomes.{converted-same, prepend-converted}
use Rattle.laws.proofs.Narrowed.{narrow_target}
use Rattle.laws.proofs.Numbers.{converts}
use Rattle.laws.proofs.Answers.{answer-units, answer-refused, within-items}
use Rattle.laws.proofs.Buffers.{holds_none, holds_more, length_with, with_none}
use Rattle.laws.proofs.Items.{items_onward}
use Rattle.laws.proofs.Runs.{Convertible, Wrote, progress_run, convertible_run}
use Rattle.laws.proofs.Progress.{CharacterAt, MarkAt, Progress, progress_begin, progress_end, progress_more, progress_next}
use Rattle.std.specs.Prelude.{Result, Ok, Err}

-- the items before `at` were written, and the whole comes to a result for which there is room. The measure looked for FFFE and FFFF: the loop
-- writes in the form itself, where the result is the same
pub record Writing (F G : Form) (s d : List ℕ) (at written : ℕ) (o : List ℕ) : Type 0 where
  pub result : List ℕ
  pub all : outcome F G s ≡ converted result
  pub wide : convert_items G (items F s) ≡ converted result
  pub fits : length result ≤ length d
  pub done : List ℕ
  pub progress : Progress F G s at done
  pub holds : Holds d done written o
  pub same : length o ≡ length d

module _ {F G : Form} {s d : List ℕ} where
  -- what a converter promises, from the outcome and the room
  converts-short : (es : List ℕ) → outcome F G s ≡ converted es → length d < length es → Converts F G s d (Err (refusal BufferTooShort 0)) d
  converts-short es e h = converts (rw (e, lt-ltb (length d) (length es) h)) (rw (e, lt-ltb (length d) (length es) h))

  converts-all : (es o : List ℕ) (n : ℕ) → outcome F G s ≡ converted es → length es ≤ length d → Holds d es n o → Converts F G s d (Ok n) o
  converts-all es o n e h w =
      converts (rw (e, le-ltb (length d) (length es) h) (ap Ok w.counted))
      (rw (e, le-ltb (length d) (length es) h) (w.cells ∙ ap (λ (m : ℕ). es ++ drop m d) w.counted))

  module _ {r : Result ℕ Refusal} where
    pub writing-refused : {q : Refusal} → Measures F G s r → r ≡ Err q → Converts F G s d r d
    writing-refused {q} m e =
        let x : outcome F G s ≡ refused q = answer-refused (outcome F G s) q (sym m.answer ∙ e) in
        converts (e ∙ rw x) (rw x)

    module _ {n : ℕ} where
      pub writing-short : {q : Refusal} → Measures F G s r → r ≡ Ok n → q ≡ refusal BufferTooShort 0 → length d < n → Converts F G s d (Err q) d
      writing-short m e z h =
          let u = answer-units (outcome F G s) n (sym m.answer ∙ e) in
          rw z (converts-short u.0 u.1 (omega (arith, u.2)))

      pub writing_begin : Measures F G s r → r ≡ Ok n → n ≤ length d → Writing F G s d 0 0 d
      writing_begin m e h =
          let u = answer-units (outcome F G s) n (sym m.answer ∙ e) in
          record {
            result = u.0;
            all = u.1;
            wide = narrow_target turned_away G (items F s) u.0 (within-items F G s u.0 u.1);
            fits = omega (arith, u.2);
            done = [];
            progress = progress_begin F G s;
            holds = holds_none d;
            same = refl;
          }

  module _ {p written : ℕ} {o : List ℕ} where
    pub writing-end : Writing F G s d p written o → length s ≤ p → Converts F G s d (Ok written) o
    writing-end w h =
        let e = progress_end F G s p w.done w.progress h in
        let z : w.result ≡ w.done = converted-same (sym w.wide ∙ e) in
        converts-all w.done o written (w.all ∙ ap converted z) (rw z at w.fits) w.holds

    -- no mark is left
    pub writing-mark : {A : Type 0} {f : Fault} {q : Span} → Writing F G s d p written o → MarkAt F s p f q → A
    writing-mark {A} {f} {q} w c = absurd ((progress_next F G s p c.inside (Mark f q) c.is w.done w.progress w.result w.wide).0 refl)

    -- what a run may ask
    pub writing_convertible : Writing F G s d p written o → Convertible F G s p written (length o)
    writing_convertible w =
        let q = prepend-converted w.done w.result (convert_items G (items_onward F s p)) (sym w.progress.whole ∙ w.wide) in
        let l : length w.result ≡ length w.done + length q.0 = ap length q.2 ∙ length-append w.done q.0 in
        record { rest = q.0; comes = q.1; fits = omega (arith, w.holds.counted, w.fits, w.same, l) }

    -- a run of characters at once
    pub writing_run : {k u : ℕ} {o₂ : List ℕ} → Writing F G s d p written o → Wrote F G s p k u o written o₂ → Writing F G s d (p + k) (written + u) o₂
    writing_run {k} {u} {o₂} w r =
        let room = (convertible_run (writing_convertible w) r.run).0 in
        record {
          result = w.result;
          all = w.all;
          wide = w.wide;
          fits = w.fits;
          done = w.done ++ r.out;
          progress = progress_run w.progress r.run;
          holds = holds_more d w.done r.out o o₂ written (written + u) w.holds (ap (λ (x : ℕ). written + x) r.counted) r.cells;
          same = length_with o r.out o₂ written r.cells room ∙ w.same;
        }

    -- a run of none leaves the buffer as it was
    pub writing_still : {k u : ℕ} {o₂ : List ℕ} → Writing F G s d p written o → Wrote F G s p k u o written o₂ → k ≡ 0 → Writing F G s d p written o₂
    writing_still {k} {u} {o₂} w r z =
        let c = writing_convertible w in
        let q = prepend-converted r.out c.rest (convert_items G (items_onward F s (p + k))) (sym r.run.comes ∙ c.comes) in
        let b : p + k ≡ p = omega arith in
        let e : c.rest ≡ q.0 = converted-same (sym c.comes ∙ ap (λ (x : ℕ). convert_items G (items_onward F s x)) (sym b) ∙ q.1) in
        let l : length r.out ≡ 0 = omega (arith, ap length e, ap length q.2, length-append r.out q.0) in
        let n : o₂ ≡ o = r.cells ∙ ap (with_units o written) (empty r.out l) ∙ sym (with_none o written) in
        rw n w
      where
        empty : (x : List ℕ) → length x ≡ 0 → x ≡ []
        empty [] h = refl
        empty (y ∷ ys) h = absurd (omega arith)

    module _ {v : ℕ} {q : Span} where
      pub writing-held : Writing F G s d p written o → CharacterAt F s p v q → (encode G v ≢ []) × (written + length (encode G v) ≤ length o)
      writing-held w c =
          let n = progress_next F G s p c.inside (Character v q) c.is w.done w.progress w.result w.wide in
          (n.0, omega (arith, n.1, w.holds.counted, w.fits, w.same))

      pub writing_more :
          {n : ℕ} {o₂ : List ℕ} → Writing F G s d p written o → CharacterAt F s p v q → n ≡ written + length (encode G v) → o₂ ≡ with_units o written (encode G v)
          → Writing F G s d (p + q.length) n o₂
      writing_more {n} {o₂} w c l u =
          let h = writing-held w c in
          record {
            result = w.result;
            all = w.all;
            wide = w.wide;
            fits = w.fits;
            done = w.done ++ encode G v;
            progress = progress_more F G s p v q w.done c w.progress h.0;
            holds = holds_more d w.done (encode G v) o o₂ written n w.holds l u;
            same = length_with o (encode G v) o₂ written u h.1 ∙ w.same;
          }
