-- The loop of a measure: what it keeps, how an item carries it on, and what it comes to.
use Prim.Native.Nat.{ℕ, ◌+◌, ◌*◌, ◌≤◌, ◌<◌}
use mathlib.Core.Path.{◌≡◌, refl, sym, ap, ◌∙◌}
use mathlib.Core.List.{List, [], ◌∷◌, ◌++◌}
use native.Mathlib.Omega.{arith}
use lib.ListN.{length, length-append}
use Rattle.types.specs.declared.Fault.{Fault}
use Rattle.types.specs.declared.Fault.TheVariants.{SourceTooLong}
use Rattle.types.specs.declared.Span.{Span}
use Rattle.types.specs.declared.Item.TheVariants.{Character, Mark}
use Rattle.types.specs.declared.Refusal.{Refusal}
use Rattle.forms.specs.Fault.{limit, refusal}
use Rattle.forms.specs.Form.{Form, encode}
use Rattle.forms.specs.Forms.{strictly}
use Rattle.forms.specs.Conversion.{refusal_at, answer_of, Measures}
use Rattle.laws.proofs.Numbers.{measures}
use Rattle.laws.proofs.Runs.{Counted, progress_run}
use Rattle.laws.proofs.Progress.{CharacterAt, MarkAt, character-onward, Progress, progress_begin, progress_end, over-limit, at-limit, progress_more, progress_stops}
use Rattle.std.specs.Prelude.{Ok, Err}

-- the items before `at` become so many units
pub record Measuring (F G : Form) (s : List ℕ) (at units : ℕ) : Type 0 where
  pub done : List ℕ
  pub progress : Progress F (strictly G) s at done
  pub counted : units ≡ length done
  pub small : units ≤ 7 * at
  pub short : length s ≤ limit

length-zero : (e : List ℕ) (n : ℕ) → n ≡ length e → n ≡ 0 → e ≡ []
length-zero [] n q z = refl
length-zero (u ∷ e) n q z = absurd (omega arith)

module _ {F G : Form} {s : List ℕ} where
  pub measuring-over : {r : Refusal} → r ≡ refusal SourceTooLong 0 → limit < length s → Measures F G s (Err r)
  measuring-over e h = measures (ap Err e ∙ sym (ap answer_of (over-limit F G s h)))

  pub measuring_begin : length s ≤ limit → Measuring F G s 0 0
  measuring_begin h = record { done = []; progress = progress_begin F (strictly G) s; counted = refl; small = omega arith; short = h }

  pub measuring-end : {at units : ℕ} → Measuring F G s at units → length s ≤ at → Measures F G s (Ok units)
  measuring-end {at} m h = measures (ap Ok m.counted ∙ sym (ap answer_of (at-limit F G s m.short ∙ progress_end F (strictly G) s at m.done m.progress h)))

  -- a run of characters at once
  pub measuring_run : {at units k u : ℕ} → Measuring F G s at units → Counted F (strictly G) s at k u → Measuring F G s (at + k) (units + u)
  measuring_run m r =
      record {
        done = m.done ++ r.out;
        progress = progress_run m.progress r.run;
        counted = omega (arith, m.counted, r.counted, length-append m.done r.out);
        small = omega (arith, m.small, r.small);
        short = m.short;
      }

  module _ {p units : ℕ} {q : Span} where
    pub measuring-mark : {f : Fault} {r : Refusal} → Measuring F G s p units → MarkAt F s p f q → r ≡ refusal_at (strictly G).excluded (Mark f q) → Measures F G s (Err r)
    measuring-mark {f} m c e = measures (ap Err e ∙ sym (ap answer_of (at-limit F G s m.short ∙ progress_stops F (strictly G) s p c.inside (Mark f q) c.is m.done m.progress refl)))

    module _ {v n : ℕ} where
      pub measuring-unheld :
          {r : Refusal} → Measuring F G s p units → CharacterAt F s p v q → n ≡ length (encode (strictly G) v) → n ≡ 0 → r ≡ refusal_at (strictly G).excluded (Character v q)
          → Measures F G s (Err r)
      measuring-unheld m c l z e =
          measures (ap Err e ∙ sym (ap answer_of (at-limit F G s m.short ∙ progress_stops F (strictly G) s p c.inside (Character v q) c.is m.done m.progress (length-zero (encode (strictly G) v) n l z))))

      pub measuring_more :
          Measuring F G s p units → CharacterAt F s p v q → n ≡ length (encode (strictly G) v) → (n ≡ 0 → ⊥) → length (encode (strictly G) v) ≤ 7
          → Measuring F G s (p + q.length) (units + n)
      measuring_more m c l z b =
          record {
            done = m.done ++ encode (strictly G) v;
            progress = progress_more F (strictly G) s p v q m.done c m.progress (λ y. z (l ∙ ap length y));
            counted = omega (arith, m.counted, length-append m.done (encode (strictly G) v));
            small = omega (arith, m.small, character-onward c);
            short = m.short;
          }
