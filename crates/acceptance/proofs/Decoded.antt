-- When a mended reading gives each of its answers, and what it returns.
use Prim.Native.Nat.{ℕ, ◌≤◌, ◌<◌}
use mathlib.Core.Path.{◌≡◌, refl, sym, ap, ◌∙◌}
use mathlib.Core.Logic.{◌⊎◌, inl, inr}
use mathlib.Core.List.{List, ◌++◌, map}
use native.Mathlib.Omega.{arith}
use lib.ListN.{length, take, drop, length-map}
use lib.Seq.{take_at, drop_at}
use Rattle.types.specs.declared.Fault.TheVariants.{SourceTooLong, BufferTooShort}
use Rattle.types.specs.declared.Refusal.{Refusal}
use Rattle.forms.specs.Fault.{number_of, refusal}
use Rattle.forms.specs.Form.{Form, items}
use Rattle.forms.specs.Lossy.{value_of, offset_of, marks, Outcome, decoded, refused, lossy, answer_of, values_in, starts_in}
use Rattle.demand3.proofs.ExactLossy.{exact_lossy}
use Rattle.c_answers.specs.declared.JkDecoding.{JkDecoding}
use Rattle.c_answers.specs.Answer.{decoding_answer}
use Rattle.c_answers.specs.Promises.{DecodesLossyInC}
use Rattle.acceptance.specs.Condition2.{Returned, Decoded}
use Rattle.acceptance.proofs.Numbers.{not_none}

module _ (F : Form) (s d e : List ℕ) (r : JkDecoding) (o p : List ℕ) (c : DecodesLossyInC F s d e r o p) where
  abbrev y : Outcome
  y = lossy F s (length d) (length e)

  -- the answer and the cells, of an outcome
  pub answer : (z : Outcome) → y ≡ z → r ≡ decoding_answer (answer_of z)
  answer z h = c.numbers ∙ ap decoding_answer (c.promised.answer ∙ ap answer_of h)

  pub values : (z : Outcome) → y ≡ z → o ≡ values_in z d
  values z h = c.promised.values ∙ ap (λ (w : Outcome). values_in w d) h

  pub starts : (z : Outcome) → y ≡ z → p ≡ starts_in z e
  starts z h = c.promised.starts ∙ ap (λ (w : Outcome). starts_in w e) h

  number : (z : Outcome) → y ≡ z → r.fault ≡ (decoding_answer (answer_of z)).fault
  number z h = ap (λ (b : JkDecoding). b.fault) (answer z h)

  -- what a number tells of the outcome
  refusal_of : (q : Refusal) → y ≡ refused q → (q ≡ refusal SourceTooLong 0) ⊎ (q ≡ refusal BufferTooShort 0)
  refusal_of q h = (exact_lossy F s (length d) (length e)).no_other q h

  when_1 : (z : Outcome) → y ≡ z → r.fault ≡ 1 → 65536 < length s
  when_1 (decoded is) h k = absurd (omega (arith, number (decoded is) h))
  when_1 (refused q) h k = go (refusal_of q h)
    where
      go : (q ≡ refusal SourceTooLong 0) ⊎ (q ≡ refusal BufferTooShort 0) → 65536 < length s
      go (inl w) = (((exact_lossy F s (length d) (length e)).fault_1 0).0 (h ∙ ap refused w)).0
      go (inr w) = absurd (omega (arith, number (refused q) h, ap (λ (b : Refusal). number_of b.fault) w))

  when_7 : (z : Outcome) → y ≡ z → r.fault ≡ 7 → (length s ≤ 65536) × ((length d < length (items F s)) ⊎ (length e < length (items F s)))
  when_7 (decoded is) h k = absurd (omega (arith, number (decoded is) h))
  when_7 (refused q) h k = go (refusal_of q h)
    where
      go : (q ≡ refusal SourceTooLong 0) ⊎ (q ≡ refusal BufferTooShort 0) → (length s ≤ 65536) × ((length d < length (items F s)) ⊎ (length e < length (items F s)))
      go (inl w) = absurd (omega (arith, number (refused q) h, ap (λ (b : Refusal). number_of b.fault) w))
      go (inr w) = let x = ((exact_lossy F s (length d) (length e)).fault_7 0).0 (h ∙ ap refused w) in (x.0, x.1)

  when_0 : (z : Outcome) → y ≡ z → r.fault ≡ 0 → Returned F s d e r o p
  when_0 (refused q) h k = not_none q.fault (sym (number (refused q) h) ∙ k)
  when_0 (decoded is) h k =
      let w : is ≡ items F s = (((exact_lossy F s (length d) (length e)).result is).0 h).3 in
      let a = answer (decoded is) h in
      let i : r.items ≡ length is = ap (λ (b : JkDecoding). b.items) a in
      let v : o ≡ map value_of is ++ drop (length is) d = values (decoded is) h in
      let t : p ≡ map offset_of is ++ drop (length is) e = starts (decoded is) h in
      let m : length (map value_of is) ≡ r.items = length-map is value_of ∙ sym i in
      let n : length (map offset_of is) ≡ r.items = length-map is offset_of ∙ sym i in
      record {
        items_are = i ∙ ap length w;
        marks_are = ap (λ (b : JkDecoding). b.marks) a ∙ ap marks w;
        values = ap (take r.items) v ∙ take_at (map value_of is) (drop (length is) d) r.items m ∙ ap (map value_of) w;
        starts = ap (take r.items) t ∙ take_at (map offset_of is) (drop (length is) e) r.items n ∙ ap (map offset_of) w;
        rest = (
          ap (drop r.items) v ∙ drop_at (map value_of is) (drop (length is) d) r.items m ∙ ap (λ (x : ℕ). drop x d) (sym i),
          ap (drop r.items) t ∙ drop_at (map offset_of is) (drop (length is) e) r.items n ∙ ap (λ (x : ℕ). drop x e) (sym i),
        );
      }

  pub decoded_so : Decoded F s d e r o p
  decoded_so =
      record {
        fault_1 = (
          when_1 y refl,
          (λ h. number (refused (refusal SourceTooLong 0)) (((exact_lossy F s (length d) (length e)).fault_1 0).1 (h, refl))),
        );
        fault_7 = (
          when_7 y refl,
          (λ w. number (refused (refusal BufferTooShort 0)) (((exact_lossy F s (length d) (length e)).fault_7 0).1 (w.0, w.1, refl))),
        );
        result = when_0 y refl;
      }
