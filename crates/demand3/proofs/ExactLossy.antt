-- When a lossy decoding gives each of its answers.
use Prim.Native.Nat.{ℕ, ◌≤◌, ◌<◌}
use mathlib.Core.Path.{◌≡◌, sym, ap, ◌∙◌}
use mathlib.Core.Logic.{◌⊎◌, inl, inr}
use mathlib.Core.List.{List}
use native.Mathlib.Omega.{arith}
use native.Mathlib.Decide.{dec_lt}
use lib.ListN.{length}
use Rattle.types.specs.declared.Fault.{Fault}
use Rattle.types.specs.declared.Fault.TheVariants.{SourceTooLong, BufferTooShort}
use Rattle.types.specs.declared.Item.{Item}
use Rattle.types.specs.declared.Refusal.{Refusal}
use Rattle.forms.specs.Fault.{number_of, limit, refusal}
use Rattle.forms.specs.Form.{Form, items}
use Rattle.forms.specs.Lossy.{decoded, refused, lossy}
use Rattle.demand3.specs.ExactLossy.{ExactLossy}
use Rattle.demand3.proofs.LossyCalls.{lossy-over, lossy-short-values, lossy-short-starts, lossy-all}

differ : {A : Type 0} {is : List Item} {r : Refusal} → refused r ≡ decoded is → A
differ e = absurd (let z : ◌≡◌ {A = ℕ} 0 1 = cc in omega arith)

same : {q r : Refusal} → refused q ≡ refused r → q ≡ r
same e = cc

same-items : {is js : List Item} → decoded is ≡ decoded js → is ≡ js
same-items e = cc

1_not_7 : {A : Type 0} {p q : ℕ} → refusal SourceTooLong p ≡ refusal BufferTooShort q → A
1_not_7 e = absurd (let z : ◌≡◌ {A = ℕ} 1 7 = ap (λ (r : Refusal). number_of r.fault) e in omega arith)

place : {f : Fault} {p q : ℕ} → refusal f p ≡ refusal f q → p ≡ q
place e = ap (λ (r : Refusal). r.offset) e

module _ (F : Form) (s : List ℕ) (m n : ℕ) where
  data Case : Type 0 where
    too_long : limit < length s → Case
    short : length s ≤ limit → (m < length (items F s)) ⊎ (n < length (items F s)) → Case
    fits : length s ≤ limit → length (items F s) ≤ m → length (items F s) ≤ n → Case

  case : Case
  case = go (dec_lt limit (length s)) (dec_lt m (length (items F s))) (dec_lt n (length (items F s)))
    where
      go : Dec (limit < length s) → Dec (m < length (items F s)) → Dec (n < length (items F s)) → Case
      go (yes h) a b = too_long h
      go (no h) (yes a) b = short (omega arith) (inl a)
      go (no h) (no a) (yes b) = short (omega arith) (inr b)
      go (no h) (no a) (no b) = fits (omega arith) (omega arith) (omega arith)

  short_is : length s ≤ limit → (m < length (items F s)) ⊎ (n < length (items F s)) → lossy F s m n ≡ refused (refusal BufferTooShort 0)
  short_is h (inl a) = lossy-short-values F s m n h a
  short_is h (inr b) = lossy-short-starts F s m n h b

  when_1 : (p : ℕ) → Case → lossy F s m n ≡ refused (refusal SourceTooLong p) → (limit < length s) × (p ≡ 0)
  when_1 p (too_long h) e = (h, place (same (sym e ∙ lossy-over F s m n h)))
  when_1 p (short h a) e = 1_not_7 (same (sym e ∙ short_is h a))
  when_1 p (fits h a b) e = differ (sym e ∙ lossy-all F s m n h a b)

  when_7 :
      (p : ℕ) → Case → lossy F s m n ≡ refused (refusal BufferTooShort p)
      → (length s ≤ limit) × ((m < length (items F s)) ⊎ (n < length (items F s))) × (p ≡ 0)
  when_7 p (too_long h) e = 1_not_7 (same (sym (lossy-over F s m n h) ∙ e))
  when_7 p (short h a) e = (h, a, place (same (sym e ∙ short_is h a)))
  when_7 p (fits h a b) e = differ (sym e ∙ lossy-all F s m n h a b)

  when_refused : (r : Refusal) → Case → lossy F s m n ≡ refused r → (r ≡ refusal SourceTooLong 0) ⊎ (r ≡ refusal BufferTooShort 0)
  when_refused r (too_long h) e = inl (same (sym e ∙ lossy-over F s m n h))
  when_refused r (short h a) e = inr (same (sym e ∙ short_is h a))
  when_refused r (fits h a b) e = differ (sym e ∙ lossy-all F s m n h a b)

  when_decoded :
      (is : List Item) → Case → lossy F s m n ≡ decoded is
      → (length s ≤ limit) × (length (items F s) ≤ m) × (length (items F s) ≤ n) × (is ≡ items F s)
  when_decoded is (too_long h) e = differ (sym (lossy-over F s m n h) ∙ e)
  when_decoded is (short h a) e = differ (sym (short_is h a) ∙ e)
  when_decoded is (fits h a b) e = (h, a, b, same-items (sym e ∙ lossy-all F s m n h a b))

  pub exact_lossy : ExactLossy F s m n
  exact_lossy =
      record {
        fault_1 = λ p. (when_1 p case, (λ w. lossy-over F s m n w.0 ∙ ap (λ (q : ℕ). refused (refusal SourceTooLong q)) (sym w.1)));
        fault_7 = λ p. (when_7 p case, (λ w. short_is w.0 w.1 ∙ ap (λ (q : ℕ). refused (refusal BufferTooShort q)) (sym w.2)));
        no_other = λ r. when_refused r case;
        result = λ is. (when_decoded is case, (λ w. lossy-all F s m n w.0 w.1 w.2 ∙ ap decoded (sym w.3)));
      }
