-- What a lossy decoding promises follows from its answer and its cells: demand 3 among it.
use Prim.Native.Nat.{ℕ, ◌+◌, ◌≤◌, ◌<◌}
use mathlib.Core.Path.{◌≡◌, refl, sym, ap, ◌∙◌}
use mathlib.Core.Bool.{Bool, true, false, ◌||◌}
use mathlib.Core.List.{List, ◌++◌, map}
use borrow.Author.Tests.{le-ltb, lt-ltb}
use lib.Dec.{ltb}
use lib.ListN.{length, take, drop, length-map}
use lib.Seq.{take_at, drop_at}
use Rattle.types.specs.declared.Fault.TheVariants.{SourceTooLong, BufferTooShort}
use Rattle.forms.specs.Fault.{limit, refusal}
use Rattle.forms.specs.Form.{Form, items}
use Rattle.forms.specs.Answer.{decoding_numbers}
use Rattle.forms.specs.Lossy.{value_of, offset_of, marks, Outcome, decoded, refused, lossy, counts, answer_of, outcome_numbers, values_in, starts_in}
use Rattle.demand3.specs.Demand3.{Parts, Demand3, DecodesLossy}
use Rattle.laws.proofs.FormLaws.{Laws}
use Rattle.demand3.proofs.ThreeParts.{three_count, three-marks, parts}
use Rattle.std.specs.Prelude.{Result, Ok}
use Rattle.types.specs.declared.Refusal.{Refusal}
use Rattle.types.specs.declared.Counts.{Counts}

-- when each outcome is
module _ (F : Form) (s : List ℕ) (m n : ℕ) where
  pub lossy-over : limit < length s → lossy F s m n ≡ refused (refusal SourceTooLong 0)
  lossy-over h = rw (lt-ltb limit (length s) h)

  pub lossy-short-values : length s ≤ limit → m < length (items F s) → lossy F s m n ≡ refused (refusal BufferTooShort 0)
  lossy-short-values h l = rw (le-ltb limit (length s) h, lt-ltb m (length (items F s)) l)

  or_true : (x y : Bool) → y ≡ true → (x || y) ≡ true
  or_true true y e = refl
  or_true false y e = e

  pub lossy-short-starts : length s ≤ limit → n < length (items F s) → lossy F s m n ≡ refused (refusal BufferTooShort 0)
  lossy-short-starts h l =
      rw (le-ltb limit (length s) h, or_true (ltb m (length (items F s))) (ltb n (length (items F s))) (lt-ltb n (length (items F s)) l))

  pub lossy-all : length s ≤ limit → length (items F s) ≤ m → length (items F s) ≤ n → lossy F s m n ≡ decoded (items F s)
  lossy-all h k l = rw (le-ltb limit (length s) h, le-ltb m (length (items F s)) k, le-ltb n (length (items F s)) l)

answer-numbers : (x : Outcome) → decoding_numbers (answer_of x) ≡ outcome_numbers x
answer-numbers (decoded is) = refl
answer-numbers (refused q) = refl

-- the promise settles the answer, its numbers, and every cell of both buffers
pub settled :
    (F : Form) (s d e : List ℕ) (q r : Result Counts Refusal) (o p x y : List ℕ) → DecodesLossy F s d e q o p → DecodesLossy F s d e r x y
    → (q ≡ r) × (decoding_numbers q ≡ decoding_numbers r) × (o ≡ x) × (p ≡ y)
settled F s d e q r o p x y a b = (a.answer ∙ sym b.answer, a.numbers ∙ sym b.numbers, a.values ∙ sym b.values, a.starts ∙ sym b.starts)

module _ (F : Form) (laws : Laws F) (s d e : List ℕ) (r : Result Counts Refusal) (o p : List ℕ)
    (answer : r ≡ answer_of (lossy F s (length d) (length e)))
    (values : o ≡ values_in (lossy F s (length d) (length e)) d)
    (starts : p ≡ starts_in (lossy F s (length d) (length e)) e)
  where
    due : Demand3 F s d e r o p
    due vs m ws f l q h a b =
        let is = items F s in
        let x : lossy F s (length d) (length e) ≡ decoded is = lossy-all F s (length d) (length e) h a b in
        let n : length is ≡ length vs + length (items F m) + length ws = ap (λ (y : List ℕ). length (items F y)) q ∙ three_count F laws vs m ws f l in
        let k : marks is ≡ marks (items F m) = ap (λ (y : List ℕ). marks (items F y)) q ∙ three-marks F laws vs m ws f l in
        let v : o ≡ map value_of is ++ drop (length is) d = values ∙ ap (λ (y : Outcome). values_in y d) x in
        let t : p ≡ map offset_of is ++ drop (length is) e = starts ∙ ap (λ (y : Outcome). starts_in y e) x in
        go (length vs + length (items F m) + length ws) n (marks (items F m)) k v t (answer ∙ ap answer_of x) (parts F laws vs m ws s f l q)
      where
        go :
            (n : ℕ) → length (items F s) ≡ n → (k : ℕ) → marks (items F s) ≡ k → o ≡ map value_of (items F s) ++ drop (length (items F s)) d
            → p ≡ map offset_of (items F s) ++ drop (length (items F s)) e → r ≡ Ok (counts (length (items F s)) (marks (items F s)))
            → Parts F vs m ws s (map value_of (items F s)) (map offset_of (items F s))
            → (r ≡ Ok (counts n k)) × Parts F vs m ws s (take n o) (take n p) × (drop n o ≡ drop n d) × (drop n p ≡ drop n e)
        go n x k y v t w z =
            let is = items F s in
            let g : length (map value_of is) ≡ n = length-map is value_of ∙ x in
            let h : length (map offset_of is) ≡ n = length-map is offset_of ∙ x in
            let a : take n o ≡ map value_of is = ap (take n) v ∙ take_at (map value_of is) (drop (length is) d) n g in
            let b : take n p ≡ map offset_of is = ap (take n) t ∙ take_at (map offset_of is) (drop (length is) e) n h in
            let i : drop n o ≡ drop n d = ap (drop n) v ∙ drop_at (map value_of is) (drop (length is) d) n g ∙ ap (λ (c : ℕ). drop c d) x in
            let j : drop n p ≡ drop n e = ap (drop n) t ∙ drop_at (map offset_of is) (drop (length is) e) n h ∙ ap (λ (c : ℕ). drop c e) x in
            (w ∙ ap (λ (c : ℕ). Ok (counts c (marks is))) x ∙ ap (λ (c : ℕ). Ok (counts n c)) y, rw (a, b) z, i, j)

    pub promise : DecodesLossy F s d e r o p
    promise =
        record {
          answer = answer;
          numbers = ap decoding_numbers answer ∙ answer-numbers (lossy F s (length d) (length e));
          values = values;
          starts = starts;
          demand3 = due;
        }
