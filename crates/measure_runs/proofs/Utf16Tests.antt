-- The tests on units: what they say of a unit, and of a block where none failed.
use Prim.Native.Nat.{ℕ, ◌+◌, ◌-◌, ◌≤◌, ◌<◌}
use mathlib.Core.Path.{◌≡◌, refl, sym, ◌∙◌}
use mathlib.Core.Bool.{Bool, true, false, not, ◌||◌, beq}
use mathlib.Core.List.{List}
use native.Mathlib.Omega.{arith}
use lib.Dec.{leb, ltb}
use lib.ListN.{length, get_or}
use borrow.Author.Tests.{le-leb, lt-leb, le-ltb, leb-true, ltb-true, ltb-false}
use borrow.Author.Count.{below_none, below_more}
use Rattle.laws.proofs.Table.{and_left, and_right}
use Rattle.laws.proofs.Values.{neither_left, neither_right, and_false}
use Rattle.forms.specs.Forms.{is_surrogate}
use Rattle.laws.proofs.Blocks.{NoneOf}
use Rattle.laws.proofs.Carried.{outside}
use Rattle.measure_runs.specs.Utf16Units.{is_high, is_low, Paired, Whole}

pub differ : {A : Type 0} {b : Bool} → b ≡ true → b ≡ false → A
differ p q = absurd (let z : ◌≡◌ {A = ℕ} 0 1 = cc in omega arith)

pub not_true : (b : Bool) → not b ≡ true → b ≡ false
not_true true e = sym e
not_true false e = refl

pub not_false : (b : Bool) → not b ≡ false → b ≡ true
not_false true e = refl
not_false false e = sym e

pub high_bounds : (u : ℕ) → is_high u ≡ true → (0xD800 ≤ u) × (u < 0xDC00)
high_bounds u e = (leb-true 0xD800 u (and_left (leb 0xD800 u) (ltb u 0xDC00) e), ltb-true u 0xDC00 (and_right (leb 0xD800 u) (ltb u 0xDC00) e))

pub low_bounds : (u : ℕ) → is_low u ≡ true → (0xDC00 ≤ u) × (u < 0xE000)
low_bounds u e = (leb-true 0xDC00 u (and_left (leb 0xDC00 u) (ltb u 0xE000) e), ltb-true u 0xE000 (and_right (leb 0xDC00 u) (ltb u 0xE000) e))

pub high_false : (u : ℕ) → is_high u ≡ false → 0xD800 ≤ u → 0xDC00 ≤ u
high_false u e h = ltb-false u 0xDC00 (and_false (leb 0xD800 u) (ltb u 0xDC00) e (le-leb 0xD800 u h))

pub low_false : (u : ℕ) → is_low u ≡ false → 0xDC00 ≤ u → 0xE000 ≤ u
low_false u e h = ltb-false u 0xE000 (and_false (leb 0xDC00 u) (ltb u 0xE000) e (le-leb 0xDC00 u h))

pub surrogate_false : (u : ℕ) → is_surrogate u ≡ false → 0xD800 ≤ u → 0xE000 ≤ u
surrogate_false u e h = outside u (rw e) h

-- a low unit is no high one
pub low-not-high : (u : ℕ) → is_low u ≡ true → is_high u ≡ false
low-not-high u e = let b = low_bounds u e in rw (le-leb 0xD800 u (omega (arith, b)), le-ltb u 0xDC00 b.0)

pub below_not-high : (u : ℕ) → u < 0xD800 → is_high u ≡ false
below_not-high u h = rw (lt-leb 0xD800 u h)

pub below_not-low : (u : ℕ) → u < 0xD800 → is_low u ≡ false
below_not-low u h = rw (lt-leb 0xDC00 u (omega arith))

same : (x y : Bool) → not (beq x y) ≡ false → x ≡ y
same true true h = refl
same true false h = h
same false true h = sym h
same false false h = refl

-- the loop over neighbours
pub record PairedUnless (bad : Bool) (s : List ℕ) (at k : ℕ) : Type 0 where
  pub each : bad ≡ false → (j : ℕ) → j < k → is_high (get_or s (at + j) 0) ≡ is_low (get_or s (at + j + 1) 0)

pub paired_none : {bad : Bool} {s : List ℕ} {at : ℕ} → PairedUnless bad s at 0
paired_none {bad} {s} {at} = record { each = λ e. below_none (λ (j : ℕ). is_high (get_or s (at + j) 0) ≡ is_low (get_or s (at + j + 1) 0)) }

pub paired_more :
    {bad x y : Bool} {s : List ℕ} {at k : ℕ} → PairedUnless bad s at k → x ≡ is_high (get_or s (at + k) 0) → y ≡ is_low (get_or s (at + k + 1) 0)
    → PairedUnless (bad || not (beq x y)) s at (k + 1)
paired_more {bad} {x} {y} {s} {at} {k} p a b =
    record {
      each =
          λ e.
          below_more (λ (j : ℕ). is_high (get_or s (at + j) 0) ≡ is_low (get_or s (at + j + 1) 0)) k (p.each (neither_left bad (not (beq x y)) e))
          (sym a ∙ same x y (neither_right bad (not (beq x y)) e) ∙ b);
    }

pub paired-end : {bad : Bool} {s : List ℕ} {at k c : ℕ} → PairedUnless bad s at k → c ≤ k → bad ≡ false → Paired s at (c + 1)
paired-end p h e = record { each = λ j b. p.each e j (omega arith) }

-- a loop that looks for units which pass a test
pub record NoneUnless (test : ℕ → Bool) (some : Bool) (s : List ℕ) (at k : ℕ) : Type 0 where
  pub each : some ≡ false → (j : ℕ) → j < k → test (get_or s (at + j) 0) ≡ false

module _ {test : ℕ → Bool} {some : Bool} {s : List ℕ} {at : ℕ} where
  pub none_begin : NoneUnless test some s at 0
  none_begin = record { each = λ e. below_none (λ (j : ℕ). test (get_or s (at + j) 0) ≡ false) }

  pub none_more : {x : Bool} {k : ℕ} → NoneUnless test some s at k → x ≡ test (get_or s (at + k) 0) → NoneUnless test (some || x) s at (k + 1)
  none_more {x} {k} p a =
      record {
        each =
            λ e. below_more (λ (j : ℕ). test (get_or s (at + j) 0) ≡ false) k (p.each (neither_left some x e)) (sym a ∙ neither_right some x e);
      }

  pub none_end : {k c : ℕ} → NoneUnless test some s at k → c ≤ k → some ≡ false → NoneOf test s at c
  none_end p h e = record { each = λ j b. p.each e j (omega arith) }

-- fewer units of a block
pub none_fewer : {test : ℕ → Bool} {s : List ℕ} {at k c : ℕ} → NoneOf test s at k → c ≤ k → NoneOf test s at c
none_fewer n h = record { each = λ j b. n.each j (omega arith) }

-- whole characters: a block that ends with no high unit, or all of it but a high unit at its end
module _ {s : List ℕ} {at c n : ℕ} (inside : at + c ≤ length s) (p : Paired s at n) (few : c ≤ n) (some : 0 < c) (first : is_low (get_or s at 0) ≡ false) where
  pub whole-all : is_high (get_or s (at + (c - 1)) 0) ≡ false → Whole s at c
  whole-all h =
      record {
        inside = inside;
        paired = record { each = λ j b. p.each j (omega arith) };
        first = λ z. first;
        last = λ j e. let q : c - 1 ≡ j = omega arith in rw q at h;
      }

  pub whole_but_last : is_high (get_or s (at + (c - 1)) 0) ≡ true → Whole s at (c - 1)
  whole_but_last h =
      record {
        inside = omega arith;
        paired = record { each = λ j b. p.each j (omega arith) };
        first = λ z. first;
        last = λ j e.
            let q : at + (c - 1) ≡ at + j + 1 = omega arith in
            p.each j (omega arith) ∙ not_low (get_or s (at + j + 1) 0) (rw q at h);
      }
    where
      not_low : (u : ℕ) → is_high u ≡ true → is_low u ≡ false
      not_low u e = let b = high_bounds u e in rw (lt-leb 0xDC00 u b.1)
