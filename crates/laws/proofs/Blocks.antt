-- Blocks of units: what a loop over one gathers, and a local array that holds one.
use Prim.Native.Nat.{ℕ, ◌+◌, ◌-◌, ◌≤◌, ◌<◌}
use mathlib.Core.Path.{◌≡◌, refl, ◌∙◌, subst}
use mathlib.Core.Bool.{Bool, false}
use mathlib.Core.List.{List}
use native.Mathlib.Omega.{arith}
use native.Mathlib.Nat.{le_trans}
use native.Mathlib.Decide.{dec_lt}
use borrow.Author.Count.{below_more}
use lib.Bits.{bit_or, or_add_and, and_le_l, and_le_r}
use lib.ListN.{length, get_or, set, length-set}
use lib.Seq.{get_or-set_same, get_or-set_other, paste}
use Rattle.forms.specs.Forms.{is_surrogate, is_non_character}
use Rattle.laws.proofs.Rows.{within_below}
use Rattle.laws.proofs.Buffers.{copy_begin, copy_more}

-- what holds at each of n numbers from `at` on
pub record Each (P : ℕ → Type 0) (at n : ℕ) : Type 0 where
  pub each : (k : ℕ) → k < n → P (at + k)

module _ {P : ℕ → Type 0} {at : ℕ} where
  pub each_none : Each P at 0
  each_none = record { each = λ k h. absurd (omega arith) }

  pub each_more : {n : ℕ} → Each P at n → P (at + n) → Each P at (n + 1)
  each_more {n} a b = record { each = below_more (λ (k : ℕ). P (at + k)) n a.each b }

  pub each_join : {n k : ℕ} → Each P at n → Each P (at + n) k → Each P at (n + k)
  each_join {n} {k} a b = record { each = λ i h. go i h (dec_lt i n) }
    where
      go : (i : ℕ) → i < n + k → Dec (i < n) → P (at + i)
      go i h (yes l) = a.each i l
      go i h (no l) =
          let q : at + n + (i - n) ≡ at + i = omega arith in
          rw q at (b.each (i - n) (omega arith))

  pub each_all : {j : ℕ} (n : ℕ) → Each P at j → j ≤ n → n ≤ j → Each P at n
  each_all {j} n a h k = let e : j ≡ n = omega arith in rw e at a

-- the n units from `at` on are at most m
pub record AtMost (s : List ℕ) (at n m : ℕ) : Type 0 where
  pub each : (k : ℕ) → k < n → get_or s (at + k) 0 ≤ m

-- or at least m
pub record AtLeast (s : List ℕ) (at n m : ℕ) : Type 0 where
  pub each : (k : ℕ) → k < n → m ≤ get_or s (at + k) 0

-- none of them passes a test
pub record NoneOf (test : ℕ → Bool) (s : List ℕ) (at n : ℕ) : Type 0 where
  pub each : (k : ℕ) → k < n → test (get_or s (at + k) 0) ≡ false

-- none is a surrogate
abbrev pub NoSurrogates : List ℕ → ℕ → ℕ → Type 0
NoSurrogates s at n = NoneOf is_surrogate s at n

-- none is FFFE or FFFF
abbrev pub NoNonCharacters : List ℕ → ℕ → ℕ → Type 0
NoNonCharacters s at n = NoneOf is_non_character s at n

pub no_surrogates : {s : List ℕ} {at n m : ℕ} → AtMost s at n m → m < 0xD800 → NoSurrogates s at n
no_surrogates {s} {at} a h = record { each = λ k i. within_below 0xD800 0xDFFF (get_or s (at + k) 0) (omega (arith, a.each k i)) }

pub no_non_characters : {s : List ℕ} {at n m : ℕ} → AtMost s at n m → m < 0xFFFE → NoNonCharacters s at n
no_non_characters {s} {at} a h = record { each = λ k i. within_below 0xFFFE 0xFFFF (get_or s (at + k) 0) (omega (arith, a.each k i)) }

or_left : (a b : ℕ) → a ≤ bit_or a b
or_left a b = omega (arith, or_add_and a b, and_le_r a b)

or_right : (a b : ℕ) → b ≤ bit_or a b
or_right a b = omega (arith, or_add_and a b, and_le_l a b)

module _ {s : List ℕ} {at : ℕ} where
  pub at-most-none : {m : ℕ} → AtMost s at 0 m
  at-most-none = record { each = λ k h. absurd (omega arith) }

  pub at-most_looser : {n m : ℕ} (l : ℕ) → AtMost s at n m → m ≤ l → AtMost s at n l
  at-most_looser l a h = record { each = λ k i. le_trans (a.each k i) h }

  -- units joined bit by bit: each is at most the whole
  pub at-most-or : {n m : ℕ} (x : ℕ) → AtMost s at n m → x ≡ get_or s (at + n) 0 → AtMost s at (n + 1) (bit_or m x)
  at-most-or {n} {m} x a e =
      record {
        each =
            below_more (λ (k : ℕ). get_or s (at + k) 0 ≤ bit_or m x) n (at-most_looser (bit_or m x) a (or_left m x)).each
            (subst (λ (y : ℕ). y ≤ bit_or m x) e (or_right m x));
      }

  pub at-most_join : {n k m : ℕ} → AtMost s at n m → AtMost s (at + n) k m → AtMost s at (n + k) m
  at-most_join {n} {k} {m} a b =
      let x : Each (λ i. get_or s i 0 ≤ m) at n = record { each = a.each } in
      let y : Each (λ i. get_or s i 0 ≤ m) (at + n) k = record { each = b.each } in
      record { each = (each_join x y).each }

  pub at-most-all : {j m : ℕ} (n : ℕ) → AtMost s at j m → j ≤ n → n ≤ j → AtMost s at n m
  at-most-all {j} {m} n a h k = let e : j ≡ n = omega arith in rw e at a

-- a local array of n cells, the first j of which hold g of the units from `at` on
pub record Held (g : ℕ → ℕ) (s : List ℕ) (at n j : ℕ) (b : List ℕ) : Type 0 where
  pub long : length b ≡ n
  pub each : (k : ℕ) → k < j → get_or b k 0 ≡ g (get_or s (at + k) 0)

pub held_none : {g : ℕ → ℕ} {s b : List ℕ} {at n : ℕ} → length b ≡ n → Held g s at n 0 b
held_none e = record { long = e; each = λ k h. absurd (omega arith) }

pub held_more :
    {g : ℕ → ℕ} {s b : List ℕ} {at n j : ℕ} (x : ℕ) → Held g s at n j b → j < n → x ≡ g (get_or s (at + j) 0) → Held g s at n (j + 1) (set b j x)
held_more {g} {s} {b} {at} {n} {j} x h l e =
    record { long = length-set b j x ∙ h.long; each = below_more (λ (k : ℕ). get_or (set b j x) k 0 ≡ g (get_or s (at + k) 0)) j (λ k i. before k i) (get_or-set_same b j x 0 (omega (arith, h.long)) ∙ e) }
  where
    before : (k : ℕ) → k < j → get_or (set b j x) k 0 ≡ g (get_or s (at + k) 0)
    before k i = get_or-set_other b j k x 0 (λ z. omega (arith, z)) ∙ h.each k i

-- the first k of the c cells of b, copied into the buffer d from n on
pub record Copied (d : List ℕ) (n c : ℕ) (b : List ℕ) (k : ℕ) (o : List ℕ) : Type 0 where
  pub most : k ≤ c
  pub cells : o ≡ paste d n b k
  pub same : length o ≡ length d

pub copied_none : {d b : List ℕ} {n c : ℕ} → Copied d n c b 0 d
copied_none {d} {b} {n} = record { most = omega arith; cells = copy_begin d n b; same = refl }

pub copied_more :
    {d b o : List ℕ} {n c k : ℕ} → Copied d n c b k o → n + c ≤ length d → length b ≡ c → k < c → Copied d n c b (k + 1) (set o (n + k) (get_or b k 0))
copied_more {d} {b} {o} {n} {c} {k} a h l i =
    record {
      most = omega arith;
      cells = copy_more d n b k o a.cells (omega arith) (omega arith);
      same = length-set o (n + k) (get_or b k 0) ∙ a.same;
    }
