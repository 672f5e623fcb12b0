-- A table's rule: at every number below a bound, by one test that computes; or as the list of a function's values.
use Prim.Native.Nat.{ℕ, zero, suc, ◌+◌, ◌<◌}
use mathlib.Core.Path.{◌≡◌, refl, ap, ◌∙◌}
use mathlib.Core.Bool.{Bool, true, false, ◌&&◌}
use mathlib.Core.List.{List, [], ◌∷◌}
use native.Mathlib.Omega.{arith}
use native.Mathlib.Decide.{ℕ_discrete}
use native.Mathlib.Nat.{not-suc-le-zero, le_of_suc-le-suc}
use lib.ListN.{get_or}

pub and_left : (a b : Bool) → (a && b) ≡ true → a ≡ true
and_left true b e = refl
and_left false b e = e

pub and_right : (a b : Bool) → (a && b) ≡ true → b ≡ true
and_right true b e = e
and_right false b e = absurd (let z : ◌≡◌ {A = ℕ} 0 1 = cc in omega arith)

abbrev pub all_below : ℕ → (ℕ → Bool) → Bool
all_below zero f = true
all_below (suc n) f = f n && all_below n f

pub below : (n : ℕ) (f : ℕ → Bool) → all_below n f ≡ true → (k : ℕ) → k < n → f k ≡ true
below zero f t k h = absurd (omega arith)
below (suc n) f t k h = go (ℕ_discrete k n) (below n f (and_right (f n) (all_below n f) t) k)
  where
    go : Dec (k ≡ n) → (k < n → f k ≡ true) → f k ≡ true
    go (yes e) g = rw e (and_left (f n) (all_below n f) t)
    go (no e) g = g (omega arith)

-- the values of a function at i, i + 1 and so on, n of them
abbrev pub tabulate_from : ℕ → ℕ → (ℕ → ℕ) → List ℕ
tabulate_from i zero f = []
tabulate_from i (suc n) f = f i ∷ tabulate_from (suc i) n f

abbrev pub tabulate : ℕ → (ℕ → ℕ) → List ℕ
tabulate n f = tabulate_from 0 n f

tabulated_from : (i n : ℕ) (f : ℕ → ℕ) (k : ℕ) → k < n → get_or (tabulate_from i n f) k 0 ≡ f (i + k)
tabulated_from i zero f k h = absurd (not-suc-le-zero h)
tabulated_from i (suc n) f zero h = ap f (omega arith)
tabulated_from i (suc n) f (suc k) h = tabulated_from (suc i) n f k (le_of_suc-le-suc h) ∙ ap f (omega arith)

-- a table that computes to a function's values has them at its entries
pub tabulated : (n : ℕ) (f : ℕ → ℕ) (k : ℕ) → k < n → get_or (tabulate n f) k 0 ≡ f k
tabulated n f k h = tabulated_from 0 n f k h ∙ ap f (omega arith)
