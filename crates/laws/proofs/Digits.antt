-- Trailing units as digits to a radix: what they number, and how a number is written with them.
use Prim.Native.Nat.{ℕ, zero, suc, ◌+◌, ◌-◌, ◌*◌, ◌/◌, ◌%◌, ◌^◌, ◌≤◌, ◌<◌}
use mathlib.Core.Path.{◌≡◌, refl, sym, ap, ◌∙◌}
use mathlib.Core.List.{List, [], ◌∷◌, ◌++◌}
use native.Mathlib.Omega.{arith}
use native.Mathlib.Nat.{add-zero, pow-zero, pow-suc, one-le-pow, pow-succ', one-mul, mul_comm, mul_assoc, mul-pos, mul-le-mul_right, mul-add-div_right, div-one, div-eq_of_lt, div-div-eq-div-mul, mul-add-mod_self_right, mod-eq_of_lt, mod-lt, div-add-mod', div-lt_iff_lt-mul, add-sub_cancel_left}
use lib.ListN.{length}
use Rattle.forms.specs.Layout.{number, digits}

-- a digit is a unit from low on, below low + R
abbrev pub IsDigit : ℕ → ℕ → ℕ → Type 0
IsDigit low R x = (low ≤ x) × (x < low + R)

abbrev pub AllDigits : ℕ → ℕ → List ℕ → Type 0
AllDigits low R [] = Unit {0}
AllDigits low R (x ∷ xs) = IsDigit low R x × AllDigits low R xs

pub digit_lt : (d n P R : ℕ) → d < R → n < P → d * P + n < R * P
digit_lt d n P R h k = omega (arith, mul-le-mul_right P h)

pub number_lt : (low R : ℕ) (t : List ℕ) → AllDigits low R t → number low R t < R ^ length t
number_lt low R [] a = rw (pow-zero R) (omega arith)
number_lt low R (x ∷ xs) a =
    rw (pow-succ' R (length xs)) (digit_lt (x - low) (number low R xs) (R ^ length xs) R (omega (arith, a.0)) (number_lt low R xs a.1))

pub quotient : (d n P : ℕ) → n < P → (d * P + n) / P ≡ d
quotient d n P h = mul-add-div_right (omega arith) d n ∙ rw (div-eq_of_lt h) (add-zero d)

pub remainder : (d n P : ℕ) → n < P → (d * P + n) % P ≡ n
remainder d n P h = mul-add-mod_self_right d P n ∙ mod-eq_of_lt h

pub digits_number : (low R : ℕ) (t : List ℕ) → AllDigits low R t → digits low R (length t) (number low R t) ≡ t
digits_number low R [] a = refl
digits_number low R (x ∷ xs) a =
    rw (
      quotient (x - low) (number low R xs) (R ^ length xs) (number_lt low R xs a.1),
      remainder (x - low) (number low R xs) (R ^ length xs) (number_lt low R xs a.1),
      digits_number low R xs a.1,
    )
    (ap {B = List ℕ} (λ (y : ℕ). y ∷ xs) (omega (arith, a.0)))

pub length_digits : (low R k v : ℕ) → length (digits low R k v) ≡ k
length_digits low R zero v = refl
length_digits low R (suc k) v = ap suc (length_digits low R k (v % R ^ k))

pub number_digits : (low R k v : ℕ) → ((j : ℕ) → j < k → 0 < R ^ j) → v < R ^ k → number low R (digits low R k v) ≡ v
number_digits low R zero v p h = omega (arith, pow-zero R)
number_digits low R (suc k) v p h =
    rw (
      length_digits low R k (v % R ^ k),
      add-sub_cancel_left low (v / R ^ k),
      number_digits low R k (v % R ^ k) (λ j l. p j (omega arith)) (mod-lt v (p k (omega arith))),
    )
    (div-add-mod' v (R ^ k))

pub digits-all : (low R k v : ℕ) → ((j : ℕ) → j < k → 0 < R ^ j) → v < R ^ k → AllDigits low R (digits low R k v)
digits-all low R zero v p h = tt
digits-all low R (suc k) v p h = (
  (omega arith, omega (arith, (div-lt_iff_lt-mul (p k (omega arith))).1 (rw pow-succ' at h))),
  digits-all low R k (v % R ^ k) (λ j l. p j (omega arith)) (mod-lt v (p k (omega arith))),
)

-- the last digit apart: dividing by the radix takes it off
module _ (R P w : ℕ) (p : 0 < R) (q : 0 < P) where
  parts : w ≡ (w / (R * P)) * P * R + w % (R * P)
  parts =
      let e : w / (R * P) * (R * P) ≡ (w / (R * P)) * P * R = ap (λ (x : ℕ). w / (R * P) * x) (mul_comm R P) ∙ sym (mul_assoc (w / (R * P)) P R) in
      omega (arith, div-add-mod' w (R * P))

  pub last_off : (w % (R * P)) / R ≡ (w / R) % P
  last_off =
      let r = w % (R * P) in
      let l : r / R < P = (div-lt_iff_lt-mul p).1 (rw (mul_comm P R) (mod-lt w (mul-pos p q))) in
      sym (ap (λ (x : ℕ). (x / R) % P) parts ∙ ap (λ (x : ℕ). x % P) (mul-add-div_right p ((w / (R * P)) * P) r) ∙ mul-add-mod_self_right (w / (R * P)) P (r / R) ∙ mod-eq_of_lt l)

  pub last-same : (w % (R * P)) % R ≡ w % R
  last-same = sym (ap (λ (x : ℕ). x % R) parts ∙ mul-add-mod_self_right ((w / (R * P)) * P) R (w % (R * P)))

-- a lead from `first` on and k trailing units, written from the last to the first
abbrev pub spelled_from : ℕ → ℕ → ℕ → ℕ → ℕ → List ℕ
spelled_from first low R k v = (first + v / R ^ k) ∷ digits low R k (v % R ^ k)

pub length-spelled-from : (first low R k v : ℕ) → length (spelled_from first low R k v) ≡ suc k
length-spelled-from first low R k v = ap suc (length_digits low R k (v % R ^ k))

pub spelled-last :
    (first low R k v : ℕ) → 0 < R → spelled_from first low R (suc k) v ≡ spelled_from first low R k (v / R) ++ ((low + v % R) ∷ [])
spelled-last first low R zero v p =
    rw (pow-suc R 0, pow-zero R, one-mul R, div-one (v % R), div-one (v / R))
spelled-last first low R (suc k) v p =
    let q = one-le-pow (suc k) R p in
    rw (pow-succ' R (suc k), ← div-div-eq-div-mul v R (R ^ suc k))
    (ap {B = List ℕ} (λ (x : List ℕ). (first + v / R / R ^ suc k) ∷ x)
    (spelled-last low low R k (v % (R * R ^ suc k)) p ∙ rw (last_off R (R ^ suc k) v p q, last-same R (R ^ suc k) v p q)))
