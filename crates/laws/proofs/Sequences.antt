-- How a text falls into sequences: before, at and after a border that no trailing unit crosses.
use Prim.Native.Nat.{ℕ, zero, suc, ◌≤◌}
use mathlib.Core.Path.{◌≡◌, refl, ap, ◌∙◌}
use mathlib.Core.Bool.{Bool, true, false, cond}
use mathlib.Core.List.{List, [], ◌∷◌, ◌++◌}
use native.Mathlib.Omega.{arith}
use native.Mathlib.Nat.{not-suc-le-zero, le_of_suc-le-suc}
use lib.ListN.{length, drop, take}
use Rattle.forms.specs.Form.{Role, lead, trailing, invalid, Sequence, sequence, units, Form, asked, is_trailing, taken, first_of, sequences_after, sequences}
use Rattle.laws.specs.LayoutTable.{AllTrailing, Full}

pub same_units : (a b : Sequence) → units a ≡ units b → a ≡ b
same_units a b e =
    let h : a.first ≡ b.first = cc in
    let t : a.rest ≡ b.rest = cc in
    ap (λ (x : ℕ). sequence x a.rest) h ∙ ap (λ (x : List ℕ). sequence b.first x) t

-- no trailing unit stands first
abbrev pub NoTrailingFirst : Form → List ℕ → Type 0
NoTrailingFirst F [] = Unit {0}
NoTrailingFirst F (u ∷ us) = is_trailing (F.role u) ≡ false

-- the units of sequences, joined
abbrev pub joined : List Sequence → List ℕ
joined [] = []
joined (c ∷ cs) = units c ++ joined cs

module _ (F : Form) where
  taken-cond : (b : Bool) (u k : ℕ) (us : List ℕ) → length (taken F k us) ≤ length us → length (cond b (u ∷ taken F k us) []) ≤ suc (length us)
  taken-cond true u k us h = omega arith
  taken-cond false u k us h = omega arith

  pub taken-length : (k : ℕ) (us : List ℕ) → length (taken F k us) ≤ length us
  taken-length zero us = omega arith
  taken-length (suc k) [] = omega arith
  taken-length (suc k) (u ∷ us) = taken-cond (is_trailing (F.role u)) u k us (taken-length k us)

  most-cond : (b : Bool) (u k : ℕ) (us : List ℕ) → length (taken F k us) ≤ k → length (cond b (u ∷ taken F k us) []) ≤ suc k
  most-cond true u k us h = omega arith
  most-cond false u k us h = omega arith

  pub taken-most : (k : ℕ) (us : List ℕ) → length (taken F k us) ≤ k
  taken-most zero us = omega arith
  taken-most (suc k) [] = omega arith
  taken-most (suc k) (u ∷ us) = most-cond (is_trailing (F.role u)) u k us (taken-most k us)

  -- units behind those that are asked tell nothing
  pub taken-take : (k m : ℕ) (us : List ℕ) → k ≤ m → taken F k (take m us) ≡ taken F k us
  taken-take zero m us h = refl
  taken-take (suc k) zero us h = absurd (not-suc-le-zero h)
  taken-take (suc k) (suc m) [] h = refl
  taken-take (suc k) (suc m) (u ∷ us) h = ap (λ (t : List ℕ). cond (is_trailing (F.role u)) (u ∷ t) []) (taken-take k m us (le_of_suc-le-suc h))

  trailing-cond : (o : Role) (u k : ℕ) (us : List ℕ) → F.role u ≡ o → AllTrailing F (taken F k us) → AllTrailing F (cond (is_trailing o) (u ∷ taken F k us) [])
  trailing-cond (lead j) u k us e a = tt
  trailing-cond trailing u k us e a = (e, a)
  trailing-cond invalid u k us e a = tt

  pub taken-trailing : (k : ℕ) (us : List ℕ) → AllTrailing F (taken F k us)
  taken-trailing zero us = tt
  taken-trailing (suc k) [] = tt
  taken-trailing (suc k) (u ∷ us) = trailing-cond (F.role u) u k us refl (taken-trailing k us)

  full_cond : (b : Bool) (u k : ℕ) (us : List ℕ) → length (cond b (u ∷ taken F k us) []) ≡ suc k → (length (taken F k us) ≡ k → taken F k us ≡ take k us)
      → cond b (u ∷ taken F k us) [] ≡ u ∷ take k us
  full_cond true u k us e f = ap {B = List ℕ} (λ (x : List ℕ). u ∷ x) (f (omega arith))
  full_cond false u k us e f = absurd (omega arith)

  -- what a lead takes in full is the next part of the text
  pub taken_full : (k : ℕ) (us : List ℕ) → length (taken F k us) ≡ k → taken F k us ≡ take k us
  taken_full zero us e = refl
  taken_full (suc k) [] e = refl
  taken_full (suc k) (u ∷ us) e = full_cond (is_trailing (F.role u)) u k us e (taken_full k us)

  pub sequences-after : (s : List ℕ) (k : ℕ) → sequences_after F s k ≡ sequences F (drop k s)
  sequences-after [] zero = refl
  sequences-after [] (suc k) = refl
  sequences-after (u ∷ us) zero = refl
  sequences-after (u ∷ us) (suc k) = sequences-after us k

  -- the equation that a reader goes by: the first sequence, then those of the text behind it
  pub sequences_step : (u : ℕ) (us : List ℕ) → sequences F (u ∷ us) ≡ first_of F u us ∷ sequences F (drop (length (first_of F u us).rest) us)
  sequences_step u us = rw (← sequences-after us (length (first_of F u us).rest))

  -- a border that no trailing unit crosses parts the sequences too
  pub taken_border : (k : ℕ) (us r : List ℕ) → NoTrailingFirst F r → taken F k (us ++ r) ≡ taken F k us
  taken_border zero us r c = refl
  taken_border (suc k) [] [] c = refl
  taken_border (suc k) [] (x ∷ r) c = rw c
  taken_border (suc k) (u ∷ us) r c = ap (λ (t : List ℕ). cond (is_trailing (F.role u)) (u ∷ t) []) (taken_border k us r c)

  pub sequences_border : (m r : List ℕ) (k : ℕ) → NoTrailingFirst F r → k ≤ length m → sequences_after F (m ++ r) k ≡ sequences_after F m k ++ sequences F r
  sequences_border [] r zero c h = refl
  sequences_border [] r (suc k) c h = absurd (not-suc-le-zero h)
  sequences_border (u ∷ us) r zero c h =
      rw (taken_border (asked (F.role u)) us r c)
      (ap {B = List Sequence} (λ (x : List Sequence). first_of F u us ∷ x)
      (sequences_border us r (length (first_of F u us).rest) c (taken-length (asked (F.role u)) us)))
  sequences_border (u ∷ us) r (suc k) c h = sequences_border us r k c (le_of_suc-le-suc h)

  pub taken-all : (t r : List ℕ) → AllTrailing F t → taken F (length t) (t ++ r) ≡ t
  taken-all [] r a = refl
  taken-all (x ∷ t) r a = rw (a.0, taken-all t r a.1)

  skipped : (a b : List ℕ) → sequences_after F (a ++ b) (length a) ≡ sequences F b
  skipped [] b = refl
  skipped (x ∷ a) b = skipped a b

  -- a full sequence at the front is the first
  pub sequences_full : (c : Sequence) (r : List ℕ) → Full F c → sequences F (units c ++ r) ≡ c ∷ sequences F r
  sequences_full c r f = rw (f.leads, taken-all c.rest r f.trail, skipped c.rest r)

  split_cond : (b : Bool) (u : ℕ) (t us : List ℕ) → t ++ drop (length t) us ≡ us → cond b (u ∷ t) [] ++ drop (length (cond b (u ∷ t) [])) (u ∷ us) ≡ u ∷ us
  split_cond true u t us h = ap {B = List ℕ} (λ (x : List ℕ). u ∷ x) h
  split_cond false u t us h = refl

  pub taken_split : (k : ℕ) (us : List ℕ) → taken F k us ++ drop (length (taken F k us)) us ≡ us
  taken_split zero us = refl
  taken_split (suc k) [] = refl
  taken_split (suc k) (u ∷ us) = split_cond (is_trailing (F.role u)) u (taken F k us) us (taken_split k us)

  -- the sequences are the text
  pub sequences-joined : (s : List ℕ) (k : ℕ) → joined (sequences_after F s k) ≡ drop k s
  sequences-joined [] zero = refl
  sequences-joined [] (suc k) = refl
  sequences-joined (u ∷ us) zero =
      ap {B = List ℕ} (λ (x : List ℕ). u ∷ x)
      (ap (λ (x : List ℕ). taken F (asked (F.role u)) us ++ x) (sequences-joined us (length (first_of F u us).rest)) ∙ taken_split (asked (F.role u)) us)
  sequences-joined (u ∷ us) (suc k) = sequences-joined us k
