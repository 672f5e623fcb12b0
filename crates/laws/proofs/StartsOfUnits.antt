-- How far back an item of UTF-16 starts, by the asked unit and the one before it; an item of UCS-4 starts at the offset itself.
use Prim.Native.Nat.{ℕ, zero, suc, ◌-◌, ◌≤◌, ◌<◌}
use mathlib.Core.Path.{◌≡◌, refl, sym, ap, ◌∙◌}
use mathlib.Core.Bool.{false}
use mathlib.Core.List.{List, [], ◌∷◌}
use native.Mathlib.Omega.{arith}
use borrow.Author.Tests.{le-leb}
use lib.ListN.{get_or, take}
use Rattle.forms.specs.Form.{Role, lead, trailing, invalid, is_trailing}
use Rattle.forms.specs.Layout.{role_of}
use Rattle.forms.specs.Forms.{utf16_layout, utf16, ucs4}
use Rattle.laws.proofs.Digits.{IsDigit}
use Rattle.laws.proofs.LayoutLaws.{not-trailing, in_row}
use Rattle.laws.proofs.FourForms.{utf16_fits, high-unit, low-unit}
use Rattle.laws.specs.Finder.{units_before, nearest}
use Rattle.laws.proofs.Distances.{distance_at, distance_back}

-- a unit that does not trail starts its item, and so does one before which nothing tells
distance_none : (o : Role) (d : ℕ) → is_trailing o ≡ false → distance_at o 0 d ≡ 0
distance_none (lead k) d e = rw (le-leb 0 k (omega arith))
distance_none trailing d e = absurd (let z : ◌≡◌ {A = ℕ} 0 1 = cc in omega arith)
distance_none invalid d e = refl

distance_first : (o : Role) → distance_at o 0 0 ≡ 0
distance_first (lead k) = rw (le-leb 0 k (omega arith))
distance_first trailing = refl
distance_first invalid = refl

-- a unit that is no high one takes no low unit behind it
abbrev IsHigh : ℕ → Type 0
IsHigh u = (0xD800 ≤ u) × (u < 0xDC00)

not-high : (u : ℕ) → (IsHigh u → ⊥) → (o : Role) → role_of utf16_layout u ≡ o → distance_at o 1 0 ≡ 0
not-high u n (lead zero) e = refl
not-high u n (lead (suc zero)) e =
    let r = in_row utf16_layout utf16_fits u 1 e in
    absurd (n (omega (arith, r.from), omega (arith, r.to)))
not-high u n (lead (suc (suc k))) e = absurd (omega (arith, (in_row utf16_layout utf16_fits u (suc (suc k)) e).inside))
not-high u n trailing e = refl
not-high u n invalid e = refl

nearest-two : (s : List ℕ) (p : ℕ) → 0 < p → nearest 2 (suc p) s ≡ get_or s p 0 ∷ (get_or s (p - 1) 0 ∷ [])
nearest-two s p h = let q : p ≡ suc (p - 1) = omega arith in ap (λ (x : ℕ). get_or s p 0 ∷ take 1 (units_before x s)) q

nearest-one : (s : List ℕ) (p : ℕ) → p ≡ 0 → nearest 2 (suc p) s ≡ get_or s p 0 ∷ []
nearest-one s p e = ap (λ (x : ℕ). get_or s p 0 ∷ take 1 (units_before x s)) e

module _ (s : List ℕ) (p : ℕ) where
  pub ucs4-none-back : 0 ≡ distance_back ucs4 0 (nearest 1 (suc p) s)
  ucs4-none-back = sym (distance_first (ucs4.role (get_or s p 0)))

  pub utf16-not-low : (IsDigit 0xDC00 0x400 (get_or s p 0) → ⊥) → 0 ≡ distance_back utf16 0 (nearest 2 (suc p) s)
  utf16-not-low n =
      sym (distance_none (utf16.role (get_or s p 0)) (distance_back utf16 1 (take 1 (units_before p s))) (not-trailing utf16_layout utf16_fits (get_or s p 0) n))

  pub utf16-first : p ≡ 0 → 0 ≡ distance_back utf16 0 (nearest 2 (suc p) s)
  utf16-first e = sym (ap (distance_back utf16 0) (nearest-one s p e) ∙ distance_first (utf16.role (get_or s p 0)))

  module _ (f : 0 < p) where
    pub utf16_unpaired : (IsHigh (get_or s (p - 1) 0) → ⊥) → 0 ≡ distance_back utf16 0 (nearest 2 (suc p) s)
    utf16_unpaired n =
        sym (ap (distance_back utf16 0) (nearest-two s p f)
        ∙ ap (distance_at (utf16.role (get_or s p 0)) 0) (not-high (get_or s (p - 1) 0) n (utf16.role (get_or s (p - 1) 0)) refl)
        ∙ distance_first (utf16.role (get_or s p 0)))

    pub utf16-paired : 0xDC00 ≤ get_or s p 0 → get_or s p 0 < 0xE000 → IsHigh (get_or s (p - 1) 0) → 1 ≡ distance_back utf16 0 (nearest 2 (suc p) s)
    utf16-paired l m n =
        sym (ap (distance_back utf16 0) (nearest-two s p f)
        ∙ rw (low-unit (get_or s p 0) l (omega arith), high-unit (get_or s (p - 1) 0) n.0 (omega (arith, n.1))))
