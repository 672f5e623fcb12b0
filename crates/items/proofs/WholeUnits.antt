-- The items of UTF-16 and UCS-4, by the unit at an offset and the one behind it.
use Prim.Native.Nat.{ℕ, suc, ◌+◌, ◌*◌, ◌-◌, ◌≤◌, ◌<◌}
use mathlib.Core.Path.{◌≡◌, refl, sym, ap, ◌∙◌}
use mathlib.Core.List.{List, [], ◌∷◌}
use mathlib.Core.Option.{none, some}
use native.Mathlib.Omega.{arith}
use lib.ListN.{length, get_or, drop, drop_of_length-le}
use lib.Seq.{drop-cons}
use borrow.Author.Tests.{le-ltb}
use Rattle.types.specs.declared.Fault.TheVariants.{MissingTrailing, StrayTrailing, InvalidUnit, Surrogate}
use Rattle.types.specs.declared.Item.TheVariants.{Character, Mark}
use Rattle.forms.specs.Form.{lead, sequence, taken, span}
use Rattle.forms.specs.Layout.{role_of, value_of}
use Rattle.forms.specs.Forms.{no_character, utf16_layout, ucs4_layout, utf16, ucs4}
use Rattle.laws.proofs.Digits.{IsDigit}
use Rattle.laws.proofs.Rows.{within_below, within_above}
use Rattle.laws.proofs.LayoutLaws.{not-trailing}
use Rattle.laws.proofs.AscendingRows.{limits_rise, leads_of_row}
use Rattle.laws.proofs.FourForms.{utf16_fits, utf16_rise, ucs4_fits, ucs4-invalid, low-alone, high-alone, high-unit, low-unit}
use Rattle.laws.proofs.Reading.{reads_trailing, reads_invalid, reads_missing, reads_excluded, reads_character}
use Rattle.items.specs.ItemAt.{item_at}

module _ (s : List ℕ) (p : ℕ) where
  abbrev u : ℕ
  u = get_or s p 0

  abbrev us : List ℕ
  us = drop (p + 1) s

  pub ucs4-mark : 0x80000000 ≤ u → Mark InvalidUnit (span p 1) ≡ item_at ucs4 s p
  ucs4-mark h = reads_invalid ucs4 p u us (ucs4-invalid u h)

  module _ (h : u < 0x80000000) where
    ucs4-lead : role_of ucs4_layout u ≡ lead 0
    ucs4-lead = leads_of_row ucs4_layout refl 0 u (omega arith) (omega arith) (omega arith)

    pub ucs4_surrogate : no_character u ≡ some Surrogate → Mark Surrogate (span p 1) ≡ item_at ucs4 s p
    ucs4_surrogate x =
        reads_excluded ucs4_layout ucs4_fits (limits_rise ucs4_layout refl) p u us 0 u ucs4-lead refl (omega arith) Surrogate (omega arith) x

    pub ucs4-character : no_character u ≡ none → Character u (span p 1) ≡ item_at ucs4 s p
    ucs4-character x =
        reads_character ucs4_layout ucs4_fits (limits_rise ucs4_layout refl) p u us 0 u ucs4-lead refl (omega arith) (omega arith) x

  -- a unit of UTF-16 that is no surrogate
  alone : role_of utf16_layout u ≡ lead 0 → utf16_layout.excluded u ≡ none → Character u (span p 1) ≡ item_at utf16 s p
  alone r x = reads_character utf16_layout utf16_fits utf16_rise p u us 0 u r refl (omega arith) (omega arith) x

  pub utf16_below : u < 0xD800 → Character u (span p 1) ≡ item_at utf16 s p
  utf16_below h = alone (low-alone u h) (rw (within_below 0xD800 0xDFFF u h, le-ltb 0x10FFFF u (omega arith)))

  pub utf16_above : 0xE000 ≤ u → u < 0x10000 → Character u (span p 1) ≡ item_at utf16 s p
  utf16_above h k = alone (high-alone u h (omega arith)) (rw (within_above 0xD800 0xDFFF u (omega arith), le-ltb 0x10FFFF u (omega arith)))

  pub utf16-stray : 0xDC00 ≤ u → u < 0xE000 → Mark StrayTrailing (span p 1) ≡ item_at utf16 s p
  utf16-stray h k = reads_trailing utf16 p u us (low-unit u h (omega arith))

  module _ (h : 0xD800 ≤ u) (k : u < 0xDC00) where
    high : role_of utf16_layout u ≡ lead 1
    high = high-unit u h (omega arith)

    missing : taken utf16 1 us ≡ [] → Mark MissingTrailing (span p 1) ≡ item_at utf16 s p
    missing e = reads_missing utf16 p u us 1 0 high (sym (ap length e)) (omega arith)

    pub utf16_cut : length s ≤ p + 1 → Mark MissingTrailing (span p 1) ≡ item_at utf16 s p
    utf16_cut l = missing (rw (drop_of_length-le s l))

    module _ (l : p + 1 < length s) where
      abbrev next : ℕ
      next = get_or s (p + 1) 0

      behind : us ≡ next ∷ drop (suc (p + 1)) s
      behind = drop-cons s (p + 1) 0 l

      pub utf16_unpaired : (IsDigit 0xDC00 0x400 next → ⊥) → Mark MissingTrailing (span p 1) ≡ item_at utf16 s p
      utf16_unpaired n = missing (rw (behind, not-trailing utf16_layout utf16_fits next n))

      pub utf16_pair :
          (x y : ℕ) → x ≡ u → y ≡ next → 0xDC00 ≤ y → y < 0xE000
          → Character (0x10000 + (x - 0xD800) * 0x400 + (y - 0xDC00)) (span p 2) ≡ item_at utf16 s p
      utf16_pair x y e f m n =
          let t : taken utf16 1 us ≡ next ∷ [] = rw (behind, low-unit next (omega arith) (omega arith)) in
          let v = 0x10000 + (x - 0xD800) * 0x400 + (y - 0xDC00) in
          let w : v ≡ value_of utf16_layout (sequence u (next ∷ [])) = omega arith in
          reads_character utf16_layout utf16_fits utf16_rise p u us 1 v high (ap length t)
          (w ∙ ap (λ (r : List ℕ). value_of utf16_layout (sequence u r)) (sym t))
          (omega arith)
          (rw (within_above 0xD800 0xDFFF v (omega arith), le-ltb 0x10FFFF v (omega arith)))
