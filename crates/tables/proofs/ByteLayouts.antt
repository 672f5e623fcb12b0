-- What holds of both byte layouts and byte forms: each is one fact with the form as parameter.
use Prim.Native.Nat.{ℕ, suc, ◌+◌, ◌≤◌, ◌<◌}
use mathlib.Core.Path.{◌≡◌, refl, sym, ap, ◌∙◌}
use mathlib.Core.Bool.{true, ◌&&◌}
use mathlib.Core.Logic.{◌≢◌}
use mathlib.Core.List.{[], map, map-id}
use mathlib.Core.Option.{none}
use native.Mathlib.Omega.{arith}
use native.Mathlib.Nat.{sub-zero}
use lib.ListN.{length, length-map}
use lib.Dec.{leb}
use borrow.Author.Tests.{leb-true}
use Rattle.forms.specs.Form.{encode}
use Rattle.forms.specs.Layout.{Layout, row_at, row_limit, lowest_of, spelled, form_of}
use Rattle.forms.specs.Forms.{byte_layout, no_character, ucs4}
use Rattle.laws.proofs.Table.{and_left, and_right, all_below, below}
use Rattle.laws.proofs.FormLaws.{Laws}
use Rattle.laws.proofs.Digits.{spelled_from}
use Rattle.laws.proofs.LayoutLaws.{Fit, spelling_below, length-shortest}
use Rattle.laws.proofs.AscendingRows.{ascending, ascending_fits, limits_rise, row_of}
use Rattle.laws.proofs.FourForms.{fss_utf_laws, utf_ebcdic_laws, ucs4_laws}
use Rattle.laws.proofs.Carried.{free_below, free_outside, encodable, encodable_small, encodable_free}
use Rattle.laws.proofs.LayoutTable.{between_spelled}
use Rattle.tables.specs.ByteForms.{byte_form, layout_of, unit_of}
use Rattle.tables.specs.declared.ByteForm.{ByteForm}
use Rattle.tables.specs.declared.ByteForm.TheVariants.{FssUtf, UtfEbcdic}

row_test :
    (L : Layout) (n : ℕ) → all_below n (λ k. leb (row_at L k).first (row_at L k).last && leb (row_at L k).last 0xFF) ≡ true → (k : ℕ) → k < n
    → ((row_at L k).first ≤ (row_at L k).last) × ((row_at L k).last ≤ 0xFF)
row_test L n e k h =
    let t = below n (λ k. leb (row_at L k).first (row_at L k).last && leb (row_at L k).last 0xFF) e k h in
    (leb-true _ _ (and_left (leb (row_at L k).first (row_at L k).last) _ t), leb-true _ _ (and_right (leb (row_at L k).first (row_at L k).last) _ t))

-- both layouts pass the one test, so what is proved from it holds of both
pub passes : (f : ByteForm) → ascending (layout_of f) ≡ true
passes FssUtf = refl
passes UtfEbcdic = refl

pub fits : (f : ByteForm) → Fit (layout_of f)
fits f = ascending_fits (layout_of f) (passes f)

pub rise : (f : ByteForm) (k : ℕ) → suc k < length (layout_of f).rows → row_limit (layout_of f) k ≤ row_limit (layout_of f) (suc k)
rise f = limits_rise (layout_of f) (passes f)

pub byte_laws : (f : ByteForm) → Laws (byte_form f)
byte_laws FssUtf = fss_utf_laws
byte_laws UtfEbcdic = utf_ebcdic_laws

pub radix_positive : (f : ByteForm) → 0 < (layout_of f).radix
radix_positive FssUtf = omega arith
radix_positive UtfEbcdic = omega arith

-- trailing bytes end below C0
pub trailing-end : (f : ByteForm) → (layout_of f).low + (layout_of f).radix ≡ 0xC0
trailing-end FssUtf = refl
trailing-end UtfEbcdic = refl

-- leads are bytes
pub row_bytes : (f : ByteForm) (k : ℕ) → k < length (layout_of f).rows → ((row_at (layout_of f) k).first ≤ (row_at (layout_of f) k).last) × ((row_at (layout_of f) k).last ≤ 0xFF)
row_bytes FssUtf k h = row_test (byte_layout 6 6) 6 refl k h
row_bytes UtfEbcdic k h = row_test (byte_layout 5 7) 7 refl k h

-- they exclude what no form carries, and nothing else
pub layout_excludes : (f : ByteForm) (v : ℕ) → (layout_of f).excluded v ≡ no_character v
layout_excludes FssUtf v = refl
layout_excludes UtfEbcdic v = refl

form_excludes : (f : ByteForm) (v : ℕ) → (byte_form f).excluded v ≡ no_character v
form_excludes FssUtf v = refl
form_excludes UtfEbcdic v = refl

-- so they carry what UCS-4 does
module _ (f : ByteForm) (v : ℕ) where
  pub carries : v < 0x80000000 → no_character v ≡ none → encode (byte_form f) v ≢ []
  carries h free = encodable (byte_form f) (byte_laws f) v h (form_excludes f v ∙ free)

  pub carries_below : v < 0xD800 → encode (byte_form f) v ≢ []
  carries_below h = carries (omega arith) (free_below v h)

  pub carries_outside : (0xD800 ≤ v → 0xE000 ≤ v) → v < 0x80000000 → encode (byte_form f) v ≢ []
  carries_outside o h = carries h (free_outside v o)

  pub carries_character : encode ucs4 v ≢ [] → encode (byte_form f) v ≢ []
  carries_character n = carries (encodable_small ucs4 ucs4_laws v n) (encodable_free ucs4 ucs4_laws v n)

  pub not-excluded : encode (byte_form f) v ≢ [] → (layout_of f).excluded v ≡ none
  not-excluded n = layout_excludes f v ∙ encodable_free (byte_form f) (byte_laws f) v n

  pub small : encode (byte_form f) v ≢ [] → v < 0x80000000
  small n = encodable_small (byte_form f) (byte_laws f) v n

-- a byte form's encoding is the layout's, each byte as the form has it
pub encode_plain : (f : ByteForm) (v : ℕ) → encode (byte_form f) v ≢ [] → encode (byte_form f) v ≡ map (unit_of f) ((form_of (layout_of f)).shortest v)
encode_plain FssUtf v n = rw (not-excluded FssUtf v n) (sym (map-id ((form_of (layout_of FssUtf)).shortest v)))
encode_plain UtfEbcdic v n = rw (not-excluded UtfEbcdic v n)

module _ (f : ByteForm) (v : ℕ) (n : encode (byte_form f) v ≢ []) where
  -- the number of trailing bytes is the least whose row the value fits
  pub encode-length : (k : ℕ) → k < length (layout_of f).rows → lowest_of (layout_of f) k ≤ v → v < lowest_of (layout_of f) (suc k) → length (encode (byte_form f) v) ≡ suc k
  encode-length k h l b =
      ap length (encode_plain f v n)
      ∙ length-map ((form_of (layout_of f)).shortest v) (unit_of f)
      ∙ between_spelled (layout_of f) (passes f) k h v l b

  -- and the encoding is spelled by its row
  pub encode-spelled :
      (k : ℕ) → length (encode (byte_form f) v) ≡ suc k
      → (k < length (layout_of f).rows) × (v < row_limit (layout_of f) k)
      × (encode (byte_form f) v ≡ map (unit_of f) (spelled_from (row_at (layout_of f) k).first (layout_of f).low (layout_of f).radix k v))
  encode-spelled k e =
      let L = layout_of f in
      let r = (fits f).reaches v (small f v n) (not-excluded f v n) in
      let z = spelling_below L (fits f) r.0 v r.1 r.2 in
      let a : z.at ≡ k = omega (arith, length-shortest L (fits f) v z, e, ap length (encode_plain f v n), length-map ((form_of L).shortest v) (unit_of f)) in
      go z.at a z.inside z.below z.same
    where
      go :
          (j : ℕ) → j ≡ k → j < length (layout_of f).rows → v < row_limit (layout_of f) j → (form_of (layout_of f)).shortest v ≡ spelled (layout_of f) (row_at (layout_of f) j) j v
          → (k < length (layout_of f).rows) × (v < row_limit (layout_of f) k)
          × (encode (byte_form f) v ≡ map (unit_of f) (spelled_from (row_at (layout_of f) k).first (layout_of f).low (layout_of f).radix k v))
      go j a h b m =
          let L = layout_of f in
          let q : spelled L (row_at L j) j v ≡ spelled_from (row_at L k).first L.low L.radix k v = rw ((row_of L (passes f) j h).zeroed, sub-zero v, a) in
          (rw a at h, rw a at b, encode_plain f v n ∙ ap (map (unit_of f)) (m ∙ q))
