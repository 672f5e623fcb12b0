-- A text of a byte form, each byte as the byte of the layout that it stands for: it reads alike.
use Prim.Native.Nat.{ℕ, zero, suc, ◌+◌, ◌-◌}
use mathlib.Core.Path.{◌≡◌, refl, sym, ap, ◌∙◌}
use mathlib.Core.Bool.{false}
use mathlib.Core.List.{List, [], ◌∷◌, map, map-id}
use lib.ListN.{length, get_or, drop, length-map, get_or-map}
use Rattle.forms.specs.Form.{Role, lead, trailing, invalid, is_trailing, first_of, item_of}
use Rattle.forms.specs.Layout.{role_of, form_of}
use Rattle.forms.specs.Exchange.{i8_of, ebcdic_of}
use Rattle.forms.specs.Forms.{i8, utf_ebcdic}
use Rattle.laws.proofs.LayoutLaws.{InRow, in_row}
use Rattle.laws.proofs.Exchanged.{item-exchanged, first-exchanged}
use Rattle.tables.specs.ByteForms.{byte_form, layout_of, plain_of, role_seen}
use Rattle.tables.specs.declared.ByteForm.{ByteForm}
use Rattle.tables.specs.declared.ByteRole.{ByteRole}
use Rattle.tables.specs.declared.ByteRole.TheVariants.{Lead, Trailing, Invalid}
use Rattle.tables.specs.declared.ByteForm.TheVariants.{FssUtf, UtfEbcdic}
use Rattle.tables.proofs.Agreement.{plain_role, role_is}
use Rattle.tables.proofs.ByteLayouts.{fits}

abbrev pub plain_text : ByteForm → List ℕ → List ℕ
plain_text f s = map (plain_of f) s

pub plain_length : (f : ByteForm) (s : List ℕ) → length (plain_text f s) ≡ length s
plain_length f s = length-map s (plain_of f)

pub plain_at : (f : ByteForm) (s : List ℕ) (i : ℕ) → get_or (plain_text f s) i 0 ≡ plain_of f (get_or s i 0)
plain_at FssUtf s i = get_or-map (plain_of FssUtf) s i 0
plain_at UtfEbcdic s i = get_or-map (plain_of UtfEbcdic) s i 0

map-drop : (g : ℕ → ℕ) (n : ℕ) (s : List ℕ) → map g (drop n s) ≡ drop n (map g s)
map-drop g zero s = refl
map-drop g (suc n) [] = refl
map-drop g (suc n) (x ∷ s) = map-drop g n s

first_plain : (f : ByteForm) (p u : ℕ) (us : List ℕ) → item_of (form_of (layout_of f)) p (first_of (form_of (layout_of f)) (plain_of f u) (map (plain_of f) us))
    ≡ item_of (byte_form f) p (first_of (byte_form f) u us)
first_plain FssUtf p u us = rw (map-id us)
first_plain UtfEbcdic p u us =
    sym (item-exchanged i8_of ebcdic_of i8 p (first_of utf_ebcdic u us) ∙ ap (item_of i8 p) (first-exchanged i8_of ebcdic_of i8 u us))

-- the item at an offset is that of the layout
pub item_plain : (f : ByteForm) (s : List ℕ) (p : ℕ) → item_of (form_of (layout_of f)) p (first_of (form_of (layout_of f)) (plain_of f (get_or s p 0)) (drop (p + 1) (plain_text f s)))
    ≡ item_of (byte_form f) p (first_of (byte_form f) (get_or s p 0) (drop (p + 1) s))
item_plain f s p = rw (← map-drop (plain_of f) (p + 1) s) (first_plain f p (get_or s p 0) (drop (p + 1) s))

other : (o : Role) (r : ByteRole) → r ≡ role_seen o → (r ≡ Trailing → ⊥) → is_trailing o ≡ false
other (lead k) r e q = refl
other trailing r e q = absurd (q e)
other invalid r e q = refl

module _ (f : ByteForm) (b : ℕ) (r : ByteRole) (e : r ≡ role_seen ((byte_form f).role b)) where
  pub role-trailing : r ≡ Trailing → (byte_form f).role b ≡ trailing
  role-trailing q = role_is ((byte_form f).role b) r Trailing e q

  pub role_other : (r ≡ Trailing → ⊥) → is_trailing (role_of (layout_of f) (plain_of f b)) ≡ false
  role_other q = rw (← plain_role f b) (other ((byte_form f).role b) r e q)

  pub role-invalid : r ≡ Invalid → (byte_form f).role b ≡ invalid
  role-invalid q = role_is ((byte_form f).role b) r Invalid e q

  module _ (n : ℕ) (q : r ≡ Lead n) where
    pub role-lead : role_of (layout_of f) (plain_of f b) ≡ lead (n - 1)
    role-lead = sym (plain_role f b) ∙ role_is ((byte_form f).role b) r (Lead n) e q

    pub lead_in_row : InRow (layout_of f) (fits f) (plain_of f b) (n - 1)
    lead_in_row = in_row (layout_of f) (fits f) (plain_of f b) (n - 1) role-lead
