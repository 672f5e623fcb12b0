-- What document 01's table of leads and values says of a layout, and that only the shortest sequence is legal.
use Rattle.std.specs.Prelude.{ℕ, suc, ◌≤◌, ◌≡◌, ◌↔◌, List, [], ◌∷◌, length}
use Rattle.forms.specs.Form.{lead, trailing, Sequence, units, size, Form}
use Rattle.forms.specs.Layout.{Layout, role_of, form_of}
use Rattle.forms.specs.LayoutTable.{TableRow}
use Rattle.forms.specs.Exchange.{i8_of}
use Rattle.forms.specs.Forms.{utf_ebcdic}

-- what a row of the table says of k trailing units
pub record Says (L : Layout) (k : ℕ) (r : TableRow) : Type 0 where
  pub leads : (u : ℕ) → role_of L u ≡ lead k ↔ ((r.first_lead ≤ u) × (u ≤ r.last_lead))
  pub values : (v : ℕ) → length ((form_of L).shortest v) ≡ suc k ↔ ((r.lowest ≤ v) × (v ≤ r.highest))

-- UTF-EBCDIC: the leads are those whose I8 byte the row has
pub record SaysExchanged (k : ℕ) (r : TableRow) : Type 0 where
  pub leads : (b : ℕ) → utf_ebcdic.role b ≡ lead k ↔ ((r.first_lead ≤ i8_of b) × (i8_of b ≤ r.last_lead))
  pub values : (v : ℕ) → length (utf_ebcdic.shortest v) ≡ suc k ↔ ((r.lowest ≤ v) × (v ≤ r.highest))

-- each row of a table, the first for k trailing bytes
abbrev pub EachRow : (ℕ → TableRow → Type 0) → ℕ → List TableRow → Type 0
EachRow P k [] = Unit {0}
EachRow P k (r ∷ rs) = P k r × EachRow P (suc k) rs

-- units that all trail
abbrev pub AllTrailing : Form → List ℕ → Type 0
AllTrailing F [] = Unit {0}
AllTrailing F (u ∷ us) = (F.role u ≡ trailing) × AllTrailing F us

-- document 01's full sequence: a lead with just the trailing units that it asks
pub record Full (F : Form) (c : Sequence) : Type 0 where
  pub leads : F.role c.first ≡ lead (length c.rest)
  pub trail : AllTrailing F c.rest

-- "Only the shortest sequence is legal": no full sequence is shorter than the shortest of its value, and one as long is it
pub record OnlyShortest (F : Form) : Type 0 where
  pub least : (c : Sequence) → Full F c → length (F.shortest (F.value c)) ≤ size c
  pub only : (c : Sequence) → Full F c → length (F.shortest (F.value c)) ≡ size c → F.shortest (F.value c) ≡ units c
