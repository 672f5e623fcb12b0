-- What the tables of both layouts share: lead bases, and roles by the shadow flags. Each by one computed test.
use Prim.Native.Nat.{ℕ, zero, suc, ◌+◌, ◌-◌, ◌≤◌, ◌<◌}
use mathlib.Core.Path.{◌≡◌, refl, sym, ap, ◌∙◌}
use mathlib.Core.Bool.{Bool, true, cond, ◌&&◌}
use mathlib.Core.List.{List, [], ◌∷◌}
use native.Mathlib.Omega.{arith}
use native.Mathlib.Decide.{ℕ_discrete}
use lib.Dec.{eqb, leb, ltb}
use borrow.Author.Tests.{eqb-true, ne_eqb, le-leb, lt-ltb}
use lib.ListN.{length, get_or}
use Rattle.forms.specs.Form.{Role, lead, trailing, invalid}
use Rattle.forms.specs.Layout.{row_at, role_of}
use Rattle.forms.specs.Exchange.{i8_of, ebcdic_of}
use Rattle.forms.specs.Flags.{flag_of}
use Rattle.forms.specs.Forms.{byte_layout}
use Rattle.laws.proofs.Table.{all_below, below}
use Rattle.laws.proofs.ExchangeTable.{exchange_of_inverse, inverse_byte}
use Rattle.tables.specs.Tables.{Flagged}
use Rattle.tables.specs.ByteForms.{byte_form, layout_of, plain_of, role_seen}
use Rattle.tables.specs.declared.ByteForm.{ByteForm}
use Rattle.tables.specs.declared.ByteRole.{ByteRole}
use Rattle.tables.specs.declared.ByteRole.TheVariants.{Lead, Trailing, Invalid}
use Rattle.tables.specs.declared.ByteForm.TheVariants.{FssUtf, UtfEbcdic}

pub most-rows : (f : ByteForm) → length (layout_of f).rows < 8
most-rows FssUtf = omega arith
most-rows UtfEbcdic = omega arith

-- the leads of each length begin alike in both layouts
pub same_base : (f : ByteForm) (k : ℕ) → k < length (layout_of f).rows → (row_at (byte_layout 5 7) k).first ≡ (row_at (layout_of f) k).first
same_base FssUtf k h = eqb-true _ _ (below 6 (λ i. eqb (row_at (byte_layout 5 7) i).first (row_at (byte_layout 6 6) i).first) refl k h)
same_base UtfEbcdic k h = refl

-- document 01's flags by the I8 byte: where each range begins, the last one's end, and the flag of each
abbrev firsts : List ℕ
firsts = 0x00 ∷ 0x20 ∷ 0x7F ∷ 0xA0 ∷ 0xC0 ∷ 0xE0 ∷ 0xF0 ∷ 0xF8 ∷ 0xFC ∷ 0xFE ∷ 0x100 ∷ []

abbrev flags : List ℕ
flags = 0 ∷ 1 ∷ 0 ∷ 9 ∷ 2 ∷ 3 ∷ 4 ∷ 5 ∷ 6 ∷ 7 ∷ []

abbrev in_range : ℕ → ℕ → Bool
in_range k x = leb (get_or firsts k 0) x && ltb x (get_or firsts (suc k) 0)

abbrev flagged_by : ℕ → ℕ → Bool
flagged_by k b = cond (in_range k (i8_of b)) (eqb (get_or flags k 0) (flag_of b)) true

-- one test of all 256 bytes, each with the range that its I8 byte is in
pub flag_of_range :
    (k plain : ℕ) → k < 10 → get_or firsts k 0 ≤ plain → plain < get_or firsts (suc k) 0 → Flagged plain (get_or flags k 0)
flag_of_range k plain h l m =
    record {
      each = λ b j e.
          let t = below 10 (λ i. flagged_by i b) (below 0x100 (λ x. all_below 10 (λ i. flagged_by i x)) refl b j) k h in
          let from : get_or firsts k 0 ≤ i8_of b = omega (arith, e, l) in
          let to : i8_of b < get_or firsts (suc k) 0 = omega (arith, e, m) in
          eqb-true _ _ (rw (le-leb (get_or firsts k 0) (i8_of b) from, lt-ltb (i8_of b) (get_or firsts (suc k) 0) to) at t);
    }

-- a role that was told, as the rules name it
abbrev pub role_meant : ByteRole → Role
role_meant (Lead n) = lead (n - 1)
role_meant Trailing = trailing
role_meant Invalid = invalid

meant : (o : Role) → role_meant (role_seen o) ≡ o
meant (lead k) = ap lead (omega arith)
meant trailing = refl
meant invalid = refl

pub role_is : (o : Role) (r t : ByteRole) → r ≡ role_seen o → r ≡ t → o ≡ role_meant t
role_is o r t e q = sym (meant o) ∙ ap role_meant (sym e ∙ q)

-- a role as a number: trailing 0, invalid 1, and a lead by the bytes of its sequence and one more
abbrev coded : Role → ℕ
coded (lead k) = suc (suc k)
coded trailing = 0
coded invalid = 1

abbrev decoded : ℕ → ByteRole
decoded zero = Trailing
decoded (suc zero) = Invalid
decoded (suc (suc k)) = Lead (suc k)

seen_by_code : (o : Role) → decoded (coded o) ≡ role_seen o
seen_by_code (lead k) = refl
seen_by_code trailing = refl
seen_by_code invalid = refl

decoded_lead : (n : ℕ) → 1 ≤ n → decoded (n + 1) ≡ Lead n
decoded_lead zero h = absurd (omega arith)
decoded_lead (suc m) h = let e : suc m + 1 ≡ suc (suc m) = omega arith in ap decoded e

-- the flag of a byte that stands alone is 0 or 1, that of a trailing byte 9; any other is the length of the sequence that it leads
abbrev flag_code : ℕ → ℕ
flag_code n = cond (eqb n 0) 2 (cond (eqb n 9) 0 (n + 1))

abbrev pub flagged : ℕ → ByteRole
flagged n = cond (eqb n 9) Trailing (Lead n)

flag_role : (x : ℕ) → x < 0x100 → flag_code (flag_of (ebcdic_of x)) ≡ coded (role_of (byte_layout 5 7) x)
flag_role x h = eqb-true _ _ (below 0x100 (λ y. eqb (flag_code (flag_of (ebcdic_of y))) (coded (role_of (byte_layout 5 7) y))) refl x h)

module _ (x n : ℕ) (h : x < 0x100) (f : Flagged x n) where
  is_flag : n ≡ flag_of (ebcdic_of x)
  is_flag = f.each (ebcdic_of x) (inverse_byte x h) (exchange_of_inverse x h)

  flag_seen : decoded (flag_code n) ≡ role_seen (role_of (byte_layout 5 7) x)
  flag_seen = ap decoded (ap (λ y. flag_code y) is_flag ∙ flag_role x h) ∙ seen_by_code (role_of (byte_layout 5 7) x)

  pub flag_zero : n ≡ 0 → Lead 1 ≡ role_seen (role_of (byte_layout 5 7) x)
  flag_zero e = rw e at flag_seen

  pub flag_nine : n ≡ 9 → Trailing ≡ role_seen (role_of (byte_layout 5 7) x)
  flag_nine e = rw e at flag_seen

  pub flag_lead : (n ≡ 0 → ⊥) → (n ≡ 9 → ⊥) → Lead n ≡ role_seen (role_of (byte_layout 5 7) x)
  flag_lead z t = sym (decoded_lead n (omega arith)) ∙ (rw (ne_eqb n 0 z, ne_eqb n 9 t) at flag_seen)

  -- every flag but 0 tells the role by itself
  pub flag_other : (n ≡ 0 → ⊥) → flagged n ≡ role_seen (role_of (byte_layout 5 7) x)
  flag_other z = go (ℕ_discrete n 9)
    where
      go : Dec (n ≡ 9) → flagged n ≡ role_seen (role_of (byte_layout 5 7) x)
      go (yes e) = ap flagged e ∙ flag_nine e
      go (no t) = rw (ne_eqb n 9 t) (flag_lead z t)

-- a form's byte has the role of the layout's byte that it stands for
pub plain_role : (f : ByteForm) (b : ℕ) → (byte_form f).role b ≡ role_of (layout_of f) (plain_of f b)
plain_role FssUtf b = refl
plain_role UtfEbcdic b = refl

pub byte_role : (f : ByteForm) (b x : ℕ) (r : ByteRole) → x ≡ plain_of f b → r ≡ role_seen (role_of (layout_of f) x) → r ≡ role_seen ((byte_form f).role b)
byte_role f b x r e q = q ∙ ap (λ y. role_seen (role_of (layout_of f) y)) e ∙ ap role_seen (sym (plain_role f b))
