-- The item of a byte form at an offset, by the role of its first byte and the trailing bytes behind it.
use Prim.Native.Nat.{ℕ, ◌+◌, ◌*◌, ◌-◌, ◌^◌, ◌≤◌, ◌<◌}
use mathlib.Core.Path.{◌≡◌, sym, ap, ◌∙◌}
use mathlib.Core.Bool.{true, false}
use mathlib.Core.List.{List}
use native.Mathlib.Omega.{arith}
use native.Mathlib.Nat.{mul-le-mul_right, le_trans}
use lib.ListN.{length, get_or, drop}
use Rattle.types.specs.declared.Fault.TheVariants.{MissingTrailing, StrayTrailing, InvalidUnit, Overlong, Surrogate}
use Rattle.types.specs.declared.Item.{Item}
use Rattle.types.specs.declared.Item.TheVariants.{Character, Mark}
use Rattle.forms.specs.Form.{lead, Sequence, sequence, taken, span}
use Rattle.forms.specs.Layout.{Layout, role_of, row_at, number, value_of, lowest_of, form_of}
use Rattle.forms.specs.Forms.{is_surrogate}
use Rattle.laws.proofs.Sequences.{taken-most}
use Rattle.laws.proofs.LayoutLaws.{InRow}
use Rattle.laws.proofs.AscendingRows.{row_of}
use Rattle.laws.proofs.Reading.{reads_trailing, reads_invalid, reads_missing, reads_overlong, reads_excluded, reads_character}
use Rattle.tables.specs.ByteForms.{byte_form, layout_of, plain_of, role_seen}
use Rattle.tables.specs.declared.ByteForm.{ByteForm}
use Rattle.tables.specs.declared.ByteRole.{ByteRole}
use Rattle.tables.specs.declared.ByteRole.TheVariants.{Lead, Trailing, Invalid}
use Rattle.items.specs.ItemAt.{item_at}
use Rattle.items.specs.Tail.{TailIs}
use Rattle.tables.proofs.ByteLayouts.{passes, fits, rise, layout_excludes}
use Rattle.items.proofs.Plain.{plain_text, item_plain, role-trailing, role-invalid, role-lead, lead_in_row}

module _ (f : ByteForm) (s : List ℕ) (p : ℕ) (r : ByteRole) (e : r ≡ role_seen ((byte_form f).role (get_or s p 0))) where
  pub trailing-alone : r ≡ Trailing → Mark StrayTrailing (span p 1) ≡ item_at (byte_form f) s p
  trailing-alone q = reads_trailing (byte_form f) p (get_or s p 0) (drop (p + 1) s) (role-trailing f (get_or s p 0) r e q)

  pub invalid-alone : r ≡ Invalid → Mark InvalidUnit (span p 1) ≡ item_at (byte_form f) s p
  invalid-alone q = reads_invalid (byte_form f) p (get_or s p 0) (drop (p + 1) s) (role-invalid f (get_or s p 0) r e q)

  module _ (n : ℕ) (led : r ≡ Lead n) where
    abbrev L : Layout
    L = layout_of f

    abbrev k : ℕ
    k = n - 1

    abbrev u : ℕ
    u = plain_of f (get_or s p 0)

    abbrev us : List ℕ
    us = drop (p + 1) (plain_text f s)

    leads : role_of L u ≡ lead k
    leads = role-lead f (get_or s p 0) r e n led

    pub in_row : InRow (layout_of f) (fits f) (plain_of f (get_or s p 0)) (n - 1)
    in_row = lead_in_row f (get_or s p 0) r e n led

    origin : (row_at L k).origin ≡ 0
    origin = (row_of L (passes f) k in_row.inside).zeroed

    row_room : (a b o x P : ℕ) → o ≡ 0 → a ≤ x → x ≤ b → o + (b + 1 - a) * P ≤ 2 ^ 31 → (x - a + 1) * P ≤ 2 ^ 31
    row_room a b o x P q h j l =
        let m : x - a + 1 ≤ b + 1 - a = omega arith in
        le_trans (mul-le-mul_right P m) (omega arith)

    -- the lead's own bits leave room for those of its trailing bytes
    pub lead-room : (plain_of f (get_or s p 0) - (row_at (layout_of f) (n - 1)).first + 1) * (layout_of f).radix ^ (n - 1) ≤ 2 ^ 31
    lead-room =
        row_room (row_at L k).first (row_at L k).last (row_at L k).origin u (L.radix ^ k) origin in_row.from in_row.to
        (row_of L (passes f) k in_row.inside).bound

    module _
        (own count value : ℕ)
        (l : own ≡ plain_of f (get_or s p 0) - (row_at (layout_of f) (n - 1)).first)
        (tail : TailIs (layout_of f) (drop (p + 1) (plain_text f s)) (n - 1) own count value)
      where
        pub count_most : count ≤ n - 1
        count_most = omega (arith, tail.counted, taken-most (form_of L) k us)

        pub missing : count < n - 1 → Mark MissingTrailing (span p (count + 1)) ≡ item_at (byte_form f) s p
        missing h = reads_missing (form_of L) p u us k count leads tail.counted h ∙ item_plain f s p

        module _ (h : n - 1 ≤ count) where
          c : Sequence
          c = sequence u (taken (form_of L) k us)

          count_is : count ≡ k
          count_is = omega (arith, count_most)

          whole : length (taken (form_of L) k us) ≡ k
          whole = sym tail.counted ∙ count_is

          zero-origin : (o x v : ℕ) → o ≡ 0 → v ≡ x → v ≡ o + x
          zero-origin o x v q r = omega arith

          is : value ≡ value_of L (sequence u (taken (form_of L) k us))
          is =
              rw whole
              (zero-origin (row_at L k).origin ((u - (row_at L k).first) * L.radix ^ k + number L.low L.radix (taken (form_of L) k us)) value origin
              (tail.joined ∙ rw (l, count_is)))

          same_span : (g : ℕ → Item) → g (count + 1) ≡ g (k + 1)
          same_span g = ap (λ (m : ℕ). g (m + 1)) count_is

          pub too_long : value < lowest_of (layout_of f) (n - 1) → Mark Overlong (span p (count + 1)) ≡ item_at (byte_form f) s p
          too_long o =
              same_span (λ m. Mark Overlong (span p m))
              ∙ reads_overlong L (fits f) (rise f) p u us k value leads whole is o
              ∙ item_plain f s p

          pub no_character_lem : lowest_of (layout_of f) (n - 1) ≤ value → is_surrogate value ≡ true → Mark Surrogate (span p (count + 1)) ≡ item_at (byte_form f) s p
          no_character_lem o x =
              same_span (λ m. Mark Surrogate (span p m))
              ∙ reads_excluded L (fits f) (rise f) p u us k value leads whole is Surrogate o (layout_excludes f value ∙ rw x)
              ∙ item_plain f s p

          pub whole-character : lowest_of (layout_of f) (n - 1) ≤ value → is_surrogate value ≡ false → Character value (span p (count + 1)) ≡ item_at (byte_form f) s p
          whole-character o x =
              same_span (λ m. Character value (span p m))
              ∙ reads_character L (fits f) (rise f) p u us k value leads whole is o (layout_excludes f value ∙ rw x)
              ∙ item_plain f s p
