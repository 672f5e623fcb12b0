-- Characters of either byte form by their bytes: read in the layout's own text, from the lead's free bits and those of the bytes behind it.
use Rattle.std.proofs.Common.{◌≡◌, ℕ, ◌+◌, ◌-◌, ◌*◌, ◌^◌, ◌<◌, ◌≤◌, List, [], ◌∷◌, ◌++◌, length, get_or, drop, sym, refl, ◌∙◌, add-zero, add_assoc, mul_assoc, add-mul, mul-one, arith}
use mathlib.Core.Option.{none}
use native.Mathlib.Nat.{pow-zero, pow-succ', mul-le-mul_left}
use lib.Bits.{bit_or}
use Rattle.types.specs.declared.Span.{Span}
use Rattle.forms.specs.Form.{first_of, item_of, span}
use Rattle.forms.specs.Layout.{row_at, number, lowest_of, form_of}
use Rattle.forms.specs.Forms.{no_character}
use Rattle.laws.proofs.Digits.{IsDigit, AllDigits}
use Rattle.laws.proofs.Progress.{CharacterAt}
use Rattle.laws.proofs.ReadUnits.{behind-one, behind-two, behind-three, read-units}
use Rattle.tables.specs.ByteForms.{byte_form, layout_of, plain_of}
use Rattle.tables.specs.declared.ByteForm.{ByteForm}
use Rattle.tables.specs.declared.ByteForm.TheVariants.{FssUtf, UtfEbcdic}
use Rattle.tables.proofs.ByteLayouts.{passes, layout_excludes}
use Rattle.items.proofs.Plain.{plain_text, plain_length, plain_at, item_plain}
use Rattle.characters.specs.ByteCharacter.{LeadOf, FreeBitsOf}
use Rattle.characters.proofs.Shorts.{or_left, or_right}

-- free bits l, with those of the units behind them joined one after the other
abbrev pub joined : ℕ → ℕ → ℕ → List ℕ → ℕ
joined low R l [] = l
joined low R l (x ∷ xs) = joined low R (l * R + (x - low)) xs

pub joined_number : (low R l : ℕ) (xs : List ℕ) → joined low R l xs ≡ l * R ^ length xs + number low R xs
joined_number low R l [] = rw (pow-zero R, mul-one l) (sym (add-zero l))
joined_number low R l (x ∷ xs) =
    let P = R ^ length xs in
    joined_number low R (l * R + (x - low)) xs
    ∙ rw (pow-succ' R (length xs), add-mul (l * R) (x - low) P, mul_assoc l R P) (add_assoc (l * (R * P)) ((x - low) * P) (number low R xs))

module _ (f : ByteForm) (s : List ℕ) (at : ℕ) where
  same_item : item_of (form_of (layout_of f)) at (first_of (form_of (layout_of f)) (get_or (plain_text f s) at 0) (drop (at + 1) (plain_text f s)))
      ≡ item_of (byte_form f) at (first_of (byte_form f) (get_or s at 0) (drop (at + 1) s))
  same_item = rw (plain_at f s at) (item_plain f s at)

  -- a character of the text is one of the layout's text
  pub from_plain : {v : ℕ} {q : Span} → CharacterAt (form_of (layout_of f)) (plain_text f s) at v q → CharacterAt (byte_form f) s at v q
  from_plain c = record { inside = rw (plain_length f s) at c.inside; is = c.is ∙ same_item }

  pub to_plain : {v : ℕ} {q : Span} → CharacterAt (byte_form f) s at v q → CharacterAt (form_of (layout_of f)) (plain_text f s) at v q
  to_plain c = record { inside = rw (plain_length f s) c.inside; is = c.is ∙ sym same_item }

  abbrev u : ℕ
  u = plain_of f (get_or s at 0)

  -- a lead with these bytes behind it, of a value that needs so many
  read_bytes :
      {v : ℕ} (xs r : List ℕ) → LeadOf f s at (length xs) → length xs < length (layout_of f).rows → drop (at + 1) (plain_text f s) ≡ xs ++ r → AllDigits (layout_of f).low (layout_of f).radix xs
      → v ≡ joined (layout_of f).low (layout_of f).radix (plain_of f (get_or s at 0) - (row_at (layout_of f) (length xs)).first) xs → lowest_of (layout_of f) (length xs) ≤ v → no_character v ≡ none
      → CharacterAt (byte_form f) s at v (span at (length xs + 1))
  read_bytes {v} xs r h k e d q l free =
      let L = layout_of f in
      let a : get_or (plain_text f s) at 0 ≡ u = plain_at f s at in
      let n : length (plain_text f s) ≡ length s = plain_length f s in
      from_plain
      (read-units L (passes f) (plain_text f s) at xs r v (omega (arith, n, h.inside)) e d k (rw a h.from) (rw a h.to)
      (rw a (q ∙ joined_number L.low L.radix (u - (row_at L (length xs)).first) xs)) l (layout_excludes f v ∙ free))

  abbrev x : ℕ → ℕ
  x i = plain_of f (get_or s (at + i) 0)

  inside : {k : ℕ} → LeadOf f s at k → at + k < length (plain_text f s)
  inside h = rw (plain_length f s) h.inside

  digit : (i : ℕ) {a : ℕ} → FreeBitsOf f (get_or s (at + i) 0) a → a < (layout_of f).radix → IsDigit (layout_of f).low (layout_of f).radix (plain_of f (get_or s (at + i) 0)) × (plain_of f (get_or s (at + i) 0) - (layout_of f).low ≡ a)
  digit i b h = let e = b.trails h in ((omega arith, omega arith), omega arith)

  module _ (few : 3 < length (layout_of f).rows) where
    pub two_bytes :
        {a v : ℕ} → LeadOf f s at 1 → FreeBitsOf f (get_or s (at + 1) 0) a → a < (layout_of f).radix
        → v ≡ (plain_of f (get_or s at 0) - (row_at (layout_of f) 1).first) * (layout_of f).radix + a → lowest_of (layout_of f) 1 ≤ v → no_character v ≡ none
        → CharacterAt (byte_form f) s at v (span at 2)
    two_bytes h b i q l free =
        let d = digit 1 b i in
        read_bytes (x 1 ∷ []) (drop (at + 2) (plain_text f s)) h (omega arith) (behind-one (plain_text f s) at (inside h) ∙ rw (plain_at f s (at + 1))) (d.0, tt) (rw d.1 q) l free

    pub three_bytes :
        {a b v : ℕ} → LeadOf f s at 2 → FreeBitsOf f (get_or s (at + 1) 0) a → FreeBitsOf f (get_or s (at + 2) 0) b → bit_or a b < (layout_of f).radix
        → v ≡ ((plain_of f (get_or s at 0) - (row_at (layout_of f) 2).first) * (layout_of f).radix + a) * (layout_of f).radix + b → lowest_of (layout_of f) 2 ≤ v → no_character v ≡ none
        → CharacterAt (byte_form f) s at v (span at 3)
    three_bytes {a} {b} h y z i q l free =
        let d = digit 1 y (omega (arith, or_left a b)) in
        let e = digit 2 z (omega (arith, or_right a b)) in
        read_bytes (x 1 ∷ x 2 ∷ []) (drop (at + 3) (plain_text f s)) h (omega arith)
        (behind-two (plain_text f s) at (inside h) ∙ rw (plain_at f s (at + 1), plain_at f s (at + 2))) (d.0, (e.0, tt)) (rw (d.1, e.1) q) l free

    pub four_bytes :
        {a b c v : ℕ} → LeadOf f s at 3 → FreeBitsOf f (get_or s (at + 1) 0) a → FreeBitsOf f (get_or s (at + 2) 0) b → FreeBitsOf f (get_or s (at + 3) 0) c
        → bit_or (bit_or a b) c < (layout_of f).radix
        → v ≡ (((plain_of f (get_or s at 0) - (row_at (layout_of f) 3).first) * (layout_of f).radix + a) * (layout_of f).radix + b) * (layout_of f).radix + c
        → lowest_of (layout_of f) 3 ≤ v → no_character v ≡ none → CharacterAt (byte_form f) s at v (span at 4)
    four_bytes {a} {b} {c} h y z w i q l free =
        let o = or_left (bit_or a b) c in
        let d = digit 1 y (omega (arith, or_left a b)) in
        let e = digit 2 z (omega (arith, or_right a b)) in
        let g = digit 3 w (omega (arith, or_right (bit_or a b) c)) in
        read_bytes (x 1 ∷ x 2 ∷ x 3 ∷ []) (drop (at + 4) (plain_text f s)) h few
        (behind-three (plain_text f s) at (inside h) ∙ rw (plain_at f s (at + 1), plain_at f s (at + 2), plain_at f s (at + 3))) (d.0, (e.0, (g.0, tt))) (rw (d.1, e.1, g.1) q) l free

    pub one_byte :
        {v : ℕ} → LeadOf f s at 0 → v ≡ plain_of f (get_or s at 0) - (row_at (layout_of f) 0).first → no_character v ≡ none → CharacterAt (byte_form f) s at v (span at 1)
    one_byte h q free = read_bytes [] (drop (at + 1) (plain_text f s)) h (omega arith) refl tt q (omega arith) free

-- both layouts have four rows and more, with these leads
pub four_rows : (f : ByteForm) → 3 < length (layout_of f).rows
four_rows FssUtf = omega arith
four_rows UtfEbcdic = omega arith

pub first_leads : (f : ByteForm) → ((row_at (layout_of f) 0).first ≡ 0) × ((row_at (layout_of f) 1).first ≡ 0xC0) × ((row_at (layout_of f) 2).first ≡ 0xE0) × ((row_at (layout_of f) 3).first ≡ 0xF0)
first_leads FssUtf = (refl, refl, refl, refl)
first_leads UtfEbcdic = (refl, refl, refl, refl)

pub last_leads : (f : ByteForm) → ((row_at (layout_of f) 0).last + 1 ≡ (layout_of f).low) × ((row_at (layout_of f) 1).last ≡ 0xDF)
last_leads FssUtf = (refl, refl)
last_leads UtfEbcdic = (refl, refl)

radix_most : (f : ByteForm) → (layout_of f).radix ≤ 64
radix_most FssUtf = omega arith
radix_most UtfEbcdic = omega arith

-- two bytes hold no surrogate
pub two_small : (f : ByteForm) (l R a : ℕ) → l ≤ 31 → R ≡ (layout_of f).radix → a < R → l * R + a < 0xD800
two_small f l R a h e i =
    let r : R ≤ 64 = omega (arith, e, radix_most f) in
    let m : l * R ≤ l * 64 = mul-le-mul_left l r in
    omega arith
