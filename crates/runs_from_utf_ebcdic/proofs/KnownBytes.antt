-- The bytes of a character that is known to stand at an offset: their I8 bytes, and that they are there.
use Prim.Native.Nat.{ℕ, ◌+◌, ◌*◌, ◌-◌, ◌%◌, ◌≤◌, ◌<◌}
use mathlib.Core.Path.{◌≡◌, sym, ap, ◌∙◌}
use mathlib.Core.List.{List, [], ◌∷◌}
use native.Mathlib.Omega.{arith}
use native.Mathlib.Decide.{dec_lt}
use lib.ListN.{length, get_or, take, drop}
use Rattle.types.specs.declared.Fault.TheVariants.{StrayTrailing}
use Rattle.types.specs.declared.Item.TheVariants.{Character, Mark}
use Rattle.forms.specs.Form.{span}
use Rattle.forms.specs.Layout.{row_at}
use Rattle.forms.specs.Exchange.{i8_of}
use Rattle.forms.specs.Forms.{byte_layout, utf_ebcdic}
use Rattle.laws.proofs.LayoutLaws.{digit_trailing}
use Rattle.laws.proofs.Reading.{reads_trailing}
use Rattle.laws.proofs.Progress.{CharacterAt}
use Rattle.laws.proofs.ReadUnits.{Known, known, behind-one, behind-two, behind-three}
use Rattle.laws.proofs.Runs.{Stands}
use Rattle.tables.specs.declared.ByteForm.TheVariants.{UtfEbcdic}
use Rattle.tables.proofs.ByteLayouts.{passes, fits}
use Rattle.items.proofs.Plain.{plain_text, plain_length, plain_at}
use Rattle.characters.proofs.ByteCharacters.{to_plain, from_plain}

-- a character of so many bytes, of this value, and its last byte inside
pub record Bytes (s : List ℕ) (p k v : ℕ) : Type 0 where
  pub inside : p + k < length s
  pub here : CharacterAt utf_ebcdic s p v (span p (k + 1))

module _ (s : List ℕ) (p : ℕ) (c : Stands utf_ebcdic s p) where
  -- the I8 byte so far behind the offset
  abbrev x : ℕ → ℕ
  x i = i8_of (get_or s (p + i) 0)

  abbrev u : ℕ
  u = i8_of (get_or s p 0)

  abbrev t : List ℕ
  t = plain_text UtfEbcdic s

  -- it does not begin with a trailing byte
  pub begins : 0xA0 ≤ i8_of (get_or s p 0) → 0xC0 ≤ i8_of (get_or s p 0)
  begins h = go (dec_lt u 0xC0)
    where
      go : Dec (u < 0xC0) → 0xC0 ≤ u
      go (yes d) =
          let m = reads_trailing utf_ebcdic p (get_or s p 0) (drop (p + 1) s) (digit_trailing (byte_layout 5 7) (fits UtfEbcdic) u (h, d)) in
          absurd (let e : Mark StrayTrailing (span p 1) ≡ Character c.value c.place = m ∙ sym c.here.is in let z : ◌≡◌ {A = ℕ} 0 1 = cc in omega arith)
      go (no d) = omega arith

  of : (k : ℕ) → k < 7 → (row_at (byte_layout 5 7) k).first ≤ u → u ≤ (row_at (byte_layout 5 7) k).last → Known (byte_layout 5 7) (passes UtfEbcdic) t p k
  of k h from to =
      let e = plain_at UtfEbcdic s p in
      known (byte_layout 5 7) (passes UtfEbcdic) t p (to_plain UtfEbcdic s p c.here) k h (rw e from) (rw e to)

  -- what is known of the layout's text, of this one
  bytes : (k v : ℕ) (w : Known (byte_layout 5 7) (passes UtfEbcdic) t p k) → w.value ≡ v → Bytes s p k v
  bytes k v w e = record { inside = rw (plain_length UtfEbcdic s) at w.inside; here = from_plain UtfEbcdic s p (rw e at w.here) }

  pub bytes_one : i8_of (get_or s p 0) < 0xA0 → Bytes s p 0 (i8_of (get_or s p 0))
  bytes_one h =
      let w = of 0 (omega arith) (omega arith) (omega arith) in
      bytes 0 u w (omega (arith, w.is, plain_at UtfEbcdic s p))

  pub bytes_two :
      0xA0 ≤ i8_of (get_or s p 0) → i8_of (get_or s p 0) < 0xE0
      → Bytes s p 1 ((i8_of (get_or s p 0) - 0xC0) * 32 + i8_of (get_or s (p + 1) 0) % 32)
  bytes_two h l =
      let w = of 1 (omega arith) (begins h) (omega arith) in
      let e : take 1 (drop (p + 1) t) ≡ x 1 ∷ [] = ap (take 1) (behind-one t p w.inside) ∙ rw (plain_at UtfEbcdic s (p + 1)) in
      let d = rw e at w.digits in
      let i = rw e at w.is in
      bytes 1 ((u - 0xC0) * 32 + x 1 % 32) w (omega (arith, i, d.0, plain_at UtfEbcdic s p))

  pub bytes_three :
      0xE0 ≤ i8_of (get_or s p 0) → i8_of (get_or s p 0) < 0xF0
      → Bytes s p 2 (((i8_of (get_or s p 0) - 0xE0) * 32 + i8_of (get_or s (p + 1) 0) % 32) * 32 + i8_of (get_or s (p + 2) 0) % 32)
  bytes_three h l =
      let w = of 2 (omega arith) h (omega arith) in
      let e : take 2 (drop (p + 1) t) ≡ x 1 ∷ x 2 ∷ [] = ap (take 2) (behind-two t p w.inside) ∙ rw (plain_at UtfEbcdic s (p + 1), plain_at UtfEbcdic s (p + 2)) in
      let d = rw e at w.digits in
      let i = rw e at w.is in
      bytes 2 (((u - 0xE0) * 32 + x 1 % 32) * 32 + x 2 % 32) w (omega (arith, i, d.0, d.1.0, plain_at UtfEbcdic s p))

  pub bytes_four :
      0xF0 ≤ i8_of (get_or s p 0) → i8_of (get_or s p 0) < 0xF8
      → Bytes s p 3 ((((i8_of (get_or s p 0) - 0xF0) * 32 + i8_of (get_or s (p + 1) 0) % 32) * 32 + i8_of (get_or s (p + 2) 0) % 32) * 32 + i8_of (get_or s (p + 3) 0) % 32)
  bytes_four h l =
      let w = of 3 (omega arith) h (omega arith) in
      let e : take 3 (drop (p + 1) t) ≡ x 1 ∷ x 2 ∷ x 3 ∷ [] =
      ap (take 3) (behind-three t p w.inside) ∙ rw (plain_at UtfEbcdic s (p + 1), plain_at UtfEbcdic s (p + 2), plain_at UtfEbcdic s (p + 3)) in
      let d = rw e at w.digits in
      let i = rw e at w.is in
      bytes 3 ((((u - 0xF0) * 32 + x 1 % 32) * 32 + x 2 % 32) * 32 + x 3 % 32) w (omega (arith, i, d.0, d.1.0, d.1.1.0, plain_at UtfEbcdic s p))

  behind : (k : ℕ) → k < 7 → (row_at (byte_layout 5 7) k).first ≤ u → u ≤ (row_at (byte_layout 5 7) k).last → p + k < length s
  behind k h from to = omega (arith, (of k h from to).inside, plain_length UtfEbcdic s)

  -- the bytes behind a lead are there
  pub inside-three : 0xE0 ≤ i8_of (get_or s p 0) → i8_of (get_or s p 0) < 0x100 → p + 2 < length s
  inside-three h b = go (dec_lt u 0xF0) (dec_lt u 0xF8) (dec_lt u 0xFC) (dec_lt u 0xFE)
    where
      go : Dec (u < 0xF0) → Dec (u < 0xF8) → Dec (u < 0xFC) → Dec (u < 0xFE) → p + 2 < length s
      go (yes i) j k l = behind 2 (omega arith) h (omega arith)
      go (no i) (yes j) k l = omega (arith, behind 3 (omega arith) (omega arith) (omega arith))
      go (no i) (no j) (yes k) l = omega (arith, behind 4 (omega arith) (omega arith) (omega arith))
      go (no i) (no j) (no k) (yes l) = omega (arith, behind 5 (omega arith) (omega arith) (omega arith))
      go (no i) (no j) (no k) (no l) = omega (arith, behind 6 (omega arith) (omega arith) (omega arith))

  pub inside-two : 0xA0 ≤ i8_of (get_or s p 0) → i8_of (get_or s p 0) < 0x100 → p + 1 < length s
  inside-two h b = go (dec_lt u 0xE0)
    where
      go : Dec (u < 0xE0) → p + 1 < length s
      go (yes i) = behind 1 (omega arith) (begins h) (omega arith)
      go (no i) = omega (arith, inside-three (omega arith) b)
