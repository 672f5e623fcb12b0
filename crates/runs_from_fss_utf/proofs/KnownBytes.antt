-- The bytes of a character that is known to stand at an offset.
use Prim.Native.Nat.{ℕ, ◌+◌, ◌*◌, ◌-◌, ◌%◌, ◌≤◌, ◌<◌}
use mathlib.Core.Path.{◌≡◌, refl, sym, ap, ◌∙◌}
use mathlib.Core.List.{List, [], ◌∷◌}
use native.Mathlib.Omega.{arith}
use native.Mathlib.Decide.{dec_lt}
use lib.ListN.{length, get_or, take, drop}
use Rattle.types.specs.declared.Fault.TheVariants.{StrayTrailing}
use Rattle.types.specs.declared.Item.TheVariants.{Character, Mark}
use Rattle.forms.specs.Form.{span}
use Rattle.forms.specs.Layout.{row_at}
use Rattle.forms.specs.Forms.{byte_layout, fss_utf}
use Rattle.laws.proofs.LayoutLaws.{digit_trailing}
use Rattle.laws.proofs.FourForms.{fss_utf_fits, fss_utf-invalid}
use Rattle.laws.proofs.Reading.{reads_trailing, reads_invalid}
use Rattle.laws.proofs.Progress.{CharacterAt}
use Rattle.laws.proofs.ReadUnits.{Known, known, behind-one, behind-two, behind-three}
use Rattle.laws.proofs.Runs.{Stands}

-- a character of so many bytes, of this value, and its last byte inside
pub record Bytes (s : List ℕ) (p k v : ℕ) : Type 0 where
  pub inside : p + k < length s
  pub here : CharacterAt fss_utf s p v (span p (k + 1))

module _ (s : List ℕ) (p : ℕ) (c : Stands fss_utf s p) where
  abbrev u : ℕ
  u = get_or s p 0

  -- it does not begin with a trailing byte
  pub begins : 0x80 ≤ get_or s p 0 → 0xC0 ≤ get_or s p 0
  begins h = go (dec_lt u 0xC0)
    where
      go : Dec (u < 0xC0) → 0xC0 ≤ u
      go (yes d) =
          let m = reads_trailing fss_utf p u (drop (p + 1) s) (digit_trailing (byte_layout 6 6) fss_utf_fits u (h, d)) in
          absurd (let e : Mark StrayTrailing (span p 1) ≡ Character c.value c.place = m ∙ sym c.here.is in let z : ◌≡◌ {A = ℕ} 0 1 = cc in omega arith)
      go (no d) = omega arith

  -- nor with FE or FF
  pub ends : get_or s p 0 < 0xFE
  ends = go (dec_lt u 0xFE)
    where
      go : Dec (u < 0xFE) → u < 0xFE
      go (yes d) = d
      go (no d) =
          let m = reads_invalid fss_utf p u (drop (p + 1) s) (fss_utf-invalid u (omega arith)) in
          absurd (let z : ◌≡◌ {A = ℕ} 0 1 = cc (m ∙ sym c.here.is) in omega arith)

  of : (k : ℕ) → k < 6 → (row_at (byte_layout 6 6) k).first ≤ u → u ≤ (row_at (byte_layout 6 6) k).last → Known (byte_layout 6 6) refl s p k
  of k h from to = known (byte_layout 6 6) refl s p c.here k h from to

  pub bytes_one : get_or s p 0 < 0x80 → Bytes s p 0 (get_or s p 0)
  bytes_one h =
      let k = of 0 (omega arith) (omega arith) (omega arith) in
      let e : k.value ≡ u = omega (arith, k.is) in
      record { inside = k.inside; here = rw e at k.here }

  pub bytes_two : 0x80 ≤ get_or s p 0 → get_or s p 0 < 0xE0 → Bytes s p 1 ((get_or s p 0 - 0xC0) * 64 + get_or s (p + 1) 0 % 64)
  bytes_two h l =
      let k = of 1 (omega arith) (begins h) (omega arith) in
      let t : take 1 (drop (p + 1) s) ≡ get_or s (p + 1) 0 ∷ [] = ap (take 1) (behind-one s p k.inside) in
      let d = rw t at k.digits in
      let i = rw t at k.is in
      let e : k.value ≡ (u - 0xC0) * 64 + get_or s (p + 1) 0 % 64 = omega (arith, i, d.0) in
      record { inside = k.inside; here = rw e at k.here }

  -- its second byte is a trailing byte
  pub trails : 0x80 ≤ get_or s p 0 → get_or s p 0 < 0xE0 → (0x80 ≤ get_or s (p + 1) 0) × (get_or s (p + 1) 0 < 0xC0)
  trails h l =
      let k = of 1 (omega arith) (begins h) (omega arith) in
      let d = rw (ap (take 1) (behind-one s p k.inside)) at k.digits in
      (omega (arith, d.0), omega (arith, d.0))

  pub bytes_three : 0xE0 ≤ get_or s p 0 → get_or s p 0 < 0xF0 → Bytes s p 2 (((get_or s p 0 - 0xE0) * 64 + get_or s (p + 1) 0 % 64) * 64 + get_or s (p + 2) 0 % 64)
  bytes_three h l =
      let k = of 2 (omega arith) h (omega arith) in
      let t : take 2 (drop (p + 1) s) ≡ get_or s (p + 1) 0 ∷ get_or s (p + 2) 0 ∷ [] = ap (take 2) (behind-two s p k.inside) in
      let d = rw t at k.digits in
      let i = rw t at k.is in
      let e : k.value ≡ ((u - 0xE0) * 64 + get_or s (p + 1) 0 % 64) * 64 + get_or s (p + 2) 0 % 64 = omega (arith, i, d.0, d.1.0) in
      record { inside = k.inside; here = rw e at k.here }

  pub bytes_four :
      0xF0 ≤ get_or s p 0 → get_or s p 0 < 0xF8
      → Bytes s p 3 ((((get_or s p 0 - 0xF0) * 64 + get_or s (p + 1) 0 % 64) * 64 + get_or s (p + 2) 0 % 64) * 64 + get_or s (p + 3) 0 % 64)
  bytes_four h l =
      let k = of 3 (omega arith) h (omega arith) in
      let t : take 3 (drop (p + 1) s) ≡ get_or s (p + 1) 0 ∷ get_or s (p + 2) 0 ∷ get_or s (p + 3) 0 ∷ [] = ap (take 3) (behind-three s p k.inside) in
      let d = rw t at k.digits in
      let i = rw t at k.is in
      let e : k.value ≡ (((u - 0xF0) * 64 + get_or s (p + 1) 0 % 64) * 64 + get_or s (p + 2) 0 % 64) * 64 + get_or s (p + 3) 0 % 64 = omega (arith, i, d.0, d.1.0, d.1.1.0) in
      record { inside = k.inside; here = rw e at k.here }

  -- the bytes behind a lead are there
  pub inside-two : 0x80 ≤ get_or s p 0 → p + 1 < length s
  inside-two h = go (dec_lt u 0xE0) (dec_lt u 0xF0) (dec_lt u 0xF8) (dec_lt u 0xFC)
    where
      go : Dec (u < 0xE0) → Dec (u < 0xF0) → Dec (u < 0xF8) → Dec (u < 0xFC) → p + 1 < length s
      go (yes i) j k l = (of 1 (omega arith) (begins h) (omega arith)).inside
      go (no i) (yes j) k l = omega (arith, (of 2 (omega arith) (omega arith) (omega arith)).inside)
      go (no i) (no j) (yes k) l = omega (arith, (of 3 (omega arith) (omega arith) (omega arith)).inside)
      go (no i) (no j) (no k) (yes l) = omega (arith, (of 4 (omega arith) (omega arith) (omega arith)).inside)
      go (no i) (no j) (no k) (no l) = omega (arith, (of 5 (omega arith) (omega arith) (omega (arith, ends))).inside)

  pub inside-three : 0xE0 ≤ get_or s p 0 → p + 2 < length s
  inside-three h = go (dec_lt u 0xF0) (dec_lt u 0xF8) (dec_lt u 0xFC)
    where
      go : Dec (u < 0xF0) → Dec (u < 0xF8) → Dec (u < 0xFC) → p + 2 < length s
      go (yes j) k l = (of 2 (omega arith) h (omega arith)).inside
      go (no j) (yes k) l = omega (arith, (of 3 (omega arith) (omega arith) (omega arith)).inside)
      go (no j) (no k) (yes l) = omega (arith, (of 4 (omega arith) (omega arith) (omega arith)).inside)
      go (no j) (no k) (no l) = omega (arith, (of 5 (omega arith) (omega arith) (omega (arith, ends))).inside)
