-- The encodings of UTF-16 and UCS-4, and one to four units put into a buffer.
use Prim.Native.Nat.{ℕ, suc, ◌+◌, ◌-◌, ◌/◌, ◌%◌, ◌≤◌, ◌<◌}
use mathlib.Core.Path.{◌≡◌, ap, ◌∙◌}
use mathlib.Core.Logic.{◌≢◌}
use mathlib.Core.List.{List, [], ◌∷◌, append_assoc}
use mathlib.Core.Option.{none}
use native.Mathlib.Omega.{arith}
use native.Mathlib.Nat.{zero-add, sub-zero, div-one}
use native.Mathlib.Numerals.{add-one}
use native.Mathlib.Decide.{dec_lt}
use lib.ListN.{length, take, drop, set}
use lib.Seq.{sets, sets-eq}
use borrow.Author.Tests.{le-ltb, lt-ltb}
use Rattle.forms.specs.Form.{Form, encode}
use Rattle.forms.specs.Layout.{form_of}
use Rattle.forms.specs.Forms.{no_character, utf16_layout, utf16, ucs4}
use Rattle.forms.specs.Buffer.{with_units}
use Rattle.laws.proofs.FormLaws.{Laws}
use Rattle.laws.proofs.Rows.{within_below, within_above}
use Rattle.laws.proofs.FourForms.{ucs4_laws}
use Rattle.laws.proofs.Carried.{free_below, free_outside, outside, not-excluded, encodable_small, encodable_free}

ucs4_free : (v : ℕ) → v < 0x80000000 → no_character v ≡ none → encode ucs4 v ≡ v ∷ []
ucs4_free v h free = rw (free, lt-ltb v 0x80000000 h) (ap {B = List ℕ} (λ (x : ℕ). x ∷ []) (zero-add ((v - 0) / 1) ∙ rw (sub-zero v, div-one v)))

pub ucs4-encoding : (v : ℕ) → encode ucs4 v ≢ [] → encode ucs4 v ≡ v ∷ []
ucs4-encoding v n = ucs4_free v (encodable_small ucs4 ucs4_laws v n) (not-excluded ucs4 v n)

pub ucs4_outside : (v : ℕ) → (0xD800 ≤ v → 0xE000 ≤ v) → v < 0x80000000 → encode ucs4 v ≡ v ∷ []
ucs4_outside v o h = ucs4_free v h (free_outside v o)

pub ucs4_below : (v : ℕ) → v < 0xD800 → encode ucs4 v ≡ v ∷ []
ucs4_below v h = ucs4_free v (omega arith) (free_below v h)

module _ (v : ℕ) where
  unit-shortest : v < 0x10000 → (form_of utf16_layout).shortest v ≡ v ∷ []
  unit-shortest h = rw (lt-ltb v 0x10000 h) (ap {B = List ℕ} (λ (x : ℕ). x ∷ []) (zero-add ((v - 0) / 1) ∙ rw (sub-zero v, div-one v)))

  pub below_surrogates : v < 0xD800 → encode utf16 v ≡ v ∷ []
  below_surrogates h = rw (within_below 0xD800 0xDFFF v h, le-ltb 0x10FFFF v (omega arith)) (unit-shortest (omega arith))

  pub above_surrogates : 0xE000 ≤ v → v < 0x10000 → encode utf16 v ≡ v ∷ []
  above_surrogates h k = rw (within_above 0xD800 0xDFFF v (omega arith), le-ltb 0x10FFFF v (omega arith)) (unit-shortest k)

  pub pair : 0x10000 ≤ v → v < 0x110000 → encode utf16 v ≡ (0xD800 + (v - 0x10000) / 0x400) ∷ (0xDC00 + (v - 0x10000) % 0x400) ∷ []
  pair h k =
      rw (within_above 0xD800 0xDFFF v (omega arith), le-ltb 0x10FFFF v (omega arith), le-ltb v 0x10000 h, lt-ltb v 0x110000 k, div-one ((v - 0x10000) % 0x400))

  pub above_all : 0x110000 ≤ v → encode utf16 v ≡ []
  above_all h = rw (within_above 0xD800 0xDFFF v (omega arith), lt-ltb 0x10FFFF v (omega arith))

  -- a character that any form carries
  pub unit : (F : Form) → Laws F → encode F v ≢ [] → v < 0x10000 → encode utf16 v ≡ v ∷ []
  unit F laws n h = go (dec_lt v 0xD800)
    where
      go : Dec (v < 0xD800) → encode utf16 v ≡ v ∷ []
      go (yes a) = below_surrogates a
      go (no a) = above_surrogates (outside v (encodable_free F laws v n) (omega arith)) h

  pub below_limit : encode utf16 v ≢ [] → v < 0x110000
  below_limit n = go (dec_lt v 0x110000)
    where
      go : Dec (v < 0x110000) → v < 0x110000
      go (yes a) = a
      go (no a) = absurd (n (above_all (omega arith)))

put-units : (d : List ℕ) (at : ℕ) (e : List ℕ) → at + length e ≤ length d → sets d at e ≡ with_units d at e
put-units d at e h = sets-eq e d at h ∙ append_assoc (take at d) e (drop (at + length e) d)

pub put_one : (d : List ℕ) (at x : ℕ) (e : List ℕ) → e ≡ x ∷ [] → at + length e ≤ length d → set d at x ≡ with_units d at e
put_one d at x e q h = rw q (put-units d at (x ∷ []) (rw q at h))

pub put_two : (d : List ℕ) (at x y : ℕ) (e : List ℕ) → e ≡ x ∷ y ∷ [] → at + length e ≤ length d → set (set d at x) (at + 1) y ≡ with_units d at e
put_two d at x y e q h = rw (q, add-one at) (put-units d at (x ∷ y ∷ []) (rw q at h))

pub put_three :
    (d : List ℕ) (at x y z : ℕ) (e : List ℕ) → e ≡ x ∷ y ∷ z ∷ [] → at + length e ≤ length d
    → set (set (set d at x) (at + 1) y) (at + 2) z ≡ with_units d at e
put_three d at x y z e q h =
    let b : at + 2 ≡ suc (suc at) = omega arith in
    rw (q, b, add-one at) (put-units d at (x ∷ y ∷ z ∷ []) (rw q at h))

pub put_four :
    (d : List ℕ) (at x y z w : ℕ) (e : List ℕ) → e ≡ x ∷ y ∷ z ∷ w ∷ [] → at + length e ≤ length d
    → set (set (set (set d at x) (at + 1) y) (at + 2) z) (at + 3) w ≡ with_units d at e
put_four d at x y z w e q h =
    let b : at + 2 ≡ suc (suc at) = omega arith in
    let c : at + 3 ≡ suc (suc (suc at)) = omega arith in
    rw (q, c, b, add-one at) (put-units d at (x ∷ y ∷ z ∷ w ∷ []) (rw q at h))
