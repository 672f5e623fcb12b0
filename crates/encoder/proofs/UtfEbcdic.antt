-- The encodings of UTF-EBCDIC of one to four bytes, written out.
use Prim.Native.Nat.{ℕ, ◌+◌, ◌/◌, ◌%◌, ◌≤◌, ◌<◌}
use mathlib.Core.Path.{◌≡◌, ap, ◌∙◌}
use mathlib.Core.Logic.{◌≢◌}
use mathlib.Core.List.{List, [], ◌∷◌, map}
use native.Mathlib.Omega.{arith}
use borrow.Author.Tests.{le-ltb, lt-ltb}
use Rattle.forms.specs.Form.{encode}
use Rattle.forms.specs.Layout.{form_of}
use Rattle.forms.specs.Exchange.{ebcdic_of}
use Rattle.forms.specs.Forms.{byte_layout, utf_ebcdic}
use Rattle.tables.specs.declared.ByteForm.TheVariants.{UtfEbcdic}
use Rattle.tables.proofs.ByteLayouts.{carries_below, encode_plain}

-- lists are the same by their elements
pub same-one : {a x : ℕ} → a ≡ x → ◌≡◌ {A = List ℕ} (a ∷ []) (x ∷ [])
same-one p = cc

pub same-two : {a b x y : ℕ} → a ≡ x → b ≡ y → ◌≡◌ {A = List ℕ} (a ∷ b ∷ []) (x ∷ y ∷ [])
same-two p q = cc

pub same-three : {a b c x y z : ℕ} → a ≡ x → b ≡ y → c ≡ z → ◌≡◌ {A = List ℕ} (a ∷ b ∷ c ∷ []) (x ∷ y ∷ z ∷ [])
same-three p q r = cc

pub same-four : {a b c d x y z w : ℕ} → a ≡ x → b ≡ y → c ≡ z → d ≡ w → ◌≡◌ {A = List ℕ} (a ∷ b ∷ c ∷ d ∷ []) (x ∷ y ∷ z ∷ w ∷ [])
same-four p q r s = cc

module _ (v : ℕ) where
  -- in I8
  one-i8 : v < 0xA0 → (form_of (byte_layout 5 7)).shortest v ≡ v ∷ []
  one-i8 h = rw (lt-ltb v 0xA0 h) (same-one (omega arith))

  two-i8 : 0xA0 ≤ v → v < 0x400 → (form_of (byte_layout 5 7)).shortest v ≡ (0xC0 + v / 32) ∷ (0xA0 + v % 32) ∷ []
  two-i8 h k = rw (le-ltb v 0xA0 h, lt-ltb v 0x400 k) (same-two (omega arith) (omega arith))

  three-i8 : 0x400 ≤ v → v < 0x4000 → (form_of (byte_layout 5 7)).shortest v ≡ (0xE0 + v / 1024) ∷ (0xA0 + v / 32 % 32) ∷ (0xA0 + v % 32) ∷ []
  three-i8 h k = rw (le-ltb v 0xA0 (omega arith), le-ltb v 0x400 h, lt-ltb v 0x4000 k) (same-three (omega arith) (omega arith) (omega arith))

  four-i8 : 0x4000 ≤ v → v < 0x40000 → (form_of (byte_layout 5 7)).shortest v ≡ (0xF0 + v / 32768) ∷ (0xA0 + v / 1024 % 32) ∷ (0xA0 + v / 32 % 32) ∷ (0xA0 + v % 32) ∷ []
  four-i8 h k =
      rw (le-ltb v 0xA0 (omega arith), le-ltb v 0x400 (omega arith), le-ltb v 0x4000 h, lt-ltb v 0x40000 k)
      (same-four (omega arith) (omega arith) (omega arith) (omega arith))

  pub one_byte : v < 0xA0 → encode utf_ebcdic v ≡ ebcdic_of v ∷ []
  one_byte h = encode_plain UtfEbcdic v (carries_below UtfEbcdic v (omega arith)) ∙ ap (map ebcdic_of) (one-i8 h)

  pub two_bytes : 0xA0 ≤ v → v < 0x400 → encode utf_ebcdic v ≡ ebcdic_of (0xC0 + v / 32) ∷ ebcdic_of (0xA0 + v % 32) ∷ []
  two_bytes h k = encode_plain UtfEbcdic v (carries_below UtfEbcdic v (omega arith)) ∙ ap (map ebcdic_of) (two-i8 h k)

  pub three_bytes :
      0x400 ≤ v → v < 0x4000
      → encode utf_ebcdic v ≡ ebcdic_of (0xE0 + v / 1024) ∷ ebcdic_of (0xA0 + v / 32 % 32) ∷ ebcdic_of (0xA0 + v % 32) ∷ []
  three_bytes h k = encode_plain UtfEbcdic v (carries_below UtfEbcdic v (omega arith)) ∙ ap (map ebcdic_of) (three-i8 h k)

  pub four_bytes :
      encode utf_ebcdic v ≢ [] → 0x4000 ≤ v → v < 0x40000
      → encode utf_ebcdic v ≡ ebcdic_of (0xF0 + v / 32768) ∷ ebcdic_of (0xA0 + v / 1024 % 32) ∷ ebcdic_of (0xA0 + v / 32 % 32) ∷ ebcdic_of (0xA0 + v % 32) ∷ []
  four_bytes n h k = encode_plain UtfEbcdic v n ∙ ap (map ebcdic_of) (four-i8 h k)
