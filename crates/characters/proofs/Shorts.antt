-- Characters of one byte of FSS-UTF, and of one and two units of UTF-16.
use Rattle.std.proofs.Common.{◌≡◌, ℕ, ◌+◌, ◌-◌, ◌*◌, ◌<◌, ◌≤◌, List, [], length, get_or, drop, refl, arith}
use lib.Bits.{bit_or, or_add_and, and_le_l, and_le_r}
use Rattle.forms.specs.Form.{span}
use Rattle.forms.specs.Forms.{byte_layout, fss_utf, utf16}
use Rattle.laws.proofs.Progress.{CharacterAt}
use Rattle.laws.proofs.ReadUnits.{read-units}
use Rattle.items.proofs.WholeUnits.{utf16_below, utf16_above, utf16_pair}
use Rattle.tables.specs.declared.ByteForm.TheVariants.{FssUtf}
use Rattle.laws.proofs.Carried.{free_below}
use Rattle.tables.proofs.ByteLayouts.{passes}

pub or_left : (a b : ℕ) → a ≤ bit_or a b
or_left a b = omega (arith, or_add_and a b, and_le_r a b)

pub or_right : (a b : ℕ) → b ≤ bit_or a b
or_right a b = omega (arith, or_add_and a b, and_le_l a b)

module _ {s : List ℕ} {at : ℕ} where
  pub one_byte : {v : ℕ} → at < length s → get_or s at 0 < 0x80 → v ≡ get_or s at 0 → CharacterAt fss_utf s at v (span at 1)
  one_byte {v} h l e =
      read-units (byte_layout 6 6) (passes FssUtf) s at [] (drop (at + 1) s) v h refl tt (omega arith) (omega arith) (omega arith)
      (omega arith) (omega arith) (free_below v (omega arith))

  pub unit_below : {v : ℕ} → at < length s → v ≡ get_or s at 0 → v < 0xD800 → CharacterAt utf16 s at v (span at 1)
  unit_below {v} h e l = record { inside = h; is = rw e (utf16_below s at (omega arith)) }

  pub unit_above : {v : ℕ} → at < length s → v ≡ get_or s at 0 → 0xE000 ≤ v → v < 0x10000 → CharacterAt utf16 s at v (span at 1)
  unit_above {v} h e l m = record { inside = h; is = rw e (utf16_above s at (omega arith) (omega arith)) }

  pub pair :
      {x y : ℕ} → at + 1 < length s → x ≡ get_or s at 0 → y ≡ get_or s (at + 1) 0 → 0xD800 ≤ x → x < 0xDC00 → 0xDC00 ≤ y → y < 0xE000
      → CharacterAt utf16 s at (0x10000 + (x - 0xD800) * 0x400 + (y - 0xDC00)) (span at 2)
  pair {x} {y} h e f k l m n =
      record { inside = omega arith; is = utf16_pair s at (omega arith) (omega arith) h x y e f m n }
