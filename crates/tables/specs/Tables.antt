-- A table of 256 bytes, by its rule, and the shadow flags without one.
use Rattle.std.specs.Prelude.{ℕ, ◌<◌, ◌≡◌, List, get_or}
use Rattle.forms.specs.Exchange.{i8_of}
use Rattle.forms.specs.Flags.{flag_of}

pub record Tabulates (f : ℕ → ℕ) (t : List ℕ) : Type 0 where
  pub each : (k : ℕ) → k < 0x100 → get_or t k 0 ≡ f k

-- each of the 256 UTF-EBCDIC bytes that has this I8 byte has this shadow flag
pub record Flagged (plain flag : ℕ) : Type 0 where
  pub each : (byte : ℕ) → byte < 0x100 → i8_of byte ≡ plain → flag ≡ flag_of byte
