-- Code units of UTF-16: surrogates, and how many units of a target a unit counts for.
use Rattle.std.specs.Int.{from_bool}
use Rattle.std.specs.Prelude.{ℕ, ◌+◌, ◌-◌, ◌≤◌, ◌<◌, ◌≡◌, Bool, true, false, not, ◌&&◌, List, leb, ltb, get_or, length}
use Rattle.forms.specs.Forms.{is_surrogate}
use Rattle.encoder.specs.declared.Target.{Target}
use Rattle.encoder.specs.declared.Target.TheVariants.{FssUtf, UtfEbcdic, Utf16, Ucs4}

abbrev pub is_high : ℕ → Bool
is_high u = leb 0xD800 u && ltb u 0xDC00

abbrev pub is_low : ℕ → Bool
is_low u = leb 0xDC00 u && ltb u 0xE000

-- what a test counts for
abbrev pub number : Bool → ℕ
number t = from_bool t

-- among k units from `at` on a low one stands behind each high one and behind no other
pub record Paired (s : List ℕ) (at k : ℕ) : Type 0 where
  pub each : (j : ℕ) → j + 1 < k → is_high (get_or s (at + j) 0) ≡ is_low (get_or s (at + j + 1) 0)

-- the bytes of FSS-UTF: two for each unit of a pair
abbrev pub bytes_of : ℕ → ℕ
bytes_of u = 1 + number (leb 0x80 u) + number (leb 0x800 u) - number (is_surrogate u)

abbrev pub bytes_at : List ℕ → ℕ → ℕ
bytes_at s i = bytes_of (get_or s i 0)

-- the bytes of UTF-EBCDIC: two for each unit of a pair, and a fifth where the value is 40000 or more
abbrev pub ebcdic_of : ℕ → ℕ
ebcdic_of u =
    1 + number (leb 0xA0 u) + number (leb 0x400 u && not (is_surrogate u)) + number (leb 0x4000 u && not (is_surrogate u)) + number (leb 0xD8C0 u && ltb u 0xDC00)

abbrev pub ebcdic_at : List ℕ → ℕ → ℕ
ebcdic_at s i = ebcdic_of (get_or s i 0)

-- the values: none for a low unit
abbrev pub values_of : ℕ → ℕ
values_of u = number (not (is_low u))

abbrev pub values_at : List ℕ → ℕ → ℕ
values_at s i = values_of (get_or s i 0)

-- units that begin and end with whole characters
pub record Whole (s : List ℕ) (at k : ℕ) : Type 0 where
  pub inside : at + k ≤ length s
  pub paired : Paired s at k
  pub first : 0 < k → is_low (get_or s at 0) ≡ false
  pub last : (j : ℕ) → j + 1 ≡ k → is_high (get_or s (at + j) 0) ≡ false

-- the last character of k units begins at the unit r: a low unit at the end belongs to it
pub record LastCharacter (s : List ℕ) (at k r : ℕ) : Type 0 where
  pub inside : r < k
  pub near : k ≤ r + 2
  pub alone : r + 1 ≡ k → is_low (get_or s (at + r) 0) ≡ false
  pub paired : r + 2 ≡ k → is_low (get_or s (at + (r + 1)) 0) ≡ true

-- units below it are one unit of the target each
abbrev pub plain_of : Target → ℕ
plain_of FssUtf = 0x80
plain_of UtfEbcdic = 0xA0
plain_of Utf16 = 0
plain_of Ucs4 = 0xD800
