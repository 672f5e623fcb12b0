-- The starred points of document 01, "Points for acceptance trial", as request 104 changes them: one table under one statement, of the rules
-- themselves.
use Prim.Native.Nat.{ℕ}
use mathlib.Core.Path.{◌≡◌, refl}
use mathlib.Core.List.{List, [], ◌∷◌, map}
use Rattle.types.specs.declared.Fault.TheVariants.{MissingTrailing, StrayTrailing, InvalidUnit, Overlong, Surrogate}
use Rattle.types.specs.declared.Item.{Item}
use Rattle.types.specs.declared.Item.TheVariants.{Character, Mark}
use Rattle.forms.specs.Fault.{refusal}
use Rattle.forms.specs.Form.{Form, span, items}
use Rattle.forms.specs.Forms.{fss_utf, utf_ebcdic, utf16}
use Rattle.forms.specs.Conversion.{Outcome, refused, strict}

-- a text and what is due: its items, or what comes of converting it into a buffer of so many cells
pub data Point : Type 0 where
  reads : Form → List ℕ → List Item → Point
  converts : Form → Form → List ℕ → ℕ → Outcome → Point

pub data Result : Type 0 where
  read : List Item → Result
  converted-to : Outcome → Result

abbrev pub actual : Point → Result
actual (reads F s is) = read (items F s)
actual (converts F G s n o) = converted-to (strict F G s n)

abbrev pub expected : Point → Result
expected (reads F s is) = read is
expected (converts F G s n o) = converted-to o

abbrev pub starred : List Point
starred =
    reads fss_utf (0xC2 ∷ 0xA9 ∷ []) (Character 0xA9 (span 0 2) ∷ []) ∷
    reads fss_utf (0xE2 ∷ 0x89 ∷ 0xA0 ∷ []) (Character 0x2260 (span 0 3) ∷ []) ∷
    reads fss_utf (0xFD ∷ 0xBF ∷ 0xBF ∷ 0xBF ∷ 0xBF ∷ 0xBF ∷ []) (Character 0x7FFFFFFF (span 0 6) ∷ []) ∷
    reads fss_utf (0xC0 ∷ 0x80 ∷ []) (Mark Overlong (span 0 2) ∷ []) ∷
    reads fss_utf (0xFE ∷ []) (Mark InvalidUnit (span 0 1) ∷ []) ∷
    reads fss_utf (0xE2 ∷ 0x89 ∷ 0x41 ∷ []) (Mark MissingTrailing (span 0 2) ∷ Character 0x41 (span 2 1) ∷ []) ∷
    reads fss_utf (0xED ∷ 0xA0 ∷ 0x80 ∷ []) (Mark Surrogate (span 0 3) ∷ []) ∷
    converts fss_utf utf16 (0xED ∷ 0xA0 ∷ 0x80 ∷ []) 2 (refused (refusal Surrogate 0)) ∷
    reads utf_ebcdic (0x47 ∷ 0x80 ∷ []) (Character 0xA0 (span 0 2) ∷ []) ∷
    reads utf_ebcdic (0x9A ∷ 0x80 ∷ 0x80 ∷ []) (Character 0x400 (span 0 3) ∷ []) ∷
    reads utf_ebcdic (0xB2 ∷ 0xBF ∷ 0x80 ∷ 0x80 ∷ []) (Character 0x4000 (span 0 4) ∷ []) ∷
    reads utf_ebcdic (0xC1 ∷ []) (Character 0x41 (span 0 1) ∷ []) ∷
    reads utf_ebcdic (0xE1 ∷ 0xFE ∷ 0xFE ∷ 0xFE ∷ 0xFE ∷ 0xFE ∷ 0xFE ∷ []) (Character 0x7FFFFFFF (span 0 7) ∷ []) ∷
    reads utf16 (0xD800 ∷ 0xDC00 ∷ []) (Character 0x10000 (span 0 2) ∷ []) ∷
    reads utf16 (0xDC00 ∷ []) (Mark StrayTrailing (span 0 1) ∷ []) ∷
    []

pub starred_points : map actual starred ≡ map expected starred
starred_points = refl
