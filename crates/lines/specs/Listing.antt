-- What the listing program prints: document 01, the end of "Points for acceptance trial".
use Rattle.std.specs.Prelude.{ℕ, List, [], ◌∷◌, ◌++◌, length, take}
use Rattle.types.specs.declared.Item.{Item}
use Rattle.types.specs.declared.Span.{Span}
use Rattle.types.specs.declared.Item.TheVariants.{Character, Mark}
use Rattle.forms.specs.Fault.{number_of}
use Rattle.forms.specs.Form.{span_of, items}
use Rattle.forms.specs.Forms.{fss_utf}
use Rattle.forms.specs.Lossy.{marks}
use Rattle.lines.specs.Numerals.{decimal, hex}

-- "START LENGTH READ", line feed
abbrev pub header : List ℕ
header = 0x53 ∷ 0x54 ∷ 0x41 ∷ 0x52 ∷ 0x54 ∷ 0x20 ∷ 0x4C ∷ 0x45 ∷ 0x4E ∷ 0x47 ∷ 0x54 ∷ 0x48 ∷ 0x20 ∷ 0x52 ∷ 0x45 ∷ 0x41 ∷ 0x44 ∷ 0x0A ∷ []

-- "U+" and eight hex digits, or "fault " and the number; line feed
abbrev pub shown_read : Item → List ℕ
shown_read (Character v p) = 0x55 ∷ 0x2B ∷ (hex 8 v ++ (0x0A ∷ []))
shown_read (Mark f p) = 0x66 ∷ 0x61 ∷ 0x75 ∷ 0x6C ∷ 0x74 ∷ 0x20 ∷ (decimal (number_of f) ++ (0x0A ∷ []))

-- start and length with a space behind each
abbrev pub placed : Span → List ℕ
placed s = decimal s.offset ++ (0x20 ∷ (decimal s.length ++ (0x20 ∷ [])))

-- start, length and what was read, with a space between
abbrev pub line : Item → List ℕ
line i = decimal (span_of i).offset ++ (0x20 ∷ (decimal (span_of i).length ++ (0x20 ∷ shown_read i)))

abbrev pub lines : List Item → List ℕ
lines [] = []
lines (i ∷ is) = line i ++ lines is

-- "items " and "faults " with their counts; line feed
abbrev pub total : ℕ → ℕ → List ℕ
total n m =
    0x69 ∷ 0x74 ∷ 0x65 ∷ 0x6D ∷ 0x73 ∷ 0x20 ∷
    (decimal n ++ (0x20 ∷ 0x66 ∷ 0x61 ∷ 0x75 ∷ 0x6C ∷ 0x74 ∷ 0x73 ∷ 0x20 ∷ (decimal m ++ (0x0A ∷ []))))

abbrev pub listing_of : List Item → List ℕ
listing_of is = header ++ (lines is ++ total (length is) (marks is))

-- the listing of the first 4,096 bytes of a text
unfoldable pub listing : List ℕ → List ℕ
listing s = listing_of (items fss_utf (take 4096 s))
