-- Examples that compute, beside the starred points: document 01's limits from both sides, its listing, and one case or more for each rule.
use Prim.Native.Nat.{ℕ, ◌≤◌}
use mathlib.Core.Path.{◌≡◌, refl, sym, ap, ◌∙◌}
use mathlib.Core.Logic.{◌≢◌}
use mathlib.Core.List.{List, [], ◌∷◌, ◌++◌, map}
use mathlib.Core.Option.{Option, none, some}
use native.Mathlib.Omega.{arith}
use borrow.Author.Tests.{lt-ltb, le-ltb}
use lib.ListN.{length, drop}
use Rattle.types.specs.declared.Fault.{Fault}
use Rattle.types.specs.declared.Fault.TheVariants.{SourceTooLong, MissingTrailing, StrayTrailing, InvalidUnit, Overlong, Unrepresentable, BufferTooShort, OffsetOutOfRange, Surrogate, NonCharacter}
use Rattle.types.specs.declared.Item.{Item}
use Rattle.types.specs.declared.Item.TheVariants.{Character, Mark}
use Rattle.forms.specs.Fault.{limit, refusal}
use Rattle.forms.specs.Answer.{numbers, conversion_numbers, decoding_numbers, item_values, item_numbers, found_numbers}
use Rattle.forms.specs.Form.{units, Form, sequences, span, span_of, items, encode, encode_all, AllEncodable, WellFormed, OccursAt}
use Rattle.forms.specs.Exchange.{ebcdic_of}
use Rattle.forms.specs.Forms.{fss_utf, i8, utf_ebcdic, utf16, ucs4, turned_away, strictly}
use Rattle.forms.specs.Flags.{flag_of}
use Rattle.forms.specs.Lossy as Lossy
use Rattle.forms.specs.Lossy.{lossy, counts, values_in, starts_in}
use Rattle.forms.specs.Buffer.{with_units, Holds}
use Rattle.forms.specs.Conversion.{refused, unheld_by, refusal_at, convert_items, outcome, strict, answer_of, cells_of, Measures, Converts}
use Rattle.forms.specs.Finder.{end_of, covering, or_beyond, item_covering, numbers_at, FindsItem}
use Rattle.std.specs.Prelude.{Result, Ok, Err}
use Rattle.types.specs.declared.Refusal.{Refusal}

pub data Example : Type 0 where
  -- a value and its legal encoding, which is read as the value
  encodes : Form → ℕ → List ℕ → Example
  -- a value that the form does not carry
  excludes : Form → ℕ → Fault → Example
  -- a value that no sequence of the form has
  lacks : Form → ℕ → Example
  -- a text and its items
  reads : Form → List ℕ → List Item → Example
  -- a text converted into a buffer: the answer, and the buffer's cells then
  converts : Form → Form → List ℕ → List ℕ → Result ℕ Refusal → List ℕ → Example

pub data Given : Type 0 where
  encoded : List ℕ → List Item → Given
  excluded : List ℕ → Option Fault → Given
  read : List Item → Given
  converted : Result ℕ Refusal → List ℕ → Given

abbrev pub actual : Example → Given
actual (encodes F v e) = encoded (encode F v) (items F e)
actual (excludes F v f) = excluded (encode F v) (F.excluded v)
actual (lacks F v) = excluded (encode F v) (F.excluded v)
actual (reads F s is) = read (items F s)
actual (converts F G s d a t) = converted (answer_of (strict F G s (length d))) (cells_of (strict F G s (length d)) d)

abbrev pub expected : Example → Given
expected (encodes F v e) = encoded e (Character v (span 0 (length e)) ∷ [])
expected (excludes F v f) = excluded [] (some f)
expected (lacks F v) = excluded [] none
expected (reads F s is) = read is
expected (converts F G s d a t) = converted a t

-- the input of document 01's listing
abbrev listing : List ℕ
listing = 0x41 ∷ 0xC2 ∷ 0xA9 ∷ 0x80 ∷ 0xE2 ∷ 0x89 ∷ 0x0A ∷ []

-- both sides of the limits
abbrev pub byte_encodings : List Example
byte_encodings =
    encodes fss_utf 0x7F (0x7F ∷ []) ∷
    encodes fss_utf 0x80 (0xC2 ∷ 0x80 ∷ []) ∷
    encodes fss_utf 0x7FF (0xDF ∷ 0xBF ∷ []) ∷
    encodes fss_utf 0x800 (0xE0 ∷ 0xA0 ∷ 0x80 ∷ []) ∷
    encodes fss_utf 0xD7FF (0xED ∷ 0x9F ∷ 0xBF ∷ []) ∷
    excludes fss_utf 0xD800 Surrogate ∷
    excludes fss_utf 0xDFFF Surrogate ∷
    encodes fss_utf 0xE000 (0xEE ∷ 0x80 ∷ 0x80 ∷ []) ∷
    encodes fss_utf 0xFFFF (0xEF ∷ 0xBF ∷ 0xBF ∷ []) ∷
    encodes fss_utf 0x10000 (0xF0 ∷ 0x90 ∷ 0x80 ∷ 0x80 ∷ []) ∷
    encodes fss_utf 0x1FFFFF (0xF7 ∷ 0xBF ∷ 0xBF ∷ 0xBF ∷ []) ∷
    encodes fss_utf 0x200000 (0xF8 ∷ 0x88 ∷ 0x80 ∷ 0x80 ∷ 0x80 ∷ []) ∷
    encodes fss_utf 0x7FFFFFFF (0xFD ∷ 0xBF ∷ 0xBF ∷ 0xBF ∷ 0xBF ∷ 0xBF ∷ []) ∷
    lacks fss_utf 0x80000000 ∷
    encodes i8 0x9F (0x9F ∷ []) ∷
    encodes i8 0xA0 (0xC5 ∷ 0xA0 ∷ []) ∷
    encodes i8 0x3FFF (0xEF ∷ 0xBF ∷ 0xBF ∷ []) ∷
    encodes i8 0x4000 (0xF0 ∷ 0xB0 ∷ 0xA0 ∷ 0xA0 ∷ []) ∷
    encodes i8 0xD7FF (0xF1 ∷ 0xB5 ∷ 0xBF ∷ 0xBF ∷ []) ∷
    excludes i8 0xD800 Surrogate ∷
    excludes i8 0xDFFF Surrogate ∷
    encodes i8 0xE000 (0xF1 ∷ 0xB8 ∷ 0xA0 ∷ 0xA0 ∷ []) ∷
    encodes i8 0x7FFFFFFF (0xFF ∷ 0xBF ∷ 0xBF ∷ 0xBF ∷ 0xBF ∷ 0xBF ∷ 0xBF ∷ []) ∷
    lacks i8 0x80000000 ∷
    encodes utf_ebcdic 0x3FFF (0xFB ∷ 0xFE ∷ 0xFE ∷ []) ∷
    lacks utf_ebcdic 0x80000000 ∷
    []

pub byte_encodings_hold : map actual byte_encodings ≡ map expected byte_encodings
byte_encodings_hold = refl

-- both sides of faults 10 and 6
abbrev pub unit_encodings : List Example
unit_encodings =
    encodes utf16 0xD7FF (0xD7FF ∷ []) ∷
    excludes utf16 0xD800 Surrogate ∷
    excludes utf16 0xDFFF Surrogate ∷
    encodes utf16 0xE000 (0xE000 ∷ []) ∷
    encodes utf16 0x10401 (0xD801 ∷ 0xDC01 ∷ []) ∷
    encodes utf16 0x10FFFF (0xDBFF ∷ 0xDFFF ∷ []) ∷
    excludes utf16 0x110000 Unrepresentable ∷
    encodes ucs4 0x0 (0x0 ∷ []) ∷
    encodes ucs4 0xD7FF (0xD7FF ∷ []) ∷
    excludes ucs4 0xD800 Surrogate ∷
    excludes ucs4 0xDFFF Surrogate ∷
    encodes ucs4 0xE000 (0xE000 ∷ []) ∷
    encodes ucs4 0x110000 (0x110000 ∷ []) ∷
    encodes ucs4 0x7FFFFFFF (0x7FFFFFFF ∷ []) ∷
    lacks ucs4 0x80000000 ∷
    []

pub unit-encodings_hold : map actual unit_encodings ≡ map expected unit_encodings
unit-encodings_hold = refl

-- "FEFF is a character like another." FFFE and FFFF have their encodings too, and are read
abbrev pub carried_values : List Example
carried_values =
    encodes fss_utf 0xFEFF (0xEF ∷ 0xBB ∷ 0xBF ∷ []) ∷
    encodes fss_utf 0xFFFE (0xEF ∷ 0xBF ∷ 0xBE ∷ []) ∷
    encodes fss_utf 0xFFFF (0xEF ∷ 0xBF ∷ 0xBF ∷ []) ∷
    encodes utf_ebcdic 0xFEFF (0xB3 ∷ 0xFE ∷ 0xDE ∷ 0xFE ∷ []) ∷
    encodes utf_ebcdic 0xFFFE (0xB3 ∷ 0xFE ∷ 0xFE ∷ 0xFD ∷ []) ∷
    encodes utf_ebcdic 0xFFFF (0xB3 ∷ 0xFE ∷ 0xFE ∷ 0xFE ∷ []) ∷
    encodes utf16 0xFEFF (0xFEFF ∷ []) ∷
    encodes utf16 0xFFFE (0xFFFE ∷ []) ∷
    encodes utf16 0xFFFF (0xFFFF ∷ []) ∷
    encodes ucs4 0xFEFF (0xFEFF ∷ []) ∷
    encodes ucs4 0xFFFE (0xFFFE ∷ []) ∷
    encodes ucs4 0xFFFF (0xFFFF ∷ []) ∷
    []

pub carried-values_hold : map actual carried_values ≡ map expected carried_values
carried-values_hold = refl

-- the listing; a short sequence and what follows it; units that take none; too long; excluded, but not if too long
abbrev pub readings : List Example
readings =
    reads fss_utf listing
    (Character 0x41 (span 0 1) ∷ Character 0xA9 (span 1 2) ∷ Mark StrayTrailing (span 3 1) ∷ Mark MissingTrailing (span 4 2) ∷ Character 0x0A (span 6 1) ∷ []) ∷
    reads fss_utf (0xE2 ∷ 0x89 ∷ 0xC2 ∷ 0xA9 ∷ []) (Mark MissingTrailing (span 0 2) ∷ Character 0xA9 (span 2 2) ∷ []) ∷
    reads fss_utf (0xC2 ∷ 0xFE ∷ 0x80 ∷ []) (Mark MissingTrailing (span 0 1) ∷ Mark InvalidUnit (span 1 1) ∷ Mark StrayTrailing (span 2 1) ∷ []) ∷
    reads fss_utf (0xE2 ∷ 0x41 ∷ 0x89 ∷ []) (Mark MissingTrailing (span 0 1) ∷ Character 0x41 (span 1 1) ∷ Mark StrayTrailing (span 2 1) ∷ []) ∷
    reads fss_utf (0x80 ∷ 0x80 ∷ []) (Mark StrayTrailing (span 0 1) ∷ Mark StrayTrailing (span 1 1) ∷ []) ∷
    reads i8 (0xE0 ∷ 0xBF ∷ 0xBF ∷ []) (Mark Overlong (span 0 3) ∷ []) ∷
    reads utf_ebcdic (0x8A ∷ 0xFE ∷ 0xFE ∷ 0x25 ∷ []) (Mark Overlong (span 0 3) ∷ Character 0x0A (span 3 1) ∷ []) ∷
    reads utf_ebcdic (0x7E ∷ 0x60 ∷ []) (Character 0x3D (span 0 1) ∷ Character 0x2D (span 1 1) ∷ []) ∷
    reads utf16 (0xD800 ∷ 0xD800 ∷ 0xDC00 ∷ []) (Mark MissingTrailing (span 0 1) ∷ Character 0x10000 (span 1 2) ∷ []) ∷
    reads utf16 (0xD800 ∷ []) (Mark MissingTrailing (span 0 1) ∷ []) ∷
    reads ucs4 (0x80000000 ∷ 0x41 ∷ []) (Mark InvalidUnit (span 0 1) ∷ Character 0x41 (span 1 1) ∷ []) ∷
    reads fss_utf (0xED ∷ 0xA0 ∷ 0x80 ∷ 0xEE ∷ 0x80 ∷ 0x80 ∷ []) (Mark Surrogate (span 0 3) ∷ Character 0xE000 (span 3 3) ∷ []) ∷
    reads fss_utf (0xED ∷ 0xA0 ∷ 0x80 ∷ 0xED ∷ 0xB0 ∷ 0x80 ∷ []) (Mark Surrogate (span 0 3) ∷ Mark Surrogate (span 3 3) ∷ []) ∷
    reads fss_utf (0xF0 ∷ 0x8D ∷ 0xA0 ∷ 0x80 ∷ []) (Mark Overlong (span 0 4) ∷ []) ∷
    reads i8 (0xF1 ∷ 0xB6 ∷ 0xA0 ∷ 0xA0 ∷ 0x41 ∷ []) (Mark Surrogate (span 0 4) ∷ Character 0x41 (span 4 1) ∷ []) ∷
    reads ucs4 (0xD800 ∷ 0xDC00 ∷ 0x41 ∷ []) (Mark Surrogate (span 0 1) ∷ Mark Surrogate (span 1 1) ∷ Character 0x41 (span 2 1) ∷ []) ∷
    []

pub readings_hold : map actual readings ≡ map expected readings
readings_hold = refl

-- the lowest place at which a fault applies decides; then the room
abbrev pub conversions : List Example
conversions =
    converts fss_utf utf16 [] [] (Ok 0) [] ∷
    converts fss_utf utf16 (0x41 ∷ 0xF0 ∷ 0x90 ∷ 0x80 ∷ 0x80 ∷ []) (7 ∷ 7 ∷ 7 ∷ 7 ∷ []) (Ok 3) (0x41 ∷ 0xD800 ∷ 0xDC00 ∷ 7 ∷ []) ∷
    converts fss_utf utf16 (0x41 ∷ 0xF0 ∷ 0x90 ∷ 0x80 ∷ 0x80 ∷ []) (7 ∷ 7 ∷ 7 ∷ []) (Ok 3) (0x41 ∷ 0xD800 ∷ 0xDC00 ∷ []) ∷
    converts fss_utf utf16 (0x41 ∷ 0xF0 ∷ 0x90 ∷ 0x80 ∷ 0x80 ∷ []) (7 ∷ 7 ∷ []) (Err (refusal BufferTooShort 0)) (7 ∷ 7 ∷ []) ∷
    converts fss_utf utf16 (0x41 ∷ 0xED ∷ 0xA0 ∷ 0x80 ∷ 0xED ∷ 0xB0 ∷ 0x80 ∷ []) (7 ∷ []) (Err (refusal Surrogate 1)) (7 ∷ []) ∷
    converts fss_utf utf16 (0x41 ∷ 0xC0 ∷ 0x80 ∷ 0xED ∷ 0xA0 ∷ 0x80 ∷ []) (7 ∷ []) (Err (refusal Overlong 1)) (7 ∷ []) ∷
    converts utf_ebcdic utf16 (0xB3 ∷ 0xDD ∷ 0x80 ∷ 0x80 ∷ 0xC1 ∷ []) (7 ∷ []) (Err (refusal Surrogate 0)) (7 ∷ []) ∷
    converts ucs4 utf16 (0xD800 ∷ 0x110000 ∷ []) [] (Err (refusal Surrogate 0)) [] ∷
    converts ucs4 utf16 (0x110000 ∷ 0x80000000 ∷ []) [] (Err (refusal Unrepresentable 0)) [] ∷
    converts utf16 utf_ebcdic (0x0A ∷ 0x3FFF ∷ []) (7 ∷ 7 ∷ 7 ∷ 7 ∷ []) (Ok 4) (0x25 ∷ 0xFB ∷ 0xFE ∷ 0xFE ∷ []) ∷
    []

pub conversions_hold : map actual conversions ≡ map expected conversions
conversions_hold = refl

-- the promise of a measure, and of a converter for its answer and its buffer; the place of a character that the target cannot hold
pub length_promise : Measures fss_utf utf16 (0x41 ∷ 0xC2 ∷ 0xA9 ∷ []) (Ok 2)
length_promise = record { answer = refl; numbers = refl }

pub promise : Converts fss_utf utf16 (0xC2 ∷ 0xA9 ∷ []) (7 ∷ 8 ∷ []) (Ok 1) (0xA9 ∷ 8 ∷ [])
promise = record { answer = refl; numbers = refl; cells = refl }

pub short_promise : Converts fss_utf utf16 (0x41 ∷ 0x42 ∷ []) (7 ∷ []) (Err (refusal BufferTooShort 0)) (7 ∷ [])
short_promise = record { answer = refl; numbers = refl; cells = refl }

pub unheld_promise : Converts fss_utf utf16 (0x41 ∷ 0xF4 ∷ 0x90 ∷ 0x80 ∷ 0x80 ∷ []) (7 ∷ []) (Err (refusal Unrepresentable 1)) (7 ∷ [])
unheld_promise = record { answer = refl; numbers = refl; cells = refl }

-- its refusal: by what the target excludes, and by 6 where that is nothing
pub unheld_places :
    map (refusal_at (strictly utf16).excluded) (Character 0x110000 (span 5 4) ∷ Character 0xFFFF (span 5 3) ∷ Mark Overlong (span 5 2) ∷ [])
    ≡ refusal Unrepresentable 5 ∷ refusal NonCharacter 5 ∷ refusal Overlong 5 ∷ []
unheld_places = refl

pub unheld_faults : map unheld_by (none ∷ some Surrogate ∷ []) ≡ Unrepresentable ∷ Surrogate ∷ []
unheld_faults = refl

-- request 110: FFFE and FFFF are refused, from every form and to every form; not their neighbours, and no other value that ends like them
pub turned_away_lem :
    map turned_away (0xFEFF ∷ 0xFFFD ∷ 0xFFFE ∷ 0xFFFF ∷ 0x10000 ∷ 0x1FFFE ∷ 0x1FFFF ∷ [])
    ≡ none ∷ none ∷ some NonCharacter ∷ some NonCharacter ∷ none ∷ none ∷ none ∷ []
turned_away_lem = refl

-- as a target the form keeps its units and its other exclusions
pub strict_target : map (encode (strictly utf16)) (0xFFFD ∷ 0xFFFE ∷ 0xFFFF ∷ 0x1FFFE ∷ []) ≡ (0xFFFD ∷ []) ∷ [] ∷ [] ∷ (0xD83F ∷ 0xDFFE ∷ []) ∷ []
strict_target = refl

pub strict_faults_lem :
    map (strictly utf16).excluded (0xD800 ∷ 0xFFFE ∷ 0x110000 ∷ []) ≡ some Surrogate ∷ some NonCharacter ∷ some Unrepresentable ∷ []
strict_faults_lem = refl

pub strict_readings : (items (strictly utf16) (0xDC00 ∷ 0xFFFF ∷ []) ≡ Mark StrayTrailing (span 0 1) ∷ Mark NonCharacter (span 1 1) ∷ []) × ((strictly utf16).longest ≡ 2)
strict_readings = (refl, refl)

pub refused-length : Measures fss_utf utf16 (0x41 ∷ 0xEF ∷ 0xBF ∷ 0xBF ∷ []) (Err (refusal NonCharacter 1))
refused-length = record { answer = refl; numbers = refl }

abbrev pub refused_values : List Example
refused_values =
    converts fss_utf utf16 (0xEF ∷ 0xBF ∷ 0xBF ∷ []) (7 ∷ []) (Err (refusal NonCharacter 0)) (7 ∷ []) ∷
    converts fss_utf ucs4 (0x41 ∷ 0xEF ∷ 0xBF ∷ 0xBE ∷ []) [] (Err (refusal NonCharacter 1)) [] ∷
    converts fss_utf utf16 (0xEF ∷ 0xBF ∷ 0xBD ∷ 0xEF ∷ 0xBB ∷ 0xBF ∷ []) (7 ∷ 7 ∷ []) (Ok 2) (0xFFFD ∷ 0xFEFF ∷ []) ∷
    converts fss_utf utf16 (0xF0 ∷ 0x9F ∷ 0xBF ∷ 0xBE ∷ []) (7 ∷ 7 ∷ []) (Ok 2) (0xD83F ∷ 0xDFFE ∷ []) ∷
    converts fss_utf utf16 (0xED ∷ 0xA0 ∷ 0x80 ∷ 0xEF ∷ 0xBF ∷ 0xBF ∷ []) [] (Err (refusal Surrogate 0)) [] ∷
    converts fss_utf utf16 (0xEF ∷ 0xBF ∷ 0xBF ∷ 0xED ∷ 0xA0 ∷ 0x80 ∷ []) [] (Err (refusal NonCharacter 0)) [] ∷
    converts fss_utf utf16 (0xF0 ∷ 0x8F ∷ 0xBF ∷ 0xBF ∷ []) [] (Err (refusal Overlong 0)) [] ∷
    converts utf_ebcdic fss_utf (0xC1 ∷ 0xB3 ∷ 0xFE ∷ 0xFE ∷ 0xFE ∷ []) (7 ∷ 7 ∷ []) (Err (refusal NonCharacter 1)) (7 ∷ 7 ∷ []) ∷
    converts utf_ebcdic utf16 (0xFB ∷ 0xFE ∷ 0xFE ∷ []) (7 ∷ []) (Ok 1) (0x3FFF ∷ []) ∷
    converts utf16 utf_ebcdic (0x41 ∷ 0xFFFE ∷ []) [] (Err (refusal NonCharacter 1)) [] ∷
    converts ucs4 utf16 (0x110000 ∷ 0xFFFF ∷ []) [] (Err (refusal Unrepresentable 0)) [] ∷
    converts ucs4 utf16 (0xFFFF ∷ 0x110000 ∷ []) [] (Err (refusal NonCharacter 0)) [] ∷
    reads fss_utf (0xEF ∷ 0xBF ∷ 0xBE ∷ 0xEF ∷ 0xBF ∷ 0xBF ∷ []) (Character 0xFFFE (span 0 3) ∷ Character 0xFFFF (span 3 3) ∷ []) ∷
    []

pub refused-values_hold : map actual refused_values ≡ map expected refused_values
refused-values_hold = refl

-- units put into a buffer, and a buffer that holds some at its front
pub put_in : with_units (1 ∷ 2 ∷ 3 ∷ 4 ∷ []) 1 (7 ∷ 8 ∷ []) ≡ 1 ∷ 7 ∷ 8 ∷ 4 ∷ []
put_in = refl

pub held : Holds (1 ∷ 2 ∷ 3 ∷ []) (7 ∷ []) 1 (7 ∷ 2 ∷ 3 ∷ [])
held = record { counted = refl; cells = refl }

-- a promise settles the answer, its numbers, and every cell of the buffer
pub settled :
    (F G : Form) (s d o p : List ℕ) (q r : Result ℕ Refusal) → Converts F G s d q o → Converts F G s d r p
    → (q ≡ r) × (conversion_numbers q ≡ conversion_numbers r) × (o ≡ p)
settled F G s d o p q r a b = (a.answer ∙ sym b.answer, a.numbers ∙ sym b.numbers, a.cells ∙ sym b.cells)

pub length_settled : (F G : Form) (s : List ℕ) (q r : Result ℕ Refusal) → Measures F G s q → Measures F G s r → (q ≡ r) × (conversion_numbers q ≡ conversion_numbers r)
length_settled F G s q r a b = (a.answer ∙ sym b.answer, a.numbers ∙ sym b.numbers)

pub found_settled : (F : Form) (s : List ℕ) (p : ℕ) (q r : Result Item Refusal) → FindsItem F s p q → FindsItem F s p r → (q ≡ r) × (found_numbers q ≡ found_numbers r)
found_settled F s p q r a b = (a.answer ∙ sym b.answer, a.numbers ∙ sym b.numbers)

pub held_settled : (d e o p : List ℕ) (m n : ℕ) → Holds d e m o → Holds d e n p → (m ≡ n) × (o ≡ p)
held_settled d e o p m n a b =
    let q : m ≡ n = a.counted ∙ sym b.counted in
    (q, a.cells ∙ (ap (λ (k : ℕ). e ++ drop k d) q ∙ sym b.cells))

-- "A source of 65,536 units is taken, 65,537 gives 1", before the fault of any unit
pub at_the_limit : (F G : Form) (s : List ℕ) → length s ≤ 65536 → outcome F G s ≡ convert_items (strictly G) (items F s)
at_the_limit F G s h = rw (le-ltb limit (length s) h)

pub above_the_limit : (F G : Form) (s : List ℕ) → 65537 ≤ length s → outcome F G s ≡ refused (refusal SourceTooLong 0)
above_the_limit F G s h = rw (lt-ltb limit (length s) h)

-- the listing's starts and lengths; the code units of its items, joined, are the text; the place of a refusal
abbrev joined : List (List ℕ) → List ℕ
joined [] = []
joined (e ∷ es) = e ++ joined es

pub listed_starts : map (λ (i : Item). (span_of i).offset) (items fss_utf listing) ≡ 0 ∷ 1 ∷ 3 ∷ 4 ∷ 6 ∷ []
listed_starts = refl

pub listed_lengths : map (λ (i : Item). (span_of i).length) (items fss_utf listing) ≡ 1 ∷ 2 ∷ 1 ∷ 2 ∷ 1 ∷ []
listed_lengths = refl

pub listed_units : joined (map units (sequences fss_utf listing)) ≡ listing
listed_units = refl

pub refused-place : (refusal Unrepresentable 1).offset ≡ 1
refused-place = refl

-- the longest item of each form
pub longest-items : map (λ (F : Form). F.longest) (fss_utf ∷ utf_ebcdic ∷ utf16 ∷ ucs4 ∷ []) ≡ 6 ∷ 7 ∷ 2 ∷ 1 ∷ []
longest-items = refl

-- the shadow flags of the I8 bytes at both ends of each range
pub flags :
    map (λ x. flag_of (ebcdic_of x)) (0x00 ∷ 0x1F ∷ 0x20 ∷ 0x7E ∷ 0x7F ∷ 0x9F ∷ 0xA0 ∷ 0xBF ∷ 0xC0 ∷ 0xDF ∷ 0xE0 ∷ 0xEF ∷ 0xF0 ∷ 0xF7 ∷ 0xF8 ∷ 0xFB ∷ 0xFC ∷ 0xFD ∷ 0xFE ∷ 0xFF ∷ [])
    ≡ 0 ∷ 0 ∷ 1 ∷ 1 ∷ 0 ∷ 0 ∷ 9 ∷ 9 ∷ 2 ∷ 2 ∷ 3 ∷ 3 ∷ 4 ∷ 4 ∷ 5 ∷ 5 ∷ 6 ∷ 6 ∷ 7 ∷ 7 ∷ []
flags = refl

not_empty : (u : ℕ) (us : List ℕ) → u ∷ us ≢ []
not_empty u us e = absurd (let z : ◌≡◌ {A = ℕ} 0 1 = cc in omega arith)

-- C2 A9 is a good character, and stands where a text has it; no units are none
pub well_formed : WellFormed fss_utf (0xC2 ∷ 0xA9 ∷ [])
well_formed = record { value = 0xA9; has = not_empty _ _; same = refl }

pub occurs : OccursAt fss_utf (0x41 ∷ 0xC2 ∷ 0xA9 ∷ 0x80 ∷ []) 1 0xA9
occurs = record { has = not_empty _ _; after = 0x80 ∷ []; begins = refl }

pub no_units : (F : Form) → WellFormed F [] → ⊥
no_units F w = w.has (sym w.same)

pub no_encoding : (F : Form) (s : List ℕ) (p v : ℕ) → encode F v ≡ [] → OccursAt F s p v → ⊥
no_encoding F s p v e o = o.has e

-- lossy decoding: E2 89 cut short before 41, with room to spare, with just enough, with too little of either, and of no more than the limit
abbrev cut : List ℕ
cut = 0x41 ∷ 0xE2 ∷ 0x89 ∷ 0x42 ∷ []

pub decoded-answers :
    map (λ n. Lossy.answer_of (lossy fss_utf cut 3 n)) (2 ∷ 3 ∷ 4 ∷ []) ≡ Err (refusal BufferTooShort 0) ∷ Ok (counts 3 1) ∷ Ok (counts 3 1) ∷ []
decoded-answers = refl

pub counted : ((counts 3 1).items ≡ 3) × ((counts 3 1).marks ≡ 1)
counted = (refl, refl)

pub decoded-short : Lossy.answer_of (lossy fss_utf cut 2 3) ≡ Err (refusal BufferTooShort 0)
decoded-short = refl

pub decoded-values : values_in (lossy fss_utf cut 5 5) (1 ∷ 2 ∷ 3 ∷ 4 ∷ 5 ∷ []) ≡ 0x41 ∷ 0xFFFFFFFF ∷ 0x42 ∷ 4 ∷ 5 ∷ []
decoded-values = refl

pub decoded_non_characters : values_in (lossy fss_utf (0xEF ∷ 0xBF ∷ 0xBE ∷ 0xEF ∷ 0xBF ∷ 0xBF ∷ []) 2 2) (1 ∷ 2 ∷ []) ≡ 0xFFFE ∷ 0xFFFF ∷ []
decoded_non_characters = refl

pub decoded-starts : starts_in (lossy fss_utf cut 5 5) (1 ∷ 2 ∷ 3 ∷ 4 ∷ 5 ∷ []) ≡ 0 ∷ 1 ∷ 3 ∷ 4 ∷ 5 ∷ []
decoded-starts = refl

pub refused_buffers : values_in (lossy fss_utf cut 2 3) (7 ∷ 8 ∷ []) ++ starts_in (lossy fss_utf cut 2 3) (7 ∷ 8 ∷ 9 ∷ []) ≡ 7 ∷ 8 ∷ 7 ∷ 8 ∷ 9 ∷ []
refused_buffers = refl

pub decoded-over : (F : Form) (s : List ℕ) (m n : ℕ) → 65537 ≤ length s → Lossy.answer_of (lossy F s m n) ≡ Err (refusal SourceTooLong 0)
decoded-over F s m n h = rw (lt-ltb limit (length s) h)

-- the numbers of each case of an answer: of a result, and of a refusal
pub named_numbers : ((numbers 5 7 (counts 3 1)).fault ≡ 5) × ((numbers 5 7 (counts 3 1)).offset ≡ 7) × ((numbers 5 7 (counts 3 1)).values ≡ counts 3 1)
named_numbers = (refl, refl, refl)

pub conversion_numbers_lem : map conversion_numbers (Ok 3 ∷ Err (refusal Overlong 7) ∷ []) ≡ numbers 0 0 3 ∷ numbers 5 7 0 ∷ []
conversion_numbers_lem = refl

pub decoding-numbers :
    map decoding_numbers (Ok (counts 3 1) ∷ Err (refusal BufferTooShort 0) ∷ []) ≡ numbers 0 0 (counts 3 1) ∷ numbers 7 0 (counts 0 0) ∷ []
decoding-numbers = refl

pub decoded-numbers :
    map (λ n. Lossy.outcome_numbers (lossy fss_utf cut 3 n)) (2 ∷ 3 ∷ []) ≡ numbers 7 0 (counts 0 0) ∷ numbers 0 0 (counts 3 1) ∷ []
decoded-numbers = refl

pub item-numbers :
    map item_numbers (Character 0xA9 (span 1 2) ∷ Mark MissingTrailing (span 4 2) ∷ []) ≡ numbers 0 1 (item_values 0xA9 2) ∷ numbers 2 4 (item_values 0 2) ∷ []
item-numbers = refl

pub found-numbers :
    map found_numbers (Ok (Character 0xA9 (span 1 2)) ∷ Ok (Mark MissingTrailing (span 4 2)) ∷ Err (refusal OffsetOutOfRange 7) ∷ [])
    ≡ numbers 0 1 (item_values 0xA9 2) ∷ numbers 2 4 (item_values 0 2) ∷ numbers 9 7 (item_values 0 0) ∷ []
found-numbers = refl

pub named_values : ((item_values 0xA9 2).value ≡ 0xA9) × ((item_values 0xA9 2).length ≡ 2)
named_values = (refl, refl)

-- characters one behind the other
pub characters : encode_all fss_utf (0x41 ∷ 0xA9 ∷ []) ≡ 0x41 ∷ 0xC2 ∷ 0xA9 ∷ []
characters = refl

pub no_surrogate_behind : AllEncodable utf16 (0x41 ∷ 0xD800 ∷ []) → ⊥
no_surrogate_behind a = a.1.0 refl

-- the item that covers each offset of the listing, and 9 with the offset from its end on; a pair behind a high unit
pub listed_items-covering :
    map (item_covering fss_utf listing) (0 ∷ 1 ∷ 2 ∷ 3 ∷ 4 ∷ 5 ∷ 6 ∷ 7 ∷ 8 ∷ [])
    ≡ Ok (Character 0x41 (span 0 1)) ∷
    Ok (Character 0xA9 (span 1 2)) ∷
    Ok (Character 0xA9 (span 1 2)) ∷
    Ok (Mark StrayTrailing (span 3 1)) ∷
    Ok (Mark MissingTrailing (span 4 2)) ∷
    Ok (Mark MissingTrailing (span 4 2)) ∷
    Ok (Character 0x0A (span 6 1)) ∷
    Err (refusal OffsetOutOfRange 7) ∷
    Err (refusal OffsetOutOfRange 8) ∷
    []
listed_items-covering = refl

pub pair_covering :
    map (item_covering utf16 (0xD800 ∷ 0xD800 ∷ 0xDC00 ∷ [])) (0 ∷ 1 ∷ 2 ∷ [])
    ≡ Ok (Mark MissingTrailing (span 0 1)) ∷ Ok (Character 0x10000 (span 1 2)) ∷ Ok (Character 0x10000 (span 1 2)) ∷ []
pair_covering = refl

pub found_promise : FindsItem fss_utf listing 5 (Ok (Mark MissingTrailing (span 4 2)))
found_promise = record { answer = refl; numbers = refl }

pub beyond_promise : FindsItem fss_utf listing 7 (Err (refusal OffsetOutOfRange 7))
beyond_promise = record { answer = refl; numbers = refl }

-- the item itself, and the offset behind it
pub covering-item : covering (items fss_utf listing) 5 ≡ some (Mark MissingTrailing (span 4 2))
covering-item = refl

pub item-end : end_of (Mark MissingTrailing (span 4 2)) ≡ 6
item-end = refl

-- 1 before 9, above the limit only
pub found-at_the_limit : (F : Form) (s : List ℕ) (p : ℕ) → length s ≤ 65536 → item_covering F s p ≡ or_beyond p (covering (items F s) p)
found-at_the_limit F s p h = rw (le-ltb limit (length s) h)

pub found_above_the_limit : (F : Form) (s : List ℕ) (p : ℕ) → 65537 ≤ length s → item_covering F s p ≡ Err (refusal SourceTooLong 0)
found_above_the_limit F s p h = rw (lt-ltb limit (length s) h)

pub found-numbers_above_the_limit : (F : Form) (s : List ℕ) (p : ℕ) → 65537 ≤ length s → numbers_at F s p ≡ found_numbers (Err (refusal SourceTooLong 0))
found-numbers_above_the_limit F s p h = rw (lt-ltb limit (length s) h)
