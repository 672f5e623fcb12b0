-- The four forms of document 01, "Byte layouts"; and each of them as the target of strict conversion, by request 110.
use Rattle.std.specs.Prelude.{ℕ, ◌-◌, ◌^◌, Bool, cond, List, [], ◌∷◌, take, ltb}
use Rattle.std.proofs.Math.Option.{Option, none, some}
use Rattle.types.specs.declared.Fault.{Fault}
use Rattle.types.specs.declared.Fault.TheVariants.{Unrepresentable, Surrogate, NonCharacter}
use Rattle.forms.specs.Form.{Form}
use Rattle.forms.specs.Layout.{Row, row, Layout, within, form_of, exchanged}
use Rattle.forms.specs.Exchange.{i8_of, ebcdic_of}

-- the leads of 1 to 7 bytes, where trailing bytes begin at `low`
abbrev pub byte_rows : ℕ → List Row
byte_rows low =
    row 0x00 (low - 1) 0 ∷ row 0xC0 0xDF 0 ∷ row 0xE0 0xEF 0 ∷ row 0xF0 0xF7 0 ∷ row 0xF8 0xFB 0 ∷ row 0xFC 0xFD 0 ∷ row 0xFE 0xFF 0 ∷ []

abbrev pub is_surrogate : ℕ → Bool
is_surrogate v = within 0xD800 0xDFFF v

-- request 104, "surrogate values are not characters": what no form carries
abbrev pub no_character : ℕ → Option Fault
no_character v = cond (is_surrogate v) (some Surrogate) none

-- the fault of the first of two tests, and else of the second
abbrev pub or_else : Option Fault → Option Fault → Option Fault
or_else none y = y
or_else (some f) y = some f

-- the byte layout of so many free bits to a trailing byte, and of so many bytes to the longest item
abbrev pub byte_layout : ℕ → ℕ → Layout
byte_layout bits longest =
    record { rows = take longest (byte_rows (0xC0 - 2 ^ bits)); low = 0xC0 - 2 ^ bits; radix = 2 ^ bits; excluded = no_character }

-- a unit is its own value; a high unit and a low unit are 10000 + (high - D800) x 400 + (low - DC00)
abbrev pub utf16_layout : Layout
utf16_layout =
    record {
      rows = row 0x0000 0xFFFF 0 ∷ row 0xD800 0xDBFF 0x10000 ∷ [];
      low = 0xDC00;
      radix = 0x400;
      excluded = λ v. or_else (no_character v) (cond (ltb 0x10FFFF v) (some Unrepresentable) none);
    }

-- "a unit below 80000000 is its value"; no unit trails
abbrev pub ucs4_layout : Layout
ucs4_layout = record { rows = row 0 0x7FFFFFFF 0 ∷ []; low = 0; radix = 0; excluded = no_character }

abbrev pub fss_utf : Form
fss_utf = form_of (byte_layout 6 6)

abbrev pub i8 : Form
i8 = form_of (byte_layout 5 7)

-- "UTF-EBCDIC is I8 with each byte exchanged."
abbrev pub utf_ebcdic : Form
utf_ebcdic = exchanged i8_of ebcdic_of i8

abbrev pub utf16 : Form
utf16 = form_of utf16_layout

abbrev pub ucs4 : Form
ucs4 = form_of ucs4_layout

-- a form with further values excluded: the same code units, fewer values
abbrev pub narrowed : (ℕ → Option Fault) → Form → Form
narrowed x F =
    record {
      role = F.role;
      value = F.value;
      shortest = F.shortest;
      excluded = λ v. or_else (F.excluded v) (x v);
      longest = F.longest;
    }

abbrev pub is_non_character : ℕ → Bool
is_non_character v = within 0xFFFE 0xFFFF v

-- request 110, "FFFE and FFFF turned away": what strict conversion refuses besides, from every form and to every form
abbrev pub turned_away : ℕ → Option Fault
turned_away v = cond (is_non_character v) (some NonCharacter) none

-- a form as the target of strict conversion; "before 6": the values of 12 lie below those of 6
abbrev pub strictly : Form → Form
strictly G = narrowed turned_away G
