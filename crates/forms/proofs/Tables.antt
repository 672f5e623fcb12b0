-- The rules agree with document 01's tables, as printed: the byte layouts, and the fault numbers.
use mathlib.Core.Path.{◌≡◌, refl}
use mathlib.Core.List.{List, [], ◌∷◌, map}
use Rattle.types.specs.declared.Fault.{Fault}
use Rattle.types.specs.declared.Fault.TheVariants.{SourceTooLong, MissingTrailing, StrayTrailing, InvalidUnit, Overlong, Unrepresentable, BufferTooShort, OffsetOutOfRange, Surrogate, NonCharacter}
use Rattle.forms.specs.Fault.{number_of}
use Rattle.forms.specs.Forms.{byte_layout}
use Rattle.forms.specs.LayoutTable.{fss_utf_table, i8_table, table_of}

pub fss_utf_table_lem : table_of (byte_layout 6 6) ≡ fss_utf_table
fss_utf_table_lem = refl

pub i8_table_lem : table_of (byte_layout 5 7) ≡ i8_table
i8_table_lem = refl

pub faults : List Fault
faults = SourceTooLong ∷ MissingTrailing ∷ StrayTrailing ∷ InvalidUnit ∷ Overlong ∷ Unrepresentable ∷ BufferTooShort ∷ OffsetOutOfRange ∷ Surrogate ∷ NonCharacter ∷ []

pub fault-numbers : map number_of faults ≡ 1 ∷ 2 ∷ 3 ∷ 4 ∷ 5 ∷ 6 ∷ 7 ∷ 9 ∷ 10 ∷ 12 ∷ []
unfolding faults
fault-numbers = refl
