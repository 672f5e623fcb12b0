-- Document 01, "Fault numbers".
use Rattle.std.specs.Prelude.{ℕ}
use Rattle.types.specs.declared.Fault.{Fault}
use Rattle.types.specs.declared.Fault.TheVariants.{SourceTooLong, MissingTrailing, StrayTrailing, InvalidUnit, Overlong, Unrepresentable, BufferTooShort, OffsetOutOfRange, Surrogate, NonCharacter}
use Rattle.types.specs.declared.Refusal.{Refusal}

-- 8 was a value above 7FFFFFFF, which no byte text gives; the number is not used again
abbrev pub number_of : Fault → ℕ
number_of SourceTooLong = 1
number_of MissingTrailing = 2
number_of StrayTrailing = 3
number_of InvalidUnit = 4
number_of Overlong = 5
number_of Unrepresentable = 6
number_of BufferTooShort = 7
number_of OffsetOutOfRange = 9
number_of Surrogate = 10
number_of NonCharacter = 12

-- a source of more code units is refused by fault 1
abbrev pub limit : ℕ
limit = 65536

-- document 01's refusal: a fault and its place
abbrev pub refusal : Fault → ℕ → Refusal
refusal f p = record { fault = f; offset = p }
