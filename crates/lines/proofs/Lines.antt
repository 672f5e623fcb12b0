-- How many digits the numbers of a line have, and a line that has no byte yet.
use Prim.Native.Nat.{ℕ, ◌≤◌, ◌<◌}
use mathlib.Core.Path.{◌≡◌, ap}
use mathlib.Core.List.{[]}
use native.Mathlib.Omega.{arith}
use lib.ListN.{length}
use Rattle.types.specs.declared.Fault.{Fault}
use Rattle.arrayvec.specs.ArrayVec.{ArrayVec, array_vec_len}
use Rattle.types.specs.declared.Fault.TheVariants.{SourceTooLong, MissingTrailing, StrayTrailing, InvalidUnit, Overlong, Unrepresentable, BufferTooShort, OffsetOutOfRange, Surrogate, NonCharacter}
use Rattle.forms.specs.Fault.{number_of}
use Rattle.lines.specs.Numerals.{decimal}
use Rattle.lines.proofs.Digits.{decimal-length}

pub four_digits : (n : ℕ) → n < 10000 → length (decimal n) ≤ 4
four_digits n h = decimal-length 4 n (omega arith) h (omega arith)

pub one_digit : (n : ℕ) → n < 10 → length (decimal n) ≤ 1
one_digit n h = decimal-length 1 n (omega arith) h (omega arith)

pub two_digits : (n : ℕ) → n < 100 → length (decimal n) ≤ 2
two_digits n h = decimal-length 2 n (omega arith) h (omega arith)

pub number_small : (f : Fault) → number_of f < 100
number_small SourceTooLong = omega arith
number_small MissingTrailing = omega arith
number_small StrayTrailing = omega arith
number_small InvalidUnit = omega arith
number_small Overlong = omega arith
number_small Unrepresentable = omega arith
number_small BufferTooShort = omega arith
number_small OffsetOutOfRange = omega arith
number_small Surrogate = omega arith
number_small NonCharacter = omega arith

pub number_digits : (f : Fault) (n : ℕ) → n ≡ number_of f → length (decimal n) ≤ 2
number_digits f n e = rw e (two_digits (number_of f) (number_small f))

-- a line that has no byte yet
pub none_yet : (l : ArrayVec ℕ) → l.items ≡ [] → array_vec_len l ≡ 0
none_yet l e = ap length e
