-- The numerals of the listing as those that the library writes, and how many digits they have.
use Prim.Native.Nat.{ℕ, suc, ◌^◌, ◌≤◌, ◌<◌}
use mathlib.Core.Path.{◌≡◌}
use native.Mathlib.Omega.{arith}
use borrow.Author.Tests.{lt-ltb, le-ltb}
use lib.ListN.{length}
use Rattle.std.proofs.lemmas.Fmt.{AppendsLastDigit, decimal_from_appends, length-decimal-le, length-decimal-le_succ}
use Rattle.std.specs.Fmt.{decimal as written}
use Rattle.lines.specs.Numerals.{decimal_of, decimal}

appends : AppendsLastDigit decimal_of
appends =
    record {
      one = λ k n h. rw (lt-ltb n 10 h);
      more = λ k n h. rw (le-ltb n 10 h);
    }

pub decimal_written : (n : ℕ) → n < 2 ^ 64 → decimal n ≡ written n
unfolding decimal
decimal_written n h = decimal_from_appends decimal_of appends (suc n) n h (omega (arith, length-decimal-le_succ n h))

pub decimal-length : (k n : ℕ) → 0 < k → n < 10 ^ k → n < 2 ^ 64 → length (decimal n) ≤ k
decimal-length k n p h b = rw (decimal_written n b) (length-decimal-le k n p h b)
