-- The exchange table holds each byte once: it and its inverse undo each other, by two computed tests over the whole table.
use Prim.Native.Nat.{ℕ, ◌≤◌, ◌<◌}
use mathlib.Core.Path.{◌≡◌, refl}
use mathlib.Core.Logic.{◌≢◌}
use native.Mathlib.Omega.{arith}
use native.Mathlib.Decide.{dec_lt}
use lib.Dec.{ltb, eqb}
use borrow.Author.Tests.{eqb-true, ltb-true}
use lib.ListN.{get_or-eq_default}
use Rattle.forms.specs.Form.{invalid}
use Rattle.forms.specs.Layout.{role_of}
use Rattle.forms.specs.Exchange.{exchange, i8_of, ebcdic_of}
use Rattle.forms.specs.Forms.{byte_layout}
use Rattle.laws.proofs.Table.{below}
use Rattle.laws.proofs.Rows.{invalid_above}

pub inverse_of_exchange : (b : ℕ) → b < 0x100 → ebcdic_of (i8_of b) ≡ b
inverse_of_exchange b h = eqb-true (ebcdic_of (i8_of b)) b (below 0x100 (λ x. eqb (ebcdic_of (i8_of x)) x) refl b h)

pub exchange_of_inverse : (x : ℕ) → x < 0x100 → i8_of (ebcdic_of x) ≡ x
exchange_of_inverse x h = eqb-true (i8_of (ebcdic_of x)) x (below 0x100 (λ y. eqb (i8_of (ebcdic_of y)) y) refl x h)

-- both stay bytes
pub exchange_byte : (b : ℕ) → b < 0x100 → i8_of b < 0x100
exchange_byte b h = ltb-true (i8_of b) 0x100 (below 0x100 (λ x. ltb (i8_of x) 0x100) refl b h)

pub inverse_byte : (x : ℕ) → x < 0x100 → ebcdic_of x < 0x100
inverse_byte x h = ltb-true (ebcdic_of x) 0x100 (below 0x100 (λ y. ltb (ebcdic_of y) 0x100) refl x h)

-- a number that is no byte is invalid in I8
no_byte_lem : (x : ℕ) → 0x100 ≤ x → role_of (byte_layout 5 7) x ≡ invalid
no_byte_lem x h = invalid_above (byte_layout 5 7) 0x100 x refl (omega arith) h

pub there : (b : ℕ) → role_of (byte_layout 5 7) (i8_of b) ≢ invalid → ebcdic_of (i8_of b) ≡ b
there b n = go (dec_lt b 0x100)
  where
    go : Dec (b < 0x100) → ebcdic_of (i8_of b) ≡ b
    go (yes h) = inverse_of_exchange b h
    go (no h) =
        let l : 0x100 ≤ b = omega arith in
        let e : i8_of b ≡ 0x100 = get_or-eq_default exchange 0x100 l in
        absurd (n (no_byte_lem (i8_of b) (omega arith)))

pub again : (x : ℕ) → role_of (byte_layout 5 7) x ≢ invalid → i8_of (ebcdic_of x) ≡ x
again x n = go (dec_lt x 0x100)
  where
    go : Dec (x < 0x100) → i8_of (ebcdic_of x) ≡ x
    go (yes h) = exchange_of_inverse x h
    go (no h) = absurd (n (no_byte_lem x (omega arith)))
