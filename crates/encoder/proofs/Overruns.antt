-- Values below 800, each written as two bytes, the second of which counts only if the value has two.
use Prim.Native.Nat.{ℕ, ◌+◌, ◌%◌, ◌≤◌, ◌<◌}
use mathlib.Core.Path.{◌≡◌, ap}
use mathlib.Core.List.{List}
use native.Mathlib.Omega.{arith}
use native.Mathlib.Decide.{dec_lt}
use lib.ListN.{length, get_or, set}
use Rattle.forms.specs.Form.{encode}
use Rattle.forms.specs.Forms.{fss_utf}
use Rattle.laws.proofs.Blocks.{AtMost}
use Rattle.laws.proofs.Values.{Encodable, Room}
use Rattle.laws.proofs.Spare.{Overrun, overrun_room, overrun_one, overrun_two}
use Rattle.encoder.proofs.FssUtf.{one_byte, two_bytes}

pub short : (v : ℕ) → v < 0x800 → (1 ≤ length (encode fss_utf v)) × (length (encode fss_utf v) ≤ 2)
short v h = go (dec_lt v 0x80)
  where
    go : Dec (v < 0x80) → (1 ≤ length (encode fss_utf v)) × (length (encode fss_utf v) ≤ 2)
    go (yes a) = let l = ap length (one_byte v a) in (omega arith, omega arith)
    go (no a) = let l = ap length (two_bytes v (omega arith) h) in (omega arith, omega arith)

module _
    {s d o : List ℕ}
    {at k c n u : ℕ}
    (e : Encodable fss_utf s at c)
    (r : Room fss_utf s at c n (length d))
    (m : AtMost s at c 0x7FF)
    (w : Overrun fss_utf s at k d n u o)
    (h : k + 1 < c) where
  pub twos_below : get_or s (at + k) 0 < 0x800
  twos_below = omega (arith, m.each k (omega arith))

  pub twos_room : u + 1 < length o
  twos_room = omega (arith, overrun_room e r w (omega arith) h, (short (get_or s (at + k) 0) twos_below).0)

  pub twos_more :
      {z : ℕ} {p : List ℕ} → z ≡ u + length (encode fss_utf (get_or s (at + k) 0))
      → p ≡ set (set o u (get_or (encode fss_utf (get_or s (at + k) 0)) 0 0)) (u + 1) (0x80 + get_or s (at + k) 0 % 64) → Overrun fss_utf s at (k + 1) d n z p
  twos_more {z} {p} x y = go (dec_lt (get_or s (at + k) 0) 0x80)
    where
      go : Dec (get_or s (at + k) 0 < 0x80) → Overrun fss_utf s at (k + 1) d n z p
      go (yes a) =
          let q = one_byte (get_or s (at + k) 0) a in
          let i = rw q at x in
          let j = rw q at y in
          rw (i, j) (overrun_one e r w (omega arith) _ _ twos_room q)
      go (no a) =
          let q = two_bytes (get_or s (at + k) 0) (omega arith) twos_below in
          let i = rw q at x in
          let j = rw q at y in
          rw (i, j) (overrun_two e r w (omega arith) _ _ twos_room q)
