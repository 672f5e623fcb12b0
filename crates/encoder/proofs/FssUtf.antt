-- The encodings of FSS-UTF of one to four bytes, written out.
use Prim.Native.Nat.{ℕ, ◌+◌, ◌-◌, ◌/◌, ◌%◌, ◌≤◌, ◌<◌}
use mathlib.Core.Path.{◌≡◌, ap}
use mathlib.Core.Logic.{◌≢◌}
use mathlib.Core.List.{List, [], ◌∷◌}
use native.Mathlib.Omega.{arith}
use borrow.Author.Tests.{le-ltb, lt-ltb}
use Rattle.forms.specs.Form.{encode}
use Rattle.forms.specs.Forms.{fss_utf}
use Rattle.laws.proofs.Carried.{free_below, free_above, not-excluded}

-- lists are the same by their elements
same-two : {a b x y : ℕ} → a ≡ x → b ≡ y → ◌≡◌ {A = List ℕ} (a ∷ b ∷ []) (x ∷ y ∷ [])
same-two p q = cc

same-three : {a b c x y z : ℕ} → a ≡ x → b ≡ y → c ≡ z → ◌≡◌ {A = List ℕ} (a ∷ b ∷ c ∷ []) (x ∷ y ∷ z ∷ [])
same-three p q r = cc

same-four : {a b c d x y z w : ℕ} → a ≡ x → b ≡ y → c ≡ z → d ≡ w → ◌≡◌ {A = List ℕ} (a ∷ b ∷ c ∷ d ∷ []) (x ∷ y ∷ z ∷ w ∷ [])
same-four p q r s = cc

module _ (v : ℕ) where
  pub one_byte : v < 0x80 → encode fss_utf v ≡ v ∷ []
  one_byte h =
      let a : 0 + (v - 0) / 1 ≡ v = omega arith in
      rw (free_below v (omega arith), lt-ltb v 0x80 h) (ap {B = List ℕ} (λ (x : ℕ). x ∷ []) a)

  pub two_bytes : 0x80 ≤ v → v < 0x800 → encode fss_utf v ≡ (0xC0 + v / 64) ∷ (0x80 + v % 64) ∷ []
  two_bytes h k =
      rw (free_below v (omega arith), le-ltb v 0x80 h, lt-ltb v 0x800 k) (same-two (omega arith) (omega arith))

  pub three_bytes : encode fss_utf v ≢ [] → 0x800 ≤ v → v < 0x10000 → encode fss_utf v ≡ (0xE0 + v / 4096) ∷ (0x80 + v / 64 % 64) ∷ (0x80 + v % 64) ∷ []
  three_bytes n h k =
      rw (not-excluded fss_utf v n, le-ltb v 0x80 (omega arith), le-ltb v 0x800 h, lt-ltb v 0x10000 k)
      (same-three (omega arith) (omega arith) (omega arith))

  pub four_bytes :
      0x10000 ≤ v → v < 0x200000
      → encode fss_utf v ≡ (0xF0 + v / 262144) ∷ (0x80 + v / 4096 % 64) ∷ (0x80 + v / 64 % 64) ∷ (0x80 + v % 64) ∷ []
  four_bytes h k =
      rw (free_above v (omega arith), le-ltb v 0x80 (omega arith), le-ltb v 0x800 (omega arith), le-ltb v 0x10000 h, lt-ltb v 0x200000 k)
      (same-four (omega arith) (omega arith) (omega arith) (omega arith))
