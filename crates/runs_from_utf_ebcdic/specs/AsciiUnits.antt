-- An ASCII character in UTF-16 and UCS-4: one unit, its value.
use Rattle.std.specs.Prelude.{ℕ, ◌<◌, ◌≡◌, [], ◌∷◌}
use native.Mathlib.Omega.{arith}
use Rattle.forms.specs.Form.{encode}
use Rattle.forms.specs.Forms.{utf16, ucs4}
use Rattle.laws.proofs.UnitEncodings.{below_surrogates, ucs4_below}

pub ascii_utf16 : (v : ℕ) → v < 0x80 → encode utf16 v ≡ v ∷ []
ascii_utf16 v h = below_surrogates v (omega arith)

pub ascii_ucs4 : (v : ℕ) → v < 0x80 → encode ucs4 v ≡ v ∷ []
ascii_ucs4 v h = ucs4_below v (omega arith)
