-- A value of UTF-16 that has one unit.
use Rattle.std.specs.Prelude.{ℕ, ◌<◌, ◌≡◌, ◌≢◌, [], ◌∷◌}
use Rattle.forms.specs.Form.{encode}
use Rattle.forms.specs.Forms.{utf16}
use Rattle.laws.proofs.FourForms.{utf16_laws}
use Rattle.laws.proofs.UnitEncodings.{unit}

pub short_utf16 : (v : ℕ) → v < 0x10000 → encode utf16 v ≢ [] → encode utf16 v ≡ v ∷ []
short_utf16 v h n = unit v utf16 utf16_laws n h
