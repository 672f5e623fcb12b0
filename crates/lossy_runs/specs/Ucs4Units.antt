-- Units of UCS-4 that are characters.
use Rattle.std.specs.Prelude.{ℕ, ◌<◌, ◌≡◌, false, List, get_or}
use Rattle.forms.specs.Forms.{is_surrogate}

pub record Carried (u : ℕ) : Type 0 where
  pub small : u < 0x80000000
  pub character : is_surrogate u ≡ false

-- the first k of a block
pub record AllCarried (b : List ℕ) (k : ℕ) : Type 0 where
  pub each : (j : ℕ) → j < k → Carried (get_or b j 0)
