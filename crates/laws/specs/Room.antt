-- Document 01, "Room", of the measure and of the converter.
use Rattle.std.specs.Prelude.{ℕ, ◌≤◌, ◌≡◌, List, length, Ok}
use Rattle.forms.specs.Form.{Form}
use Rattle.forms.specs.Conversion.{outcome, answer_of, Converts}

-- the result has at most so many units
pub record Room (F G : Form) (most : ℕ → ℕ) : Type 0 where
  pub measured : (s : List ℕ) (n : ℕ) → answer_of (outcome F G s) ≡ Ok n → n ≤ most (length s)
  pub written : (s d : List ℕ) (n : ℕ) (o : List ℕ) → Converts F G s d (Ok n) o → n ≤ most (length s)
