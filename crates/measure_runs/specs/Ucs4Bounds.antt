-- Values that strict conversion writes in no form, and how many units the others have, by the bounds that they reach: what the inner functions test
-- and count.
use Rattle.std.specs.Int.{from_bool}
use Rattle.std.specs.Prelude.{ℕ, ◌+◌, Bool, ◌||◌, List, leb, get_or}
use Rattle.forms.specs.Forms.{is_surrogate, is_non_character}

abbrev pub is_excluded : ℕ → Bool
is_excluded v = is_surrogate v || is_non_character v

-- of three bounds, those that a value reaches
abbrev pub reached : ℕ → ℕ → ℕ → ℕ → ℕ
reached a b c v = from_bool (leb a v) + from_bool (leb b v) + from_bool (leb c v)

-- and those that the unit at a place reaches
abbrev pub reached_at : ℕ → ℕ → ℕ → List ℕ → ℕ → ℕ
reached_at a b c s i = reached a b c (get_or s i 0)

-- the units of UTF-16 of a value that it holds
abbrev pub units_at : List ℕ → ℕ → ℕ
units_at s i = 1 + from_bool (leb 0x10000 (get_or s i 0))
