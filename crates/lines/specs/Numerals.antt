-- Numbers as ASCII text.
use Rattle.std.specs.Prelude.{ℕ, zero, suc, ◌+◌, ◌/◌, ◌%◌, cond, List, [], ◌∷◌, ◌++◌, ltb}

-- at most so many decimal digits, without leading zeros
abbrev pub decimal_of : ℕ → ℕ → List ℕ
decimal_of zero n = []
decimal_of (suc most) n = cond (ltb n 10) ((0x30 + n) ∷ []) (decimal_of most (n / 10) ++ ((0x30 + n % 10) ∷ []))

-- a number has fewer digits than n + 1
unfoldable pub decimal : ℕ → List ℕ
decimal n = decimal_of (suc n) n

abbrev pub hex_digit : ℕ → ℕ
hex_digit d = cond (ltb d 10) (0x30 + d) (0x37 + d)

-- the lowest hexadecimal digits of a number, so many
abbrev pub hex : ℕ → ℕ → List ℕ
hex zero n = []
hex (suc count) n = hex count (n / 16) ++ (hex_digit (n % 16) ∷ [])
