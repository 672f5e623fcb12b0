-- A lent result buffer, as the list of its cells.
use Rattle.std.specs.Prelude.{ℕ, ◌+◌, ◌≡◌, List, ◌++◌, length, take, drop}

-- a buffer with units put in from an offset on, the rest as it was
abbrev pub with_units : List ℕ → ℕ → List ℕ → List ℕ
with_units d at e = take at d ++ (e ++ drop (at + length e) d)

-- the buffer d became o: n units e at its front, its rest untouched
pub record Holds (d e : List ℕ) (n : ℕ) (o : List ℕ) : Type 0 where
  pub counted : n ≡ length e
  pub cells : o ≡ e ++ drop n d
