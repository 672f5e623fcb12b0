-- Blocks of FSS-UTF characters of one byte and two: inner, for what is written at once.
use Rattle.std.specs.Prelude.{ℕ, ◌+◌, ◌*◌, ◌-◌, ◌%◌, ◌≤◌, ◌<◌, ◌≡◌, List, length, get_or}
use Rattle.laws.proofs.Blocks.{Each}

abbrev pub Trailing : ℕ → Type 0
Trailing b = (0x80 ≤ b) × (b < 0xC0)

-- no character of three bytes or more begins at the n places from `at` on
pub record Shorts (s : List ℕ) (at n : ℕ) : Type 0 where
  pub all : Each (λ i. get_or s i 0 < 0xE0) at n

-- an array of n cells, of the first j of which P holds
pub record Filled (P : ℕ → ℕ → Type 0) (n j : ℕ) (b : List ℕ) : Type 0 where
  pub long : length b ≡ n
  pub each : (k : ℕ) → k < j → P k (get_or b k 0)

-- how many characters begin with the byte b
pub record Begun (b n : ℕ) : Type 0 where
  pub most : n ≤ 1
  pub none : Trailing b → n ≡ 0
  pub one : (Trailing b → ⊥) → n ≡ 1

-- the value of a character of one byte or two, by its first byte and the next
pub record ShortValue (b next x : ℕ) : Type 0 where
  pub one : b < 0x80 → x ≡ b
  pub two : 0xC0 ≤ b → b < 0xE0 → x ≡ (b - 0xC0) * 64 + next % 64

-- an array of n cells has for each of n bytes from `at` on how many characters begin with it
pub record Begins (s : List ℕ) (at n : ℕ) (b : List ℕ) : Type 0 where
  pub held : Filled (λ k x. Begun (get_or s (at + k) 0) x) n n b

-- and the value of the one that begins with it
pub record ShortValues (s : List ℕ) (at n : ℕ) (b : List ℕ) : Type 0 where
  pub held : Filled (λ k x. ShortValue (get_or s (at + k) 0) (get_or s (at + k + 1) 0) x) n n b

-- where the last character begins that begins among 64 bytes: no place between two trailing bytes is left out
pub record LastStart (s : List ℕ) (at r : ℕ) : Type 0 where
  pub within : r ≤ 63
  pub trails : Trailing (get_or s (at + r) 0) → Trailing (get_or s (at + r + 1) 0)
