-- Well-formed FSS-UTF told by a window of four bytes: inner, for the blocks that a measure takes at once. It knows the sequences of one to
-- four bytes whose values strict conversion writes in UTF-16; a block with any other is left to the item reader.
use Rattle.std.specs.Int.{from_bool}
use Rattle.std.specs.Prelude.{ℕ, ◌+◌, ◌*◌, ◌-◌, ◌≤◌, ◌<◌, ◌≡◌, ◌≢◌, Bool, false, not, ◌&&◌, ◌||◌, List, [], leb, ltb, eqb, length, get_or, Option, None, Some, IfSome}
use Rattle.std.specs.Bool.{beq}
use Rattle.forms.specs.Form.{Form, encode}
use Rattle.forms.specs.Forms.{fss_utf}
use Rattle.laws.proofs.Runs.{Counted, sum}
use Rattle.laws.proofs.Blocks.{Each}
use Rattle.measure_runs.specs.declared.fss_utf_validation.Weights.{Weights}

abbrev pub is_trailing_byte : ℕ → Bool
is_trailing_byte b = leb 0x80 b && ltb b 0xC0

-- a lead among the three bytes before asks for a trailing byte here
abbrev pub asks_trailing : ℕ → ℕ → ℕ → Bool
asks_trailing p3 p2 p1 = leb 0xC0 p1 || leb 0xE0 p2 || leb 0xF0 p3

-- a byte of no sequence that UTF-16 holds
abbrev pub no_byte : ℕ → Bool
no_byte b = eqb b 0xC0 || eqb b 0xC1 || leb 0xF5 b

-- a second byte that makes the sequence overlong, or its value one that UTF-16 does not hold
abbrev pub no_second : ℕ → ℕ → Bool
no_second p b = eqb p 0xE0 && ltb b 0xA0 || eqb p 0xED && leb 0xA0 b || eqb p 0xF0 && ltb b 0x90 || eqb p 0xF4 && leb 0x90 b

-- a third byte that makes the value FFFE or FFFF
abbrev pub no_third : ℕ → ℕ → ℕ → Bool
no_third q p b = eqb q 0xEF && eqb p 0xBF && leb 0xBE b

unfoldable pub ill_formed : ℕ → ℕ → ℕ → ℕ → Bool
ill_formed p3 p2 p1 b = not (beq (asks_trailing p3 p2 p1) (is_trailing_byte b)) || no_byte b || no_second p1 b || no_third p2 p1 b

abbrev pub ill_formed_at : List ℕ → ℕ → Bool
ill_formed_at s i = ill_formed (get_or s (i - 3) 0) (get_or s (i - 2) 0) (get_or s (i - 1) 0) (get_or s i 0)

-- nothing is wrong at the n places from `at` on
pub record Validated (s : List ℕ) (at n : ℕ) : Type 0 where
  pub all : Each (λ i. ill_formed_at s i ≡ false) at n

-- a byte reaches a weight, if there is one
abbrev pub reached : Option ℕ → ℕ → Bool
reached None b = false
reached (Some t) b = leb t b

abbrev pub is_split : Option ℕ → ℕ → Bool
is_split None p = false
is_split (Some t) p = eqb p t

-- the second byte of the lead t, from A0 on
abbrev pub splits : Option ℕ → ℕ → ℕ → Bool
splits t p b = leb 0xA0 b && ltb b 0xC0 && is_split t p

-- the units of the target that a byte adds, behind the byte p: one for a lead, one more from each weight on; and one for the second byte of
-- the lead `split` from A0 on
unfoldable pub added : Weights → ℕ → ℕ → ℕ
added w p b =
    from_bool (not (is_trailing_byte b)) + from_bool (reached w.two b) + from_bool (reached w.three b) + from_bool (reached w.four b) + from_bool (reached w.five b)
    + from_bool (splits w.split p b)

abbrev pub added_at : Weights → List ℕ → ℕ → ℕ
added_at w s i = added w (get_or s (i - 1) 0) (get_or s i 0)

-- its parts
abbrev pub lead_at : List ℕ → ℕ → ℕ
lead_at s i = from_bool (not (is_trailing_byte (get_or s i 0)))

abbrev pub reached_at : Option ℕ → List ℕ → ℕ → ℕ
reached_at t s i = from_bool (reached t (get_or s i 0))

abbrev pub split_at : Option ℕ → List ℕ → ℕ → ℕ
split_at t s i = from_bool (splits t (get_or s (i - 1) 0) (get_or s i 0))

-- weights that leads alone reach
pub record LeadWeights (w : Weights) : Type 0 where
  pub two : IfSome w.two (λ t. 0xC0 ≤ t)
  pub three : IfSome w.three (λ t. 0xC0 ≤ t)
  pub four : IfSome w.four (λ t. 0xC0 ≤ t)
  pub five : IfSome w.five (λ t. 0xC0 ≤ t)

-- the values of sequences of two, three and four bytes
abbrev pub value2 : ℕ → ℕ → ℕ
value2 a b = (a - 0xC0) * 64 + (b - 0x80)

abbrev pub value3 : ℕ → ℕ → ℕ → ℕ
value3 a b c = ((a - 0xE0) * 64 + (b - 0x80)) * 64 + (c - 0x80)

abbrev pub value4 : ℕ → ℕ → ℕ → ℕ → ℕ
value4 a b c d = (((a - 0xF0) * 64 + (b - 0x80)) * 64 + (c - 0x80)) * 64 + (d - 0x80)

-- what the weights of a target have to satisfy: the target holds every value that is told here, and they add up to its units
pub record Weighs (w : Weights) (G : Form) : Type 0 where
  pub low : (v : ℕ) → v < 0xD800 → encode G v ≢ []
  pub high : (v : ℕ) → 0xE000 ≤ v → v < 0x110000 → (0xFFFE ≤ v → 0x10000 ≤ v) → encode G v ≢ []
  pub few : (v : ℕ) → length (encode G v) ≤ 7
  pub one : (p b : ℕ) → b < 0x80 → added w p b ≡ length (encode G b)
  pub two : (p a b : ℕ) → 0xC2 ≤ a → a < 0xE0 → 0x80 ≤ b → b < 0xC0 → added w p a + added w a b ≡ length (encode G (value2 a b))
  pub three :
      (p a b c : ℕ) → 0xE0 ≤ a → a < 0xF0 → 0x80 ≤ b → b < 0xC0 → 0x80 ≤ c → c < 0xC0 → 0x800 ≤ value3 a b c → encode G (value3 a b c) ≢ []
      → added w p a + added w a b + added w b c ≡ length (encode G (value3 a b c))
  pub four :
      (p a b c d : ℕ) → 0xF0 ≤ a → a < 0xF5 → 0x80 ≤ b → b < 0xC0 → 0x80 ≤ c → c < 0xC0 → 0x80 ≤ d → d < 0xC0 → 0x10000 ≤ value4 a b c d → value4 a b c d < 0x110000
      → added w p a + added w a b + added w b c + added w c d ≡ length (encode G (value4 a b c d))

-- n bytes from `at` on are whole characters, and add up to u units of every target with these weights
pub record Weighed (w : Weights) (s : List ℕ) (at n u : ℕ) : Type 0 where
  pub counts : (G : Form) → Weighs w G → Counted fss_utf G s at n u

-- blocks at which nothing is wrong, and what their bytes add
pub record Blocks (w : Weights) (s : List ℕ) (at n u : ℕ) : Type 0 where
  pub inside : at + n ≤ length s
  pub valid : Validated s at n
  pub counted : u ≡ sum (added_at w s) at n

-- n bytes from a lead up to another, with nothing wrong at either or between
pub record Bordered (s : List ℕ) (at n : ℕ) : Type 0 where
  pub behind : 3 ≤ at
  pub inside : at + n < length s
  pub first : is_trailing_byte (get_or s at 0) ≡ false
  pub last : is_trailing_byte (get_or s (at + n) 0) ≡ false
  pub valid : Validated s at (n + 1)

-- such bytes, or none, and what they add
pub record Whole (w : Weights) (s : List ℕ) (at n u : ℕ) : Type 0 where
  pub some : n ≢ 0 → Bordered s at n
  pub counted : u ≡ sum (added_at w s) at n

-- j units from `at` on, in an array of 80 cells behind its first three, and zeros behind them
pub record Padded (s : List ℕ) (at j : ℕ) (b : List ℕ) : Type 0 where
  pub long : length b ≡ 80
  pub held : (k : ℕ) → k < j → get_or b (3 + k) 0 ≡ get_or s (at + k) 0
  pub zeros : (k : ℕ) → 3 + j ≤ k → get_or b k 0 ≡ 0

-- the weights of each target
abbrev pub weights_of : Option ℕ → Option ℕ → Option ℕ → Option ℕ → Option ℕ → Weights
weights_of a b c d e = record { two = a; three = b; four = c; five = d; split = e }

abbrev pub utf_ebcdic_weights : Weights
utf_ebcdic_weights = weights_of (Some 0xC3) (Some 0xD0) (Some 0xE4) (Some 0xF1) (Some 0xC2)

abbrev pub utf16_weights : Weights
utf16_weights = weights_of (Some 0xF0) None None None None

abbrev pub ucs4_weights : Weights
ucs4_weights = weights_of None None None None None
