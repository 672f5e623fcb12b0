-- Strict conversion of a text to another form: document 01, "Fault numbers", and request 110.
use Rattle.std.specs.Prelude.{ℕ, ◌≡◌, cond, List, [], ◌∷◌, ◌++◌, length, drop, ltb, Result, Ok, Err}
use Rattle.std.proofs.Math.Option.{Option, none, some}
use Rattle.types.specs.declared.Fault.{Fault}
use Rattle.types.specs.declared.Fault.TheVariants.{SourceTooLong, Unrepresentable, BufferTooShort}
use Rattle.types.specs.declared.Item.{Item}
use Rattle.types.specs.declared.Item.TheVariants.{Character, Mark}
use Rattle.types.specs.declared.Refusal.{Refusal}
use Rattle.forms.specs.Fault.{limit, refusal}
use Rattle.forms.specs.Answer.{Numbers, returned, refused_by, conversion_numbers}
use Rattle.forms.specs.Form.{Form, items, encode}
use Rattle.forms.specs.Forms.{strictly}

-- the units of the result, or the refusal
pub data Outcome : Type 0 where
  converted : List ℕ → Outcome
  refused : Refusal → Outcome

-- the units that an item becomes: the legal encoding of a character, none for a mark
abbrev pub encoding : Form → Item → List ℕ
encoding G (Character v p) = encode G v
encoding G (Mark f p) = []

-- the fault of a character that has no encoding: the one that excludes it, and else 6
abbrev pub unheld_by : Option Fault → Fault
unheld_by none = Unrepresentable
unheld_by (some f) = f

-- the refusal where it becomes none: a mark's fault; a character's by what the target excludes
abbrev pub refusal_at : (ℕ → Option Fault) → Item → Refusal
refusal_at x (Character v p) = refusal (unheld_by (x v)) p.offset
refusal_at x (Mark f p) = refusal f p.offset

abbrev pub prepend : List ℕ → Outcome → Outcome
prepend e (converted es) = converted (e ++ es)
prepend e (refused r) = refused r

abbrev pub put : List ℕ → Refusal → Outcome → Outcome
put [] r rest = refused r
put (u ∷ e) r rest = prepend (u ∷ e) rest

-- the items in turn: the lowest place at which a fault applies decides
abbrev pub convert_items : Form → List Item → Outcome
convert_items G [] = converted []
convert_items G (i ∷ is) = put (encoding G i) (refusal_at G.excluded i) (convert_items G is)

-- what the measure goes by: fault 1, then the faults of the items, 12 among them
abbrev pub outcome : Form → Form → List ℕ → Outcome
outcome F G s = cond (ltb limit (length s)) (refused (refusal SourceTooLong 0)) (convert_items (strictly G) (items F s))

-- then fault 7, where the result buffer has fewer cells than the result has units
abbrev pub in_room : ℕ → Outcome → Outcome
in_room n (converted es) = cond (ltb n (length es)) (refused (refusal BufferTooShort 0)) (converted es)
in_room n (refused r) = refused r

-- strict conversion of a text into a buffer of n cells
abbrev pub strict : Form → Form → List ℕ → ℕ → Outcome
strict F G s n = in_room n (outcome F G s)

-- what a call answers
abbrev pub answer_of : Outcome → Result ℕ Refusal
answer_of (converted es) = Ok (length es)
answer_of (refused r) = Err r

-- and the numbers of that answer: the units of the result, or the refusal's number, its place and zero units
abbrev pub outcome_numbers : Outcome → Numbers ℕ
outcome_numbers (converted es) = returned (length es)
outcome_numbers (refused r) = refused_by 0 r

-- what a call leaves in the result buffer: the units at its front and its rest untouched, or all as it was
abbrev pub cells_of : Outcome → List ℕ → List ℕ
cells_of (converted es) d = es ++ drop (length es) d
cells_of (refused r) d = d

-- what a measure promises: its answer r, and the numbers of it
pub record Measures (F G : Form) (s : List ℕ) (r : Result ℕ Refusal) : Type 0 where
  pub answer : r ≡ answer_of (outcome F G s)
  pub numbers : conversion_numbers r ≡ outcome_numbers (outcome F G s)

-- what a converter promises: its answer r, the numbers of it, and that the result buffer d became o
pub record Converts (F G : Form) (s d : List ℕ) (r : Result ℕ Refusal) (o : List ℕ) : Type 0 where
  pub answer : r ≡ answer_of (strict F G s (length d))
  pub numbers : conversion_numbers r ≡ outcome_numbers (strict F G s (length d))
  pub cells : o ≡ cells_of (strict F G s (length d)) d
