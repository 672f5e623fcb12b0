-- What a step of a reader gives: document 01, "Items", and "Calls at a place" of "Fault numbers".
use Rattle.std.specs.Prelude.{ℕ, ◌+◌, ◌≡◌, cond, List, [], ◌∷◌, length, drop, ltb, Result, Ok, Err}
use Rattle.types.specs.declared.Fault.TheVariants.{SourceTooLong, OffsetOutOfRange}
use Rattle.types.specs.declared.Item.{Item}
use Rattle.types.specs.declared.Refusal.{Refusal}
use Rattle.forms.specs.Fault.{limit, refusal}
use Rattle.forms.specs.Answer.{Numbers, numbers, refused_by, ItemValues, item_values, item_numbers}
use Rattle.forms.specs.Form.{Form, first_of, span_of, item_of}
use Rattle.reader.specs.declared.Cursor.{Cursor}
use Rattle.reader.specs.declared.Step.{Step}
use Rattle.reader.specs.declared.Step.TheVariants.{Next, End}

abbrev pub cursor : ℕ → Cursor
cursor p = record { offset = p }

-- the cursor carried forward past an item
abbrev pub behind : Cursor → Item → Cursor
behind c i = cursor (c.offset + (span_of i).length)

-- the units from the place on are read as though the text began there; at the end the reader "says End and stays there"
abbrev pub step_over : Form → Cursor → List ℕ → Step
step_over F c [] = End c
step_over F c (u ∷ us) = Next (item_of F c.offset (first_of F u us)) (behind c (item_of F c.offset (first_of F u us)))

-- fault 1, then 9 with the asked place, then the reading
abbrev pub step_at : Form → List ℕ → Cursor → Result Step Refusal
step_at F s c =
    cond (ltb limit (length s)) (Err (refusal SourceTooLong 0))
    (cond (ltb (length s) c.offset) (Err (refusal OffsetOutOfRange c.offset))
    (Ok (step_over F c (drop c.offset s))))

-- the number, place and values of each case of a step, beside those of `forms`: End has the cursor's place, and zeros as a refusal has
abbrev pub step_numbers : Result Step Refusal → Numbers ItemValues
step_numbers (Ok (Next i c)) = item_numbers i
step_numbers (Ok (End c)) = numbers 0 c.offset (item_values 0 0)
step_numbers (Err r) = refused_by (item_values 0 0) r

-- what they are at a place: 1, 9 with the asked place, End, or the item's
abbrev pub numbers_over : Form → Cursor → List ℕ → Numbers ItemValues
numbers_over F c [] = numbers 0 c.offset (item_values 0 0)
numbers_over F c (u ∷ us) = item_numbers (item_of F c.offset (first_of F u us))

abbrev pub numbers_at : Form → List ℕ → Cursor → Numbers ItemValues
numbers_at F s c =
    cond (ltb limit (length s)) (numbers 1 0 (item_values 0 0))
    (cond (ltb (length s) c.offset) (numbers 9 c.offset (item_values 0 0))
    (numbers_over F c (drop c.offset s)))

-- what a step promises: its answer r, and the numbers of it
pub record ReadsItem (F : Form) (s : List ℕ) (c : Cursor) (r : Result Step Refusal) : Type 0 where
  pub answer : r ≡ step_at F s c
  pub numbers : step_numbers r ≡ numbers_at F s c
