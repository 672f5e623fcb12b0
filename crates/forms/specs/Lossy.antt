-- Document 01's mended reading of a text: lossy decoding.
use Rattle.std.specs.Prelude.{ℕ, ◌+◌, cond, ◌||◌, List, [], ◌∷◌, ◌++◌, map, length, drop, ltb, Result, Ok, Err}
use Rattle.types.specs.declared.Fault.TheVariants.{SourceTooLong, BufferTooShort}
use Rattle.types.specs.declared.Item.{Item}
use Rattle.types.specs.declared.Item.TheVariants.{Character, Mark}
use Rattle.types.specs.declared.Refusal.{Refusal}
use Rattle.types.specs.declared.Counts.{Counts}
use Rattle.forms.specs.Fault.{limit, refusal}
use Rattle.forms.specs.Answer.{Numbers, returned, refused_by}
use Rattle.forms.specs.Form.{Form, span_of, items}

-- "one value per item (FFFFFFFF for a mark) and one start per item"
abbrev pub mark_value : ℕ
mark_value = 0xFFFFFFFF

abbrev pub value_of : Item → ℕ
value_of (Character v p) = v
value_of (Mark f p) = mark_value

abbrev pub offset_of : Item → ℕ
offset_of i = (span_of i).offset

abbrev pub mark_count : Item → ℕ
mark_count (Character v p) = 0
mark_count (Mark f p) = 1

abbrev pub marks : List Item → ℕ
marks [] = 0
marks (i ∷ is) = mark_count i + marks is

-- the items of the text, or the refusal
pub data Outcome : Type 0 where
  decoded : List Item → Outcome
  refused : Refusal → Outcome

-- fault 1, then 7 where either buffer has fewer cells than the text has items
abbrev pub lossy : Form → List ℕ → ℕ → ℕ → Outcome
lossy F s m n =
    cond (ltb limit (length s)) (refused (refusal SourceTooLong 0))
    (cond (ltb m (length (items F s)) || ltb n (length (items F s))) (refused (refusal BufferTooShort 0)) (decoded (items F s)))

abbrev pub counts : ℕ → ℕ → Counts
counts n m = record { items = n; marks = m }

abbrev pub answer_of : Outcome → Result Counts Refusal
answer_of (decoded is) = Ok (counts (length is) (marks is))
answer_of (refused r) = Err r

-- the numbers of that answer: how many items and marks there are, or the refusal's number, its place and zero for both
abbrev pub outcome_numbers : Outcome → Numbers Counts
outcome_numbers (decoded is) = returned (counts (length is) (marks is))
outcome_numbers (refused r) = refused_by (counts 0 0) r

-- what a call leaves in the buffer of values, and in that of starts
abbrev pub values_in : Outcome → List ℕ → List ℕ
values_in (decoded is) d = map value_of is ++ drop (length is) d
values_in (refused r) d = d

abbrev pub starts_in : Outcome → List ℕ → List ℕ
starts_in (decoded is) d = map offset_of is ++ drop (length is) d
starts_in (refused r) d = d
