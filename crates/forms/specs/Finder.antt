-- Document 01's start finder, which by request 103 gives the item itself: the one, in the reading of the whole text, that covers an offset.
use Rattle.std.specs.Prelude.{ℕ, ◌+◌, ◌≡◌, cond, List, [], ◌∷◌, length, ltb, Result, Ok, Err}
use Rattle.std.proofs.Math.Option.{Option, none, some}
use Rattle.types.specs.declared.Fault.TheVariants.{SourceTooLong, OffsetOutOfRange}
use Rattle.types.specs.declared.Item.{Item}
use Rattle.forms.specs.Fault.{limit, refusal}
use Rattle.forms.specs.Answer.{Numbers, numbers, ItemValues, item_values, item_numbers, found_numbers}
use Rattle.forms.specs.Form.{Form, span_of, items}
use Rattle.types.specs.declared.Refusal.{Refusal}

-- the offset behind an item
abbrev pub end_of : Item → ℕ
end_of i = (span_of i).offset + (span_of i).length

-- the item that covers an offset: the first that ends behind it; none at the end of the text and beyond
abbrev pub covering : List Item → ℕ → Option Item
covering [] p = none
covering (i ∷ is) p = cond (ltb p (end_of i)) (some i) (covering is p)

abbrev pub or_beyond : ℕ → Option Item → Result Item Refusal
or_beyond p none = Err (refusal OffsetOutOfRange p)
or_beyond p (some i) = Ok i

-- fault 1, then 9 where no item covers the offset
abbrev pub item_covering : Form → List ℕ → ℕ → Result Item Refusal
item_covering F s p = cond (ltb limit (length s)) (Err (refusal SourceTooLong 0)) (or_beyond p (covering (items F s) p))

-- the numbers of that answer: 9 with the asked place, or the item's
abbrev pub numbers_over : ℕ → Option Item → Numbers ItemValues
numbers_over p none = numbers 9 p (item_values 0 0)
numbers_over p (some i) = item_numbers i

abbrev pub numbers_at : Form → List ℕ → ℕ → Numbers ItemValues
numbers_at F s p = cond (ltb limit (length s)) (numbers 1 0 (item_values 0 0)) (numbers_over p (covering (items F s) p))

-- what a finder promises: its answer r, and the numbers of it
pub record FindsItem (F : Form) (s : List ℕ) (p : ℕ) (r : Result Item Refusal) : Type 0 where
  pub answer : r ≡ item_covering F s p
  pub numbers : found_numbers r ≡ numbers_at F s p
