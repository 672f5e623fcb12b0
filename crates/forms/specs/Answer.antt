-- "Where an answer is an enum, a definition tells you this paper's number and values for each of its cases. The promises use that definition."
use Rattle.std.specs.Prelude.{ℕ, Result, Ok, Err}
use Rattle.types.specs.declared.Item.{Item}
use Rattle.types.specs.declared.Item.TheVariants.{Character, Mark}
use Rattle.types.specs.declared.Refusal.{Refusal}
use Rattle.types.specs.declared.Counts.{Counts}
use Rattle.forms.specs.Fault.{number_of}

-- an answer in numbers: that of its fault, 0 for none; a place; and the values that the call returns
pub record Numbers (A : Type 0) : Type 0 where
  pub fault : ℕ
  pub offset : ℕ
  pub values : A

abbrev pub numbers : {A : Type 0} → ℕ → ℕ → A → Numbers A
numbers f p a = record { fault = f; offset = p; values = a }

-- a result has no fault, and 0 for its place
abbrev pub returned : {A : Type 0} → A → Numbers A
returned a = numbers 0 0 a

-- "A refusal returns its number, a place .. and zero for every count": the zeros are given
abbrev pub refused_by : {A : Type 0} → A → Refusal → Numbers A
refused_by zeros r = numbers (number_of r.fault) r.offset zeros

-- strict conversion and its measure: the units written or needed
abbrev pub conversion_numbers : Result ℕ Refusal → Numbers ℕ
conversion_numbers (Ok n) = returned n
conversion_numbers (Err r) = refused_by 0 r

-- lossy decoding: the number of items, and of marks
abbrev pub decoding_numbers : Result Counts Refusal → Numbers Counts
decoding_numbers (Ok c) = returned c
decoding_numbers (Err r) = refused_by (record { items = 0; marks = 0 }) r

-- an item: the value of a character, and how many code units it has
pub record ItemValues : Type 0 where
  pub value : ℕ
  pub length : ℕ

abbrev pub item_values : ℕ → ℕ → ItemValues
item_values v n = record { value = v; length = n }

-- "A mark names its fault inside the item": the place is the item's
abbrev pub item_numbers : Item → Numbers ItemValues
item_numbers (Character v p) = numbers 0 p.offset (item_values v p.length)
item_numbers (Mark f p) = numbers (number_of f) p.offset (item_values 0 p.length)

-- the finder: the item
abbrev pub found_numbers : Result Item Refusal → Numbers ItemValues
found_numbers (Ok i) = item_numbers i
found_numbers (Err r) = refused_by (item_values 0 0) r
