-- The answers as C sees them: the numbers of `Answer` in `forms` and of `Step` in `reader`, each in its struct.
use Rattle.std.specs.Prelude.{ℕ, Result, Ok, Err}
use Rattle.types.specs.declared.Item.{Item}
use Rattle.types.specs.declared.Item.TheVariants.{Character, Mark}
use Rattle.types.specs.declared.Refusal.{Refusal}
use Rattle.types.specs.declared.Counts.{Counts}
use Rattle.forms.specs.Answer.{Numbers, refused_by, conversion_numbers, decoding_numbers, ItemValues, item_values, item_numbers, found_numbers}
use Rattle.reader.specs.Step.{step_numbers}
use Rattle.reader.specs.declared.Step.{Step}
use Rattle.reader.specs.declared.Step.TheVariants.{Next, End}
use Rattle.c_answers.specs.declared.JkItem.{JkItem}
use Rattle.c_answers.specs.declared.JkConversion.{JkConversion}
use Rattle.c_answers.specs.declared.JkDecoding.{JkDecoding}

abbrev pub jk_item : ℕ → ℕ → ℕ → ℕ → ℕ → JkItem
jk_item k f v p n = record { kind = k; fault = f; value = v; offset = p; length = n }

abbrev pub as_item : ℕ → Numbers ItemValues → JkItem
as_item k n = jk_item k n.fault n.values.value n.offset n.values.length

-- kind 1 is a character, 2 a mark
abbrev pub item_kind : Item → ℕ
item_kind (Character v p) = 1
item_kind (Mark f p) = 2

-- 0 is End, 3 a refusal
abbrev pub step_kind : Result Step Refusal → ℕ
step_kind (Ok (Next i c)) = item_kind i
step_kind (Ok (End c)) = 0
step_kind (Err r) = 3

-- a finder never says End
abbrev pub found_kind : Result Item Refusal → ℕ
found_kind (Ok i) = item_kind i
found_kind (Err r) = 3

abbrev pub shown_item : Item → JkItem
shown_item i = as_item (item_kind i) (item_numbers i)

abbrev pub refused_item : Refusal → JkItem
refused_item r = as_item 3 (refused_by (item_values 0 0) r)

abbrev pub item_answer : Result Step Refusal → JkItem
item_answer s = as_item (step_kind s) (step_numbers s)

abbrev pub found_answer : Result Item Refusal → JkItem
found_answer f = as_item (found_kind f) (found_numbers f)

abbrev pub jk_conversion : ℕ → ℕ → ℕ → JkConversion
jk_conversion f p n = record { fault = f; offset = p; units = n }

abbrev pub as_conversion : Numbers ℕ → JkConversion
as_conversion n = jk_conversion n.fault n.offset n.values

abbrev pub conversion_answer : Result ℕ Refusal → JkConversion
conversion_answer c = as_conversion (conversion_numbers c)

abbrev pub jk_decoding : ℕ → ℕ → ℕ → ℕ → JkDecoding
jk_decoding f p n m = record { fault = f; offset = p; items = n; marks = m }

abbrev pub as_decoding : Numbers Counts → JkDecoding
as_decoding n = jk_decoding n.fault n.offset n.values.items n.values.marks

abbrev pub decoding_answer : Result Counts Refusal → JkDecoding
decoding_answer d = as_decoding (decoding_numbers d)
