-- Condition 1 of the tender: "each public call ends, stays within its buffers, and gives its result or a numbered fault from document 01. A
-- fault carries its place and changes no lent buffer." A call that has a contract ends, and no contract asks anything of its caller.
use Rattle.std.specs.Prelude.{ℕ, ◌+◌, ◌≤◌, ◌<◌, ◌≡◌, ◌≢◌, ◌⊎◌, List, length}
use Rattle.c_answers.specs.declared.JkConversion.{JkConversion}
use Rattle.c_answers.specs.declared.JkDecoding.{JkDecoding}
use Rattle.c_answers.specs.declared.JkItem.{JkItem}
use Rattle.c_answers.specs.Answer.{jk_item}
use Rattle.acceptance.specs.FaultNumbers.{Among, mark_faults, conversion_faults, measure_faults, decoding_faults}

-- "A refusal returns its number, a place (that of the item; ... 0 for any number that concerns no item, as 1 and 7) and zero for every count."
pub record RefusalPlace (s : List ℕ) (r : JkConversion) : Type 0 where
  pub no_fault : r.fault ≡ 0 → r.offset ≡ 0
  pub no_item : (r.fault ≡ 1) ⊎ (r.fault ≡ 7) → r.offset ≡ 0
  pub item : r.fault ≢ 0 → r.fault ≢ 1 → r.fault ≢ 7 → r.offset < length s
  pub no_units : r.fault ≢ 0 → r.units ≡ 0

-- a strict conversion
pub record ConversionCall (s d : List ℕ) (r : JkConversion) (o : List ℕ) : Type 0 where
  -- "its result or a numbered fault from document 01"
  pub numbered : Among r.fault conversion_faults
  -- "stays within its buffers"
  pub same-cells : length o ≡ length d
  pub within : r.units ≤ length d
  -- "A fault carries its place and changes no lent buffer."
  pub place : RefusalPlace s r
  pub unchanged : r.fault ≢ 0 → o ≡ d

-- its measure
pub record MeasureCall (s : List ℕ) (r : JkConversion) : Type 0 where
  pub numbered : Among r.fault measure_faults
  pub place : RefusalPlace s r

-- a mended reading: it refuses by numbers that concern no item
pub record DecodingCall (s d e : List ℕ) (r : JkDecoding) (o p : List ℕ) : Type 0 where
  pub numbered : Among r.fault decoding_faults
  pub same-cells : (length o ≡ length d) × (length p ≡ length e)
  pub within : (r.items ≤ length d) × (r.items ≤ length e) × (r.marks ≤ r.items)
  pub place : r.offset ≡ 0
  pub no_counts : r.fault ≢ 0 → (r.items ≡ 0) × (r.marks ≡ 0)
  pub unchanged : r.fault ≢ 0 → (o ≡ d) × (p ≡ e)

-- an item: of kind 1, a character; or of kind 2, a mark with its fault. It has a unit at least, and stays within the text.
pub record ItemInside (s : List ℕ) (r : JkItem) : Type 0 where
  pub kind : ((r.kind ≡ 1) × (r.fault ≡ 0)) ⊎ ((r.kind ≡ 2) × Among r.fault mark_faults × (r.value ≡ 0))
  pub moves : 1 ≤ r.length
  pub within : r.offset + r.length ≤ length s

-- a one-item reader: "Calls at a place: 1, then 9; a reader may be asked at the end itself and says End". "The one-item reader never gives
-- 2 to 5 ... as a refusal: they are marks."
pub record ReaderCall (s : List ℕ) (q : ℕ) (r : JkItem) : Type 0 where
  pub over : 65536 < length s → r ≡ jk_item 3 1 0 0 0
  pub beyond : length s ≤ 65536 → length s < q → r ≡ jk_item 3 9 0 q 0
  pub end : length s ≤ 65536 → length s ≡ q → r ≡ jk_item 0 0 0 q 0
  pub inside : length s ≤ 65536 → q < length s → (r.offset ≡ q) × ItemInside s r

-- a finder: "the start finder may not" be asked at the end. The item covers the asked place.
pub record FinderCall (s : List ℕ) (q : ℕ) (r : JkItem) : Type 0 where
  pub over : 65536 < length s → r ≡ jk_item 3 1 0 0 0
  pub beyond : length s ≤ 65536 → length s ≤ q → r ≡ jk_item 3 9 0 q 0
  pub inside : length s ≤ 65536 → q < length s → (r.offset ≤ q) × (q < r.offset + r.length) × ItemInside s r
