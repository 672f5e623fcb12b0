-- Demand 3 of the tender, in the words of document 01: well-formed characters, any units, well-formed characters.
use Rattle.std.specs.Prelude.{ℕ, ◌+◌, ◌≤◌, ◌<◌, ◌≡◌, ◌≢◌, ◌↔◌, List, [], ◌∷◌, ◌++◌, map, length, get_or, take, drop, Result, Ok}
use Rattle.forms.specs.Fault.{limit}
use Rattle.forms.specs.Form.{Form, items, encode, encode_all, AllEncodable, OccursAt}
use Rattle.forms.specs.Answer.{decoding_numbers}
use Rattle.forms.specs.Lossy.{mark_value, value_of, offset_of, marks, lossy, counts, answer_of, outcome_numbers, values_in, starts_in}
use Rattle.types.specs.declared.Refusal.{Refusal}
use Rattle.types.specs.declared.Counts.{Counts}

-- "the values of its good characters, in order, with their starts": the starts from p on
abbrev pub starts_from : Form → ℕ → List ℕ → List ℕ
starts_from F p [] = []
starts_from F p (v ∷ vs) = p ∷ starts_from F (p + length (encode F v)) vs

-- "A returned value other than FFFFFFFF is a character given at the start beside it."
pub record Given (values starts : List ℕ) (p v : ℕ) : Type 0 where
  pub at : ℕ
  pub value_there : at < length values
  pub start-there : at < length starts
  pub value : get_or values at 0 ≡ v
  pub start : get_or starts at 0 ≡ p
  pub no_mark : v ≢ mark_value

-- "A unit lies under the item that starts at it or, failing that, nearest before it."
pub record Under (starts : List ℕ) (p i : ℕ) : Type 0 where
  pub there : i < length starts
  pub before : get_or starts i 0 ≤ p
  pub nearest : (j : ℕ) → j < length starts → get_or starts j 0 ≤ p → get_or starts j 0 ≤ get_or starts i 0

-- the unit at p lies outside the encodings of the characters given
abbrev pub Outside : Form → List ℕ → List ℕ → ℕ → Type 0
Outside F values starts p = (q v : ℕ) → Given values starts q v → q ≤ p → p < q + length (encode F v) → ⊥

-- and lies under exactly one fault mark
pub record UnderOneMark (values starts : List ℕ) (p : ℕ) : Type 0 where
  pub item : ℕ
  pub under : Under starts p item
  pub mark : get_or values item 0 ≡ mark_value
  pub only : (j : ℕ) → Under starts p j → j ≡ item

-- what is due of the values and starts returned for the whole text s: the characters of vs, then the units m, then the characters of ws
pub record Parts (F : Form) (vs m ws s values starts : List ℕ) : Type 0 where
  pub values_are : values ≡ vs ++ (map value_of (items F m) ++ ws)
  pub starts_are :
      starts
      ≡ starts_from F 0 vs ++ (map (λ i. length (encode_all F vs) + offset_of i) (items F m) ++ starts_from F (length (encode_all F vs) + length m) ws)
  pub rising : (i j : ℕ) → i < j → j < length starts → get_or starts i 0 < get_or starts j 0
  pub given : (p v : ℕ) → Given values starts p v ↔ OccursAt F s p v
  pub covered : (p : ℕ) → p < length s → Outside F values starts p → UnderOneMark values starts p

-- demand 3 of a call that was lent the text s and the buffers d and e, answered r and left o and p
abbrev pub Demand3 : Form → List ℕ → List ℕ → List ℕ → Result Counts Refusal → List ℕ → List ℕ → Type 0
Demand3 F s d e r o p =
    (vs m ws : List ℕ) → AllEncodable F vs → AllEncodable F ws → s ≡ encode_all F vs ++ (m ++ encode_all F ws)
    → length s ≤ limit → length (items F s) ≤ length d → length (items F s) ≤ length e
    → let n = length vs + length (items F m) + length ws in
    (r ≡ Ok (counts n (marks (items F m))))
    × Parts F vs m ws s (take n o) (take n p)
    × (drop n o ≡ drop n d)
    × (drop n p ≡ drop n e)

-- what a lossy decoding promises: its answer, the numbers of it, every cell of both buffers, and demand 3 of them
pub record DecodesLossy (F : Form) (s d e : List ℕ) (r : Result Counts Refusal) (o p : List ℕ) : Type 0 where
  pub answer : r ≡ answer_of (lossy F s (length d) (length e))
  pub numbers : decoding_numbers r ≡ outcome_numbers (lossy F s (length d) (length e))
  pub values : o ≡ values_in (lossy F s (length d) (length e)) d
  pub starts : p ≡ starts_in (lossy F s (length d) (length e)) e
  pub demand3 : Demand3 F s d e r o p
