-- Condition 3 of the tender, over the numbers that a mended reading returns and the cells that it leaves: "a struck stretch may cost us the
-- characters it hit, and no neighbour".
use Rattle.std.specs.Prelude.{ℕ, ◌+◌, ◌≤◌, ◌<◌, ◌≡◌, ◌≢◌, ◌↔◌, List, [], ◌∷◌, ◌++◌, map, length, get_or, take, drop}
use Rattle.forms.specs.Form.{Form, items, encode, encode_all, AllEncodable, WellFormed, OccursAt}
use Rattle.forms.specs.Lossy.{value_of, offset_of, marks}
use Rattle.c_answers.specs.declared.JkDecoding.{JkDecoding}
use Rattle.c_answers.specs.Promises.{DecodesLossyInC}

-- "any good characters": each the legal encoding of some value, one behind the other
abbrev pub AllGood : Form → List (List ℕ) → Type 0
AllGood F [] = Unit {0}
AllGood F (e ∷ es) = WellFormed F e × AllGood F es

abbrev pub in_order : List (List ℕ) → List ℕ
in_order [] = []
in_order (e ∷ es) = e ++ in_order es

-- good characters are the encodings of values that have one, and the other way round: what is said below of values is said of them
pub record GoodCharacters (F : Form) : Type 0 where
  pub spelled :
      (es : List (List ℕ)) → AllGood F es → (vs : List ℕ) × AllEncodable F vs × (in_order es ≡ encode_all F vs) × (length es ≡ length vs)
  pub good : (vs : List ℕ) → AllEncodable F vs → AllGood F (map (encode F) vs) × (in_order (map (encode F) vs) ≡ encode_all F vs)

-- "For each form, take any good characters, then any units at all, then any good characters; each of the three parts may be empty, and the
-- whole has at most 65,536 units." "Room is given where neither result buffer has fewer cells than the whole text has items."
pub record Struck (F : Form) (vs m ws s d e : List ℕ) : Type 0 where
  pub first : AllEncodable F vs
  pub last : AllEncodable F ws
  pub text : s ≡ encode_all F vs ++ (m ++ encode_all F ws)
  pub short : length s ≤ 65536
  pub room : (length (items F s) ≤ length d) × (length (items F s) ≤ length e)

-- the item i, of n returned, is a character with the value v that starts at q
abbrev pub GivenAs : List ℕ → List ℕ → ℕ → ℕ → ℕ → ℕ → Type 0
GivenAs o p n i q v = (i < n) × (get_or o i 0 ≡ v) × (get_or p i 0 ≡ q) × (v ≢ 0xFFFFFFFF)

-- the unit at q lies under the item i: "that starts at it or, failing that, nearest before it"
pub record LiesUnder (p : List ℕ) (n q i : ℕ) : Type 0 where
  pub returned : i < n
  pub from : get_or p i 0 ≤ q
  pub nearest : (j : ℕ) → j < n → get_or p j 0 ≤ q → get_or p j 0 ≤ get_or p i 0

-- "exactly one fault mark"
pub record UnderOneMark (o p : List ℕ) (n q : ℕ) : Type 0 where
  pub item : ℕ
  pub under : LiesUnder p n q item
  pub mark : get_or o item 0 ≡ 0xFFFFFFFF
  pub only : (j : ℕ) → LiesUnder p n q j → j ≡ item

-- the text s is characters of vs, the units m, characters of ws; n are the items returned, o the values and p the starts
pub record ThreeParts (F : Form) (vs m ws s : List ℕ) (n : ℕ) (o p : List ℕ) : Type 0 where
  -- "the characters of the first part, then the same values and marks as for the middle alone, then the characters of the last part"
  pub values : take n o ≡ vs ++ (map value_of (items F m) ++ ws)
  -- "with every start counted in the whole text": "the start within its part plus the units of the parts before it"
  pub first-starts : (i : ℕ) → i < length vs → get_or p i 0 ≡ length (encode_all F (take i vs))
  pub middle_starts :
      (i : ℕ) → i < length (items F m) → get_or p (length vs + i) 0 ≡ length (encode_all F vs) + get_or (map offset_of (items F m)) i 0
  pub last-starts :
      (i : ℕ) → i < length ws
      → get_or p (length vs + length (items F m) + i) 0 ≡ length (encode_all F vs) + length m + length (encode_all F (take i ws))
  pub rising : (i j : ℕ) → i < j → j < n → get_or p i 0 < get_or p j 0
  -- "A character is given at a place exactly when its legal encoding stands there"
  pub given : (q v : ℕ) → ((i : ℕ) × GivenAs o p n i q v) ↔ OccursAt F s q v
  -- "every unit outside the encodings of the characters so given lies under exactly one fault mark"
  pub covered :
      (q : ℕ) → q < length s → ((i a v : ℕ) → GivenAs o p n i a v → a ≤ q → q < a + length (encode F v) → ⊥) → UnderOneMark o p n q

-- the whole of condition 3, "one statement about the whole text, both buffers and both counts together"
pub record Whole (F : Form) (vs m ws s d e : List ℕ) (r : JkDecoding) (o p : List ℕ) : Type 0 where
  pub no_fault : r.fault ≡ 0
  -- "Items returned = characters of the first part + items of the middle alone + characters of the last part. Marks returned = marks of the
  -- middle alone."
  pub items_are : r.items ≡ length vs + length (items F m) + length ws
  pub marks_are : r.marks ≡ marks (items F m)
  pub parts : ThreeParts F vs m ws s r.items o p
  pub rest : (drop r.items o ≡ drop r.items d) × (drop r.items p ≡ drop r.items e)

abbrev pub Condition3 : Form → List ℕ → List ℕ → List ℕ → JkDecoding → List ℕ → List ℕ → Type 0
Condition3 F s d e r o p = (vs m ws : List ℕ) → Struck F vs m ws s d e → Whole F vs m ws s d e r o p

-- "the same values and marks as for the middle alone", by a second call that is lent it
pub record AsAlone (F : Form) (vs ws : List ℕ) (r : JkDecoding) (o p : List ℕ) (b : JkDecoding) (x y : List ℕ) : Type 0 where
  pub items_are : r.items ≡ length vs + b.items + length ws
  pub marks_are : r.marks ≡ b.marks
  pub values : take r.items o ≡ vs ++ (take b.items x ++ ws)
  pub starts : (i : ℕ) → i < b.items → get_or p (length vs + i) 0 ≡ length (encode_all F vs) + get_or y i 0

abbrev pub MiddleAlone : Form → List ℕ → List ℕ → List ℕ → JkDecoding → List ℕ → List ℕ → Type 0
MiddleAlone F s d e r o p =
    (vs m ws : List ℕ) → Struck F vs m ws s d e
    → (f g : List ℕ) (b : JkDecoding) (x y : List ℕ) → DecodesLossyInC F m f g b x y → b.fault ≡ 0 → AsAlone F vs ws r o p b x y
