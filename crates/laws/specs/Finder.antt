-- What a caller of a finder has: document 01, "Items", and request 103.
use Rattle.std.specs.Prelude.{ℕ, zero, suc, ◌-◌, ◌≤◌, ◌<◌, ◌≡◌, ◌↔◌, List, [], ◌∷◌, ◌++◌, length, get_or, take, drop, Ok}
use Rattle.std.proofs.Math.Option.{none, some}
use Rattle.types.specs.declared.Item.{Item}
use Rattle.types.specs.declared.Item.TheVariants.{Character, Mark}
use Rattle.forms.specs.Form.{Form, first_of, span, span_of, item_of, items}
use Rattle.forms.specs.Finder.{end_of, covering, item_covering}

-- the units before an offset, the nearest first
abbrev pub units_before : ℕ → List ℕ → List ℕ
units_before zero s = []
units_before (suc p) s = get_or s p 0 ∷ units_before p s

-- at most n of them
abbrev pub nearest : ℕ → ℕ → List ℕ → List ℕ
nearest n p s = take n (units_before p s)

-- an item of a reading covers an offset
pub record Covers (is : List Item) (p : ℕ) (i : Item) : Type 0 where
  pub before : List Item
  pub after : List Item
  pub among : is ≡ before ++ (i ∷ after)
  pub from : (span_of i).offset ≤ p
  pub to : p < end_of i

-- two places with the same unit and the same units before it, as many as the longest item reaches back, or the same smaller number of them
pub record SameNear (F : Form) (s : List ℕ) (p : ℕ) (t : List ℕ) (q : ℕ) : Type 0 where
  pub unit : get_or s p 0 ≡ get_or t q 0
  pub before : nearest (F.longest - 1) p s ≡ nearest (F.longest - 1) q t

-- two starts of items with the same units from there on, as many as the longest item has, or the same smaller number up to the end of both texts
pub record SameAhead (F : Form) (s : List ℕ) (a : ℕ) (t : List ℕ) (b : ℕ) : Type 0 where
  pub units : take F.longest (drop a s) ≡ take F.longest (drop b t)

-- an item as it is at another offset
abbrev pub moved_to : ℕ → Item → Item
moved_to o (Character v p) = Character v (span o p.length)
moved_to o (Mark f p) = Mark f (span o p.length)

-- what a caller of a finder has
pub record Finds (F : Form) : Type 0 where
  -- each offset inside a text is covered by one item, and no other offset by any
  pub inside : (s : List ℕ) (p : ℕ) → p < length s → (i : Item) × (covering (items F s) p ≡ some i)
  pub beyond : (s : List ℕ) (p : ℕ) → (covering (items F s) p ≡ none) ↔ (length s ≤ p)
  pub covers : (s : List ℕ) (p : ℕ) (i : Item) → (covering (items F s) p ≡ some i) ↔ Covers (items F s) p i
  -- an item that is answered is that one
  pub answer : (s : List ℕ) (p : ℕ) (i : Item) → item_covering F s p ≡ Ok i → covering (items F s) p ≡ some i
  -- "It must agree with the reading of the whole text": reading at its start gives it, and each of its offsets does
  pub read :
      (s : List ℕ) (p : ℕ) (i : Item) → covering (items F s) p ≡ some i
      → (u : ℕ) (us : List ℕ) → drop (span_of i).offset s ≡ u ∷ us → i ≡ item_of F (span_of i).offset (first_of F u us)
  pub whole : (s : List ℕ) (p q : ℕ) (i : Item) → covering (items F s) p ≡ some i → (span_of i).offset ≤ q → q < end_of i → covering (items F s) q ≡ some i
  -- it starts less than the longest item back
  pub near : (s : List ℕ) (p : ℕ) (i : Item) → covering (items F s) p ≡ some i → p - (span_of i).offset < F.longest
  -- "The distance back still rests only on the units named in document 01": as far as the nearest units tell
  pub local :
      (s t : List ℕ) (p q : ℕ) (i j : Item) → covering (items F s) p ≡ some i → covering (items F t) q ≡ some j → SameNear F s p t q
      → p - (span_of i).offset ≡ q - (span_of j).offset
  -- "length and fault rest also on the units up to the item's longest reach ahead", and so does the value
  pub local_ahead :
      (s t : List ℕ) (p q : ℕ) (i j : Item) → covering (items F s) p ≡ some i → covering (items F t) q ≡ some j
      → SameAhead F s (span_of i).offset t (span_of j).offset → j ≡ moved_to (span_of j).offset i
