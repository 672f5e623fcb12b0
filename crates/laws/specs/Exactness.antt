-- "Each is given exactly then": which outcome a strict conversion has, and when.
use Rattle.std.specs.Prelude.{ℕ, ◌≤◌, ◌<◌, ◌≡◌, ◌≢◌, ◌↔◌, List, [], ◌∷◌, ◌++◌, length}
use Rattle.types.specs.declared.Fault.{Fault}
use Rattle.types.specs.declared.Fault.TheVariants.{SourceTooLong, BufferTooShort}
use Rattle.types.specs.declared.Item.{Item}
use Rattle.types.specs.declared.Refusal.{Refusal}
use Rattle.forms.specs.Fault.{limit, refusal}
use Rattle.forms.specs.Form.{Form, items}
use Rattle.forms.specs.Forms.{strictly}
use Rattle.forms.specs.Conversion.{converted, refused, encoding, refusal_at, outcome, strict}

-- every item is a character that the target holds
abbrev pub AllHeld : Form → List Item → Type 0
AllHeld G [] = Unit {0}
AllHeld G (i ∷ is) = (encoding G i ≢ []) × AllHeld G is

-- and these are their encodings, one behind the other
abbrev pub encodings : Form → List Item → List ℕ
encodings G [] = []
encodings G (i ∷ is) = encoding G i ++ encodings G is

-- the first item that is a mark or a character that the target cannot hold; r is its fault and place
pub record FirstFault (G : Form) (is : List Item) (r : Refusal) : Type 0 where
  pub before : List Item
  pub item : Item
  pub after : List Item
  pub parts : is ≡ before ++ (item ∷ after)
  pub earlier : AllHeld G before
  pub unheld : encoding G item ≡ []
  pub given : r ≡ refusal_at G.excluded item

-- a form's own faults are neither 1 nor 7, which belong to a whole call
abbrev pub OwnFault : Fault → Type 0
OwnFault f = (f ≢ SourceTooLong) × (f ≢ BufferTooShort)

-- when each answer is given: 1; then the fault of the first item that has one, with its place; then 7; and otherwise the result
pub record Exact (F G : Form) (s : List ℕ) (n : ℕ) : Type 0 where
  pub fault_1 : (p : ℕ) → strict F G s n ≡ refused (refusal SourceTooLong p) ↔ ((limit < length s) × (p ≡ 0))
  pub item-fault : (r : Refusal) → OwnFault r.fault → strict F G s n ≡ refused r ↔ ((length s ≤ limit) × FirstFault (strictly G) (items F s) r)
  pub fault_7 :
      (p : ℕ) → strict F G s n ≡ refused (refusal BufferTooShort p)
      ↔ ((length s ≤ limit) × AllHeld (strictly G) (items F s) × (n < length (encodings G (items F s))) × (p ≡ 0))
  pub result :
      (es : List ℕ) → strict F G s n ≡ converted es
      ↔ ((length s ≤ limit) × AllHeld (strictly G) (items F s) × (length (encodings G (items F s)) ≤ n) × (es ≡ encodings G (items F s)))

-- the measure: the same without 7
pub record ExactLength (F G : Form) (s : List ℕ) : Type 0 where
  pub fault_1 : (p : ℕ) → outcome F G s ≡ refused (refusal SourceTooLong p) ↔ ((limit < length s) × (p ≡ 0))
  pub item-fault : (r : Refusal) → OwnFault r.fault → outcome F G s ≡ refused r ↔ ((length s ≤ limit) × FirstFault (strictly G) (items F s) r)
  pub no_fault_7 : (p : ℕ) → outcome F G s ≡ refused (refusal BufferTooShort p) → ⊥
  pub result : (es : List ℕ) → outcome F G s ≡ converted es ↔ ((length s ≤ limit) × AllHeld (strictly G) (items F s) × (es ≡ encodings G (items F s)))
