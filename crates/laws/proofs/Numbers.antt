-- The numbers of an answer are those of what it answers, so that a call's promise follows from its answer.
use Prim.Native.Nat.{ℕ}
use mathlib.Core.Path.{◌≡◌, refl, ap, ◌∙◌}
use mathlib.Core.Bool.{Bool, true, false, cond}
use mathlib.Core.List.{List}
use mathlib.Core.Option.{Option, none, some}
use lib.Dec.{ltb}
use lib.ListN.{length}
use Rattle.types.specs.declared.Fault.TheVariants.{SourceTooLong}
use Rattle.types.specs.declared.Item.{Item}
use Rattle.forms.specs.Fault.{limit, refusal}
use Rattle.forms.specs.Form.{Form, items}
use Rattle.forms.specs.Answer.{numbers, conversion_numbers, item_values, found_numbers}
use Rattle.forms.specs.Conversion.{Outcome, converted, refused, outcome, strict, answer_of, outcome_numbers, cells_of, Measures, Converts}
use Rattle.forms.specs.Finder.{covering, or_beyond, item_covering, numbers_over, FindsItem}
use Rattle.std.specs.Prelude.{Result, Err}
use Rattle.types.specs.declared.Refusal.{Refusal}

answer-numbers : (o : Outcome) → conversion_numbers (answer_of o) ≡ outcome_numbers o
answer-numbers (converted es) = refl
answer-numbers (refused r) = refl

module _ {F G : Form} {s : List ℕ} {r : Result ℕ Refusal} where
  pub measures : r ≡ answer_of (outcome F G s) → Measures F G s r
  measures e = record { answer = e; numbers = ap conversion_numbers e ∙ answer-numbers (outcome F G s) }

  pub converts : {d o : List ℕ} → r ≡ answer_of (strict F G s (length d)) → o ≡ cells_of (strict F G s (length d)) d → Converts F G s d r o
  converts {d} e c = record { answer = e; numbers = ap conversion_numbers e ∙ answer-numbers (strict F G s (length d)); cells = c }

over-numbers : (p : ℕ) (o : Option Item) → found_numbers (or_beyond p o) ≡ numbers_over p o
over-numbers p none = refl
over-numbers p (some i) = refl

found-numbers :
    (b : Bool) (p : ℕ) (o : Option Item)
    → found_numbers (cond b (Err (refusal SourceTooLong 0)) (or_beyond p o)) ≡ cond b (numbers 1 0 (item_values 0 0)) (numbers_over p o)
found-numbers true p o = refl
found-numbers false p o = over-numbers p o

pub finds_item : {F : Form} {s : List ℕ} {p : ℕ} {r : Result Item Refusal} → r ≡ item_covering F s p → FindsItem F s p r
finds_item {F} {s} {p} e = record { answer = e; numbers = ap found_numbers e ∙ found-numbers (ltb limit (length s)) p (covering (items F s) p) }
