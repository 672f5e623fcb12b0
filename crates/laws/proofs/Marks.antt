-- The marks among items, counted.
use Prim.Native.Nat.{ℕ, ◌+◌, ◌≤◌}
use mathlib.Core.Path.{◌≡◌, sym, ap, ◌∙◌}
use mathlib.Core.List.{List, [], ◌∷◌, ◌++◌}
use native.Mathlib.Omega.{arith}
use native.Mathlib.Nat.{zero-add, add_assoc}
use Rattle.types.specs.declared.Item.{Item}
use Rattle.types.specs.declared.Item.TheVariants.{Character, Mark}
use Rattle.forms.specs.Lossy.{mark_count, marks}

pub mark-most : (i : Item) → mark_count i ≤ 1
mark-most (Character v p) = omega arith
mark-most (Mark f p) = omega arith

pub marks-append : (is js : List Item) → marks (is ++ js) ≡ marks is + marks js
marks-append [] js = sym (zero-add (marks js))
marks-append (i ∷ is) js = ap (λ (n : ℕ). mark_count i + n) (marks-append is js) ∙ sym (add_assoc (mark_count i) (marks is) (marks js))
