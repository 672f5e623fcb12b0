-- The items of a text counted, whether there is room for them, and the counts that are given at the end.
use Prim.Native.Nat.{ℕ, ◌+◌, ◌≤◌}
use mathlib.Core.Path.{◌≡◌, refl, sym, ap, ◌∙◌}
use mathlib.Core.Bool.{true, ◌&&◌}
use mathlib.Core.List.{List, [], ◌∷◌, ◌++◌}
use native.Mathlib.Omega.{arith}
use borrow.Author.Tests.{le-leb}
use lib.Dec.{leb}
use lib.ListN.{length, length-append}
use Rattle.types.specs.declared.Span.{Span}
use Rattle.types.specs.declared.Item.{Item}
use Rattle.forms.specs.Form.{Form, items}
use Rattle.forms.specs.Lossy.{counts}
use Rattle.demand3.specs.Demand3.{DecodesLossy}
use Rattle.laws.proofs.Items.{items-most}
use Rattle.laws.proofs.ReadItems.{ItemAt, ReadTo, read_begin, read_more, read-end}
use Rattle.std.specs.Prelude.{Ok}

-- so many items before `at`
pub record Counting (F : Form) (s : List ℕ) (at n : ℕ) : Type 0 where
  pub done : List Item
  pub read : ReadTo F s at done
  pub counted : n ≡ length done

module _ {F : Form} {s : List ℕ} where
  pub counting_begin : Counting F s 0 0
  counting_begin = record { done = []; read = read_begin F s; counted = refl }

  module _ {p n : ℕ} where
    pub counting_more : {i : Item} {q : Span} → Counting F s p n → ItemAt F s p i q → Counting F s (p + q.length) (n + 1)
    counting_more {i} c a =
        record { done = c.done ++ (i ∷ []); read = read_more c.read a; counted = omega (arith, c.counted, length-append c.done (i ∷ [])) }

    pub counting_end : Counting F s p n → length s ≤ p → n ≡ length (items F s)
    counting_end c h = c.counted ∙ sym (ap length (read-end c.read h))

-- whether there is room for all
pub room_known : (F : Form) (s : List ℕ) (m n : ℕ) → length s ≤ m → length s ≤ n → true ≡ (leb (length (items F s)) m && leb (length (items F s)) n)
room_known F s m n h k = rw (le-leb (length (items F s)) m (omega (arith, items-most F s)), le-leb (length (items F s)) n (omega (arith, items-most F s)))

-- the counts that are given, by those that were kept
pub ended :
    {F : Form} {s d e o p : List ℕ} {a b n m : ℕ} → a ≡ n → b ≡ m → DecodesLossy F s d e (Ok (counts n m)) o p → DecodesLossy F s d e (Ok (counts a b)) o p
ended {F} {s} {d} {e} {o} {p} {a} {b} {n} {m} x y k = rw (x, y) k
