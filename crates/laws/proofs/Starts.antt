-- Which item covers an offset, and how far back it starts.
use Prim.Native.Nat.{ℕ, suc, ◌+◌, ◌-◌, ◌≤◌, ◌<◌}
use mathlib.Core.Path.{◌≡◌, refl, ap}
use mathlib.Core.List.{List, [], ◌∷◌, ◌++◌}
use mathlib.Core.Option.{none, some}
use native.Mathlib.Omega.{arith}
use native.Mathlib.Nat.{not-suc-le-zero}
use native.Mathlib.Decide.{dec_lt}
use borrow.Author.Tests.{lt-ltb, le-ltb}
use lib.ListN.{length, length-append}
use Rattle.types.specs.declared.Span.{Span}
use Rattle.types.specs.declared.Item.{Item}
use Rattle.forms.specs.Form.{Sequence, size, Form, sequences, span_of, item_of, items_from, items}
use Rattle.forms.specs.Finder.{end_of, covering}
use Rattle.laws.specs.Finder.{units_before, Covers}
use Rattle.laws.proofs.Sequences.{joined, sequences-joined}
use Rattle.laws.proofs.Spans.{item-span}
use Rattle.laws.proofs.Distances.{distance_back, distance_in, distance_is}

-- it is the one that the rules name, and starts so far back
pub record FoundBack (is : List Item) (p d : ℕ) : Type 0 where
  pub item : Item
  pub named : covering is p ≡ some item
  pub covers : Covers is p item
  pub start : (span_of item).offset + d ≡ p

module _ (F : Form) where
  end_of_lem : (o : ℕ) (c : Sequence) → end_of (item_of F o c) ≡ o + size c
  end_of_lem o c = ap (λ (x : Span). x.offset + x.length) (item-span F o c)

  offset_of_lem : (o : ℕ) (c : Sequence) → (span_of (item_of F o c)).offset ≡ o
  offset_of_lem o c = ap (λ (x : Span). x.offset) (item-span F o c)

  found_first : (o : ℕ) (c : Sequence) (is : List Item) (p d : ℕ) → p < o + size c → o + d ≡ p → FoundBack (item_of F o c ∷ is) p d
  found_first o c is p d h e =
      let i = item_of F o c in
      let t : p < end_of i = omega (arith, end_of_lem o c) in
      record {
        item = i;
        named = rw (lt-ltb p (end_of i) t);
        covers = record { before = []; after = is; among = refl; from = omega (arith, offset_of_lem o c); to = t };
        start = omega (arith, offset_of_lem o c);
      }

  found_later : (o : ℕ) (c : Sequence) (is : List Item) (p d : ℕ) → o + size c ≤ p → FoundBack is p d → FoundBack (item_of F o c ∷ is) p d
  found_later o c is p d h f =
      let i = item_of F o c in
      let v = f.covers in
      record {
        item = f.item;
        named = rw (le-ltb p (end_of i) (omega (arith, end_of_lem o c))) f.named;
        covers = record { before = i ∷ v.before; after = v.after; among = ap {B = List Item} (λ (x : List Item). i ∷ x) v.among; from = v.from; to = v.to };
        start = f.start;
      }

  found_as : (o : ℕ) (c : Sequence) (cs : List Sequence) (p q : ℕ) → q ≡ o + p → Dec (p < size c)
      → (size c ≤ p → FoundBack (items_from F (o + size c) cs) q (distance_in cs (p - size c))) → FoundBack (items_from F o (c ∷ cs)) q (distance_in (c ∷ cs) p)
  found_as o c cs p q e (yes h) f = rw (lt-ltb p (size c) h) (found_first o c (items_from F (o + size c) cs) q p (omega arith) (omega arith))
  found_as o c cs p q e (no h) f =
      rw (le-ltb p (size c) (omega arith)) (found_later o c (items_from F (o + size c) cs) q (distance_in cs (p - size c)) (omega arith) (f (omega arith)))

  found_in : (cs : List Sequence) (o p q : ℕ) → q ≡ o + p → p < length (joined cs) → FoundBack (items_from F o cs) q (distance_in cs p)
  found_in [] o p q e h = absurd (not-suc-le-zero h)
  found_in (c ∷ cs) o p q e h =
      found_as o c cs p q e (dec_lt p (size c))
      (λ l. found_in cs (o + size c) (p - size c) q (omega arith) (omega (arith, length-append c.rest (joined cs))))

  none_in : (cs : List Sequence) (o p : ℕ) → o + length (joined cs) ≤ p → covering (items_from F o cs) p ≡ none
  none_in [] o p h = refl
  none_in (c ∷ cs) o p h =
      rw (le-ltb p (end_of (item_of F o c)) (omega (arith, end_of_lem o c, length-append c.rest (joined cs))))
      (none_in cs (o + size c) p (omega (arith, length-append c.rest (joined cs))))

  whole : (s : List ℕ) → length (joined (sequences F s)) ≡ length s
  whole s = ap length (sequences-joined F s 0)

  -- the units from the asked one backwards tell where the covering item starts
  pub found : (s : List ℕ) (p : ℕ) → p < length s → FoundBack (items F s) p (distance_back F 0 (units_before (suc p) s))
  found s p h = rw (← distance_is F s p h) (found_in (sequences F s) 0 p p (omega arith) (omega (arith, whole s)))

  pub none-beyond : (s : List ℕ) (p : ℕ) → length s ≤ p → covering (items F s) p ≡ none
  none-beyond s p h = none_in (sequences F s) 0 p (omega (arith, whole s))

  from-offset : (cs : List Sequence) (o : ℕ) (before : List Item) (i : Item) (after : List Item) → items_from F o cs ≡ before ++ (i ∷ after) → o ≤ (span_of i).offset
  from-offset [] o [] i after e = absurd (let z : ◌≡◌ {A = ℕ} 0 1 = cc in omega arith)
  from-offset [] o (b ∷ before) i after e = absurd (let z : ◌≡◌ {A = ℕ} 0 1 = cc in omega arith)
  from-offset (c ∷ cs) o [] i after e = let z : item_of F o c ≡ i = cc in omega (arith, offset_of_lem o c, ap (λ (x : Item). (span_of x).offset) z)
  from-offset (c ∷ cs) o (b ∷ before) i after e =
      let z : items_from F (o + size c) cs ≡ before ++ (i ∷ after) = cc in omega (arith, from-offset cs (o + size c) before i after z)

  -- no other item covers the offset
  pub only_in : (cs : List Sequence) (o p : ℕ) (before : List Item) (i : Item) (after : List Item) → items_from F o cs ≡ before ++ (i ∷ after)
      → (span_of i).offset ≤ p → p < end_of i → covering (items_from F o cs) p ≡ some i
  only_in [] o p [] i after e f t = absurd (let z : ◌≡◌ {A = ℕ} 0 1 = cc in omega arith)
  only_in [] o p (b ∷ before) i after e f t = absurd (let z : ◌≡◌ {A = ℕ} 0 1 = cc in omega arith)
  only_in (c ∷ cs) o p [] i after e f t =
      let z : item_of F o c ≡ i = cc in rw (lt-ltb p (end_of (item_of F o c)) (omega (arith, ap end_of z))) (ap some z)
  only_in (c ∷ cs) o p (b ∷ before) i after e f t =
      let z : items_from F (o + size c) cs ≡ before ++ (i ∷ after) = cc in
      rw (le-ltb p (end_of (item_of F o c)) (omega (arith, end_of_lem o c, from-offset cs (o + size c) before i after z)))
      (only_in cs (o + size c) p before i after z f t)
