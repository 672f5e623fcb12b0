-- The values and starts of the items of sequences, cell by cell: where each stands, and which covers a unit.
use Prim.Native.Nat.{ℕ, zero, suc, ◌+◌, ◌-◌, ◌≤◌, ◌<◌}
use mathlib.Core.Path.{◌≡◌, refl, sym, ap, ◌∙◌}
use mathlib.Core.List.{List, [], ◌∷◌, ◌++◌, map, append_assoc}
use native.Mathlib.Omega.{arith}
use native.Mathlib.Nat.{not-suc-le-zero, le_of_suc-le-suc, add_assoc, add-zero}
use native.Mathlib.Decide.{dec_lt}
use lib.ListN.{length, get_or, take, drop, length-append, length-map}
use Rattle.types.specs.declared.Span.{Span}
use Rattle.types.specs.declared.Item.{Item}
use Rattle.forms.specs.Form.{Sequence, sequence, units, size, Form, Content, character, mark, content, span, with_span, item_of, items_from}
use Rattle.forms.specs.Lossy.{mark_value, value_of, offset_of, mark_count, marks}
use Rattle.laws.proofs.Sequences.{joined}
use Rattle.laws.proofs.Items.{length-items}
use Rattle.laws.proofs.Spans.{item-span}

-- what a content shows in the buffer of values
abbrev pub shown : Content → ℕ
shown (character v) = v
shown (mark f) = mark_value

pub value_of_lem : (t : Content) (p : Span) → value_of (with_span t p) ≡ shown t
value_of_lem (character v) p = refl
value_of_lem (mark f) p = refl

mark_of : (t : Content) (p q : Span) → mark_count (with_span t p) ≡ mark_count (with_span t q)
mark_of (character v) p q = refl
mark_of (mark f) p q = refl

-- a sequence that is nowhere asked for
abbrev pub none-there : Sequence
none-there = sequence 0 []

module _ (F : Form) where
  abbrev pub values : ℕ → List Sequence → List ℕ
  values p cs = map value_of (items_from F p cs)

  abbrev pub starts : ℕ → List Sequence → List ℕ
  starts p cs = map offset_of (items_from F p cs)

  pub length-values : (p : ℕ) (cs : List Sequence) → length (values p cs) ≡ length cs
  length-values p cs = length-map (items_from F p cs) value_of ∙ length-items F p cs

  pub length-starts : (p : ℕ) (cs : List Sequence) → length (starts p cs) ≡ length cs
  length-starts p cs = length-map (items_from F p cs) offset_of ∙ length-items F p cs

  offset_of_lem : (p : ℕ) (c : Sequence) → offset_of (item_of F p c) ≡ p
  offset_of_lem p c = ap (λ (x : Span). x.offset) (item-span F p c)

  pub items-append : (p : ℕ) (xs ys : List Sequence) → items_from F p (xs ++ ys) ≡ items_from F p xs ++ items_from F (p + length (joined xs)) ys
  items-append p [] ys = rw (add-zero p)
  items-append p (x ∷ xs) ys =
      ap {B = List Item} (λ (is : List Item). item_of F p x ∷ is)
      (items-append (p + size x) xs ys ∙ ap (λ (n : ℕ). items_from F (p + size x) xs ++ items_from F n ys) (omega (arith, length-append (units x) (joined xs))))

  -- values and marks do not tell where the sequences stand, and starts move with them
  pub values_anywhere : (p q : ℕ) (cs : List Sequence) → values p cs ≡ values q cs
  values_anywhere p q [] = refl
  values_anywhere p q (c ∷ cs) =
      rw (value_of_lem (content F c) (span p (size c)), value_of_lem (content F c) (span q (size c)))
      (ap {B = List ℕ} (λ (x : List ℕ). shown (content F c) ∷ x) (values_anywhere (p + size c) (q + size c) cs))

  pub marks_anywhere : (p q : ℕ) (cs : List Sequence) → marks (items_from F p cs) ≡ marks (items_from F q cs)
  marks_anywhere p q [] = refl
  marks_anywhere p q (c ∷ cs) =
      rw (mark_of (content F c) (span p (size c)) (span q (size c)), marks_anywhere (p + size c) (q + size c) cs)

  pub starts_moved : (n p : ℕ) (cs : List Sequence) → starts (n + p) cs ≡ map (λ i. n + offset_of i) (items_from F p cs)
  starts_moved n p [] = refl
  starts_moved n p (c ∷ cs) =
      rw (offset_of_lem (n + p) c, offset_of_lem p c, add_assoc n p (size c), starts_moved n (p + size c) cs)

  -- the cells
  pub value-at : (p : ℕ) (cs : List Sequence) (i : ℕ) → i < length cs → get_or (values p cs) i 0 ≡ shown (content F (get_or cs i none-there))
  value-at p [] i h = absurd (not-suc-le-zero h)
  value-at p (c ∷ cs) zero h = value_of_lem (content F c) (span p (size c))
  value-at p (c ∷ cs) (suc i) h = value-at (p + size c) cs i (le_of_suc-le-suc h)

  pub start-at : (p : ℕ) (cs : List Sequence) (i : ℕ) → i < length cs → get_or (starts p cs) i 0 ≡ p + length (joined (take i cs))
  start-at p [] i h = absurd (not-suc-le-zero h)
  start-at p (c ∷ cs) zero h = offset_of_lem p c ∙ sym (add-zero p)
  start-at p (c ∷ cs) (suc i) h =
      start-at (p + size c) cs i (le_of_suc-le-suc h) ∙ omega (arith, length-append (units c) (joined (take i cs)))

-- the text around a sequence
pub joined_split : (cs : List Sequence) (i : ℕ) → i < length cs → joined cs ≡ joined (take i cs) ++ (units (get_or cs i none-there) ++ joined (drop (suc i) cs))
joined_split [] i h = absurd (not-suc-le-zero h)
joined_split (c ∷ cs) zero h = refl
joined_split (c ∷ cs) (suc i) h =
    ap (λ (x : List ℕ). units c ++ x) (joined_split cs i (le_of_suc-le-suc h))
    ∙ sym (append_assoc (units c) (joined (take i cs)) (units (get_or cs i none-there) ++ joined (drop (suc i) cs)))

-- a later one starts behind it
pub joined_next : (cs : List Sequence) (i j : ℕ) → i < j → j < length cs → length (joined (take i cs)) + size (get_or cs i none-there) ≤ length (joined (take j cs))
joined_next [] i j h k = absurd (not-suc-le-zero k)
joined_next (c ∷ cs) i zero h k = absurd (not-suc-le-zero h)
joined_next (c ∷ cs) zero (suc j) h k = omega (arith, length-append (units c) (joined (take j cs)))
joined_next (c ∷ cs) (suc i) (suc j) h k =
    omega (arith, length-append (units c) (joined (take i cs)), length-append (units c) (joined (take j cs)), joined_next cs i j (le_of_suc-le-suc h) (le_of_suc-le-suc k))

-- the sequence that has the unit at p
pub record Has (cs : List Sequence) (p : ℕ) : Type 0 where
  pub at : ℕ
  pub inside : at < length cs
  pub from : length (joined (take at cs)) ≤ p
  pub to : p < length (joined (take at cs)) + size (get_or cs at none-there)

pub has : (cs : List Sequence) (p : ℕ) → p < length (joined cs) → Has cs p
has [] p h = absurd (not-suc-le-zero h)
has (c ∷ cs) p h = go (dec_lt p (size c)) (has cs (p - size c))
  where
    go : Dec (p < size c) → (p - size c < length (joined cs) → Has cs (p - size c)) → Has (c ∷ cs) p
    go (yes l) f = record { at = 0; inside = omega arith; from = omega arith; to = omega arith }
    go (no n) f =
        let r = f (omega (arith, length-append (units c) (joined cs))) in
        record {
          at = suc r.at;
          inside = omega (arith, r.inside);
          from = omega (arith, length-append (units c) (joined (take r.at cs)), r.from);
          to = omega (arith, length-append (units c) (joined (take r.at cs)), r.to);
        }
