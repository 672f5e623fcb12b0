-- A loop that reads a text item by item: the items read so far, and those from the offset on.
use Prim.Native.Nat.{ℕ, ◌+◌, ◌≤◌, ◌<◌}
use mathlib.Core.Path.{◌≡◌, refl, sym, ap, ◌∙◌}
use mathlib.Core.List.{List, [], ◌∷◌, ◌++◌, append_assoc, append-nil}
use native.Mathlib.Omega.{arith}
use lib.ListN.{length, length-append}
use Rattle.types.specs.declared.Span.{Span}
use Rattle.types.specs.declared.Item.{Item}
use Rattle.forms.specs.Form.{Form, size, span_of, item_of, items}
use Rattle.laws.proofs.Items.{items_onward, sequence_at, items-end, items_step, length_at, offset_at, within-at}

-- the item i with the span q stands at p, inside the text
pub record ItemAt (F : Form) (s : List ℕ) (p : ℕ) (i : Item) (q : Span) : Type 0 where
  pub inside : p < length s
  pub is : i ≡ item_of F p (sequence_at F s p)
  pub spans : q ≡ span_of i

-- the items before `at` are `done`
pub record ReadTo (F : Form) (s : List ℕ) (at : ℕ) (done : List Item) : Type 0 where
  pub within : at ≤ length s
  pub whole : items F s ≡ done ++ items_onward F s at
  pub few : length done ≤ at

module _ {F : Form} {s : List ℕ} {p : ℕ} {i : Item} {q : Span} where
  pub item-at : p < length s → i ≡ item_of F p (sequence_at F s p) → q ≡ span_of i → ItemAt F s p i q
  item-at h k e = record { inside = h; is = k; spans = e }

  long : ItemAt F s p i q → q.length ≡ size (sequence_at F s p)
  long c = ap (λ (x : Span). x.length) (c.spans ∙ ap span_of c.is) ∙ length_at F s p c.inside

  pub item-onward : ItemAt F s p i q → (1 ≤ q.length) × (p + q.length ≤ length s)
  item-onward c = let e = long c in (omega arith, omega (arith, within-at F s p c.inside))

  pub item-offset : ItemAt F s p i q → (span_of i).offset ≡ p
  item-offset c = ap (λ (x : Item). (span_of x).offset) c.is ∙ offset_at F s p c.inside

  onward : ItemAt F s p i q → items_onward F s p ≡ i ∷ items_onward F s (p + q.length)
  onward c = items_step F s p c.inside ∙ rw (c.is, long c)

  pub read_more : {done : List Item} → ReadTo F s p done → ItemAt F s p i q → ReadTo F s (p + q.length) (done ++ (i ∷ []))
  read_more {done} r c =
      record {
        within = (item-onward c).1;
        whole = r.whole ∙ ap (λ (x : List Item). done ++ x) (onward c) ∙ sym (append_assoc done (i ∷ []) (items_onward F s (p + q.length)));
        few = omega (arith, r.few, item-onward c, length-append done (i ∷ []));
      }

  -- one more is still to come
  pub read_next : {done : List Item} → ReadTo F s p done → ItemAt F s p i q → length done < length (items F s)
  read_next {done} r c =
      omega (arith, ap length (r.whole ∙ ap (λ (x : List Item). done ++ x) (onward c)), length-append done (i ∷ items_onward F s (p + q.length)))

pub read_begin : (F : Form) (s : List ℕ) → ReadTo F s 0 []
read_begin F s = record { within = omega arith; whole = refl; few = omega arith }

pub read-end : {F : Form} {s : List ℕ} {at : ℕ} {done : List Item} → ReadTo F s at done → length s ≤ at → items F s ≡ done
read-end {F} {s} {at} {done} r h = r.whole ∙ ap (λ (x : List Item). done ++ x) (items-end F s at h) ∙ append-nil done
