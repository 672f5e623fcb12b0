-- The loops of a lossy decoding: the two buffers filled item by item and step by step.
use Prim.Native.Nat.{ℕ, ◌+◌, ◌≤◌, ◌<◌}
use mathlib.Core.Path.{◌≡◌, refl, sym, ap, ◌∙◌}
use mathlib.Core.Bool.{Bool, true, false, ◌&&◌}
use mathlib.Core.List.{List, [], ◌∷◌, ◌++◌, map, map-append, append_assoc}
use native.Mathlib.Omega.{arith}
use native.Mathlib.Nat.{add-zero}
use borrow.Author.Tests.{leb-true, leb-false}
use lib.Dec.{leb}
use lib.ListN.{length, drop, set, length-append, length-map, length-set}
use Rattle.types.specs.declared.Fault.TheVariants.{SourceTooLong, BufferTooShort}
use Rattle.types.specs.declared.Span.{Span}
use Rattle.types.specs.declared.Item.{Item}
use Rattle.types.specs.declared.Refusal.{Refusal}
use Rattle.forms.specs.Fault.{limit, refusal}
use Rattle.forms.specs.Buffer.{with_units}
use Rattle.forms.specs.Form.{Form, items}
use Rattle.forms.specs.Lossy.{value_of, offset_of, mark_count, marks, Outcome, decoded, refused, lossy, counts, answer_of, values_in, starts_in}
use Rattle.demand3.specs.Demand3.{DecodesLossy}
use Rattle.laws.proofs.FormLaws.{Laws}
use Rattle.laws.proofs.Buffers.{holds_more}
use Rattle.laws.proofs.Items.{items_onward}
use Rattle.laws.proofs.Marks.{mark-most, marks-append}
use Rattle.laws.proofs.ReadItems.{ItemAt, ReadTo, read_begin, read_more, read_next, read-end, item-offset}
use Rattle.laws.proofs.Table.{and_left, and_right}
use Rattle.lossy_runs.specs.ReadOn.{Room, ReadOn}
use Rattle.lossy_runs.proofs.ReadingOn.{fill, read_nothing}
use Rattle.demand3.proofs.LossyCalls.{lossy-over, lossy-short-values, lossy-short-starts, lossy-all, promise}
use Rattle.std.specs.Prelude.{Ok, Err}

-- the items before `at` stand in both buffers, and there is room for all
pub record Filling (F : Form) (s d e : List ℕ) (at n m : ℕ) (o p : List ℕ) : Type 0 where
  pub done : List Item
  pub read : ReadTo F s at done
  pub counted : n ≡ length done
  pub marked : m ≡ marks done
  pub fewer : m ≤ n
  pub values : o ≡ map value_of done ++ drop n d
  pub starts : p ≡ map offset_of done ++ drop n e
  pub same-values : length o ≡ length d
  pub same-starts : length p ≡ length e
  pub short : length s ≤ limit
  pub room-values : length (items F s) ≤ length d
  pub room-starts : length (items F s) ≤ length e

-- units put in behind those at the front
holding :
    (d xs ys o v : List ℕ) (n b : ℕ) → o ≡ xs ++ drop n d → length xs ≡ n → v ≡ with_units o n ys → b ≡ n + length ys → v ≡ (xs ++ ys) ++ drop b d
holding d xs ys o v n b e h g k = let m = holds_more d xs ys o v n b (record { counted = sym h; cells = e }) k g in m.cells

module _ {F : Form} {s d e : List ℕ} where
  module _ {r : Refusal} (laws : Laws F) where
    refusing : (q : Refusal) → lossy F s (length d) (length e) ≡ refused q → r ≡ q → DecodesLossy F s d e (Err r) d e
    refusing q x z =
        promise F laws s d e (Err r) d e (ap Err z ∙ sym (ap answer_of x)) (sym (ap (λ (y : Outcome). values_in y d) x)) (sym (ap (λ (y : Outcome). starts_in y e) x))

    pub filling_over : r ≡ refusal SourceTooLong 0 → limit < length s → DecodesLossy F s d e (Err r) d e
    filling_over z h = refusing (refusal SourceTooLong 0) (lossy-over F s (length d) (length e) h) z

    pub filling_short :
        {b : Bool} → r ≡ refusal BufferTooShort 0 → length s ≤ limit → b ≡ (leb (length (items F s)) (length d) && leb (length (items F s)) (length e)) → b ≡ false
        → DecodesLossy F s d e (Err r) d e
    filling_short z h c l = go (leb (length (items F s)) (length d)) refl (leb (length (items F s)) (length e)) refl (sym c ∙ l)
      where
        go :
            (x : Bool) → leb (length (items F s)) (length d) ≡ x → (y : Bool) → leb (length (items F s)) (length e) ≡ y → (x && y) ≡ false
            → DecodesLossy F s d e (Err r) d e
        go false f y g n = refusing (refusal BufferTooShort 0) (lossy-short-values F s (length d) (length e) h (leb-false _ _ f)) z
        go true f false g n = refusing (refusal BufferTooShort 0) (lossy-short-starts F s (length d) (length e) h (leb-false _ _ g)) z
        go true f true g n = absurd (let t : ◌≡◌ {A = ℕ} 0 1 = cc in omega arith)

  pub filling_begin :
      {b : Bool} → length s ≤ limit → b ≡ (leb (length (items F s)) (length d) && leb (length (items F s)) (length e)) → b ≡ true → Filling F s d e 0 0 0 d e
  filling_begin h c l =
      let t = sym c ∙ l in
      let k = leb-true _ _ (and_left (leb (length (items F s)) (length d)) (leb (length (items F s)) (length e)) t) in
      let m = leb-true _ _ (and_right (leb (length (items F s)) (length d)) (leb (length (items F s)) (length e)) t) in
      record {
        done = [];
        read = read_begin F s;
        counted = refl;
        marked = refl;
        fewer = omega arith;
        values = refl;
        starts = refl;
        same-values = refl;
        same-starts = refl;
        short = h;
        room-values = k;
        room-starts = m;
      }

  module _ {at n m : ℕ} {o p : List ℕ} where
    pub filling_end : Laws F → Filling F s d e at n m o p → length s ≤ at → DecodesLossy F s d e (Ok (counts n m)) o p
    filling_end laws f h =
        let is = read-end f.read h in
        let x = lossy-all F s (length d) (length e) f.short f.room-values f.room-starts ∙ ap decoded is in
        promise F laws s d e (Ok (counts n m)) o p
        (ap (λ (c : ℕ). Ok (counts c m)) f.counted ∙ ap (λ (c : ℕ). Ok (counts (length f.done) c)) f.marked ∙ sym (ap answer_of x))
        (f.values ∙ ap (λ (c : ℕ). map value_of f.done ++ drop c d) f.counted ∙ sym (ap (λ (y : Outcome). values_in y d) x))
        (f.starts ∙ ap (λ (c : ℕ). map offset_of f.done ++ drop c e) f.counted ∙ sym (ap (λ (y : Outcome). starts_in y e) x))

    module _ {i : Item} {q : Span} where
      -- the next cells are there
      pub filling_next : Filling F s d e at n m o p → ItemAt F s at i q → (n < length o) × (n < length p)
      filling_next f c =
          (omega (arith, read_next f.read c, f.counted, f.room-values, f.same-values), omega (arith, read_next f.read c, f.counted, f.room-starts, f.same-starts))

      pub filling_more :
          {v k : ℕ} → Filling F s d e at n m o p → ItemAt F s at i q → v ≡ value_of i → k ≡ mark_count i
          → Filling F s d e (at + q.length) (n + 1) (m + k) (set o n v) (set p n at)
      filling_more {v} {k} f c x y =
          let h = filling_next f c in
          record {
            done = f.done ++ (i ∷ []);
            read = read_more f.read c;
            counted = omega (arith, f.counted, length-append f.done (i ∷ []));
            marked = ap (λ (z : ℕ). z + k) f.marked ∙ rw y (sym (marks-append f.done (i ∷ []) ∙ ap (λ (z : ℕ). marks f.done + z) (add-zero (mark_count i))));
            fewer = omega (arith, f.fewer, mark-most i, y);
            values =
                ap (λ (z : List ℕ). set z n v) f.values
                ∙ fill (map value_of f.done) d n v (length-map f.done value_of ∙ sym f.counted) (omega (arith, h.0, f.same-values))
                ∙ ap (λ (z : List ℕ). z ++ drop (n + 1) d) (ap (λ (z : ℕ). map value_of f.done ++ (z ∷ [])) x ∙ sym (map-append value_of f.done (i ∷ [])));
            starts =
                ap (λ (z : List ℕ). set z n at) f.starts
                ∙ fill (map offset_of f.done) e n at (length-map f.done offset_of ∙ sym f.counted) (omega (arith, h.1, f.same-starts))
                ∙ ap (λ (z : List ℕ). z ++ drop (n + 1) e) (ap (λ (z : ℕ). map offset_of f.done ++ (z ∷ [])) (sym (item-offset c)) ∙ sym (map-append offset_of f.done (i ∷ [])));
            same-values = length-set o n v ∙ f.same-values;
            same-starts = length-set p n at ∙ f.same-starts;
            short = f.short;
            room-values = f.room-values;
            room-starts = f.room-starts;
          }

    -- the next items have room
    pub filling_room : Filling F s d e at n m o p → Room F s at n (length o) (length p)
    filling_room f =
        let l = ap length f.read.whole ∙ length-append f.done (items_onward F s at) in
        record {
          short = f.short;
          within = f.read.within;
          values = omega (arith, l, f.counted, f.room-values, f.same-values);
          starts = omega (arith, l, f.counted, f.room-starts, f.same-starts);
        }

    -- many items in one step
    pub filling_run : {to b : ℕ} {v w : List ℕ} → Filling F s d e at n m o p → ReadOn F s at to o p n b v w → Filling F s d e to b m v w
    filling_run {to} {b} {v} {w} f x =
        record {
          done = f.done ++ x.done;
          read =
              record {
                within = x.read.inside;
                whole = f.read.whole ∙ ap (λ (z : List Item). f.done ++ z) x.read.onward ∙ sym (append_assoc f.done x.done (items_onward F s to));
                few = omega (arith, f.read.few, x.read.few, length-append f.done x.done);
              };
          counted = omega (arith, f.counted, x.counted, length-append f.done x.done);
          marked = omega (arith, f.marked, x.unmarked, marks-append f.done x.done);
          fewer = omega (arith, f.fewer, x.counted);
          values = holding d (map value_of f.done) (map value_of x.done) o v n b f.values (omega (arith, f.counted, length-map f.done value_of)) x.values (omega (arith, x.counted, length-map x.done value_of))
              ∙ ap (λ (z : List ℕ). z ++ drop b d) (sym (map-append value_of f.done x.done));
          starts = holding e (map offset_of f.done) (map offset_of x.done) p w n b f.starts (omega (arith, f.counted, length-map f.done offset_of)) x.starts (omega (arith, x.counted, length-map x.done offset_of))
              ∙ ap (λ (z : List ℕ). z ++ drop b e) (sym (map-append offset_of f.done x.done));
          same-values = x.same-values ∙ f.same-values;
          same-starts = x.same-starts ∙ f.same-starts;
          short = f.short;
          room-values = f.room-values;
          room-starts = f.room-starts;
        }

    pub filling_none : {to b : ℕ} {v w : List ℕ} → Filling F s d e at n m o p → ReadOn F s at to o p n b v w → to ≡ at → Filling F s d e at n m v w
    filling_none {to} {b} {v} {w} f x z = let q = read_nothing x z in rw (q.0, q.1) f
