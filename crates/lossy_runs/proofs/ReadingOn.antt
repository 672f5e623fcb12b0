-- Items read in one step: how steps are made of items and of blocks, and put together.
use Prim.Native.Nat.{ℕ, zero, suc, ◌+◌, ◌≤◌, ◌<◌}
use mathlib.Core.Path.{◌≡◌, refl, sym, ap, ◌∙◌}
use mathlib.Core.List.{List, [], ◌∷◌, ◌++◌, map, map-append, append_assoc}
use native.Mathlib.Omega.{arith}
use native.Mathlib.Nat.{add-zero}
use native.Mathlib.Numerals.{add-one}
use lib.ListN.{length, get_or, take, drop, set, length-append, length-map, length-set, take-append-drop}
use lib.Seq.{drop-cons, set_at, append_snoc, length-take-le, take_all, take-suc-set, paste}
use Rattle.types.specs.declared.Span.{Span}
use Rattle.types.specs.declared.Item.{Item}
use Rattle.types.specs.declared.Item.TheVariants.{Character}
use Rattle.forms.specs.Form.{Form, size, span, span_of}
use Rattle.forms.specs.Buffer.{with_units}
use Rattle.forms.specs.Lossy.{value_of, offset_of}
use Rattle.laws.proofs.Items.{items_onward, sequence_at, items_step, length_at}
use Rattle.laws.proofs.ReadItems.{ItemAt, item-onward}
use Rattle.laws.proofs.Marks.{marks-append}
use Rattle.laws.proofs.Progress.{CharacterAt}
use Rattle.laws.proofs.Buffers.{copy_begin, copy_more, copy_end, length_with}
use Rattle.lossy_runs.specs.ReadOn.{Room, Between, ReadOn, Singles, offsets_from}

-- the first j units of a block of 16 copied over d from n on
pub record Copied (d : List ℕ) (n : ℕ) (b : List ℕ) (j : ℕ) (o : List ℕ) : Type 0 where
  pub most : j ≤ 16
  pub cells : o ≡ paste d n b j
  pub long : length o ≡ length d

pub copied_none : {d b : List ℕ} {n : ℕ} → Copied d n b 0 d
copied_none {d} {b} {n} = record { most = omega arith; cells = copy_begin d n b; long = refl }

module _ {d b o : List ℕ} {n j : ℕ} where
  pub copied_more : {v : ℕ} → Copied d n b j o → n + 16 ≤ length d → length b ≡ 16 → j < 16 → v ≡ get_or b j 0 → Copied d n b (j + 1) (set o (n + j) v)
  copied_more {v} c h l i e =
      record {
        most = omega arith;
        cells = ap (set o (n + j)) e ∙ copy_more d n b j o c.cells (omega arith) (omega arith);
        long = length-set o (n + j) v ∙ c.long;
      }

  pub copied_all : Copied d n b j o → length b ≡ 16 → 16 ≤ j → o ≡ with_units d n b
  copied_all c l h =
      let t : take 16 b ≡ b = take_all 16 b (omega arith) in
      c.cells ∙ copy_end d n b 16 j (omega (arith, c.most)) (omega arith) ∙ ap (with_units d n) t

-- one cell more at the front
pub fill : (xs d : List ℕ) (n a : ℕ) → length xs ≡ n → n < length d → set (xs ++ drop n d) n a ≡ (xs ++ (a ∷ [])) ++ drop (n + 1) d
fill xs d n a e h =
    ap (λ (x : List ℕ). set (xs ++ x) n a) (drop-cons d n 0 h ∙ ap {B = List ℕ} (λ (k : ℕ). get_or d n 0 ∷ drop k d) (sym (add-one n)))
    ∙ set_at xs (get_or d n 0) (drop (n + 1) d) a n e
    ∙ sym (append_snoc xs a (drop (n + 1) d))

-- one unit more behind those put in from c on
put_more :
    (d xs o : List ℕ) (c b v : ℕ) → o ≡ with_units d c xs → b ≡ c + length xs → b < length d → set o b v ≡ with_units d c (xs ++ (v ∷ []))
put_more d xs o c b v e f h =
    let k : length (take c d) ≡ c = length-take-le c d (omega arith) in
    let l : length (take c d ++ xs) ≡ b = omega (arith, length-append (take c d) xs, k) in
    let m : b + 1 ≡ c + length (xs ++ (v ∷ [])) = omega (arith, length-append xs (v ∷ [])) in
    let g : o ≡ (take c d ++ xs) ++ drop b d = e ∙ ap (λ (n : ℕ). take c d ++ (xs ++ drop n d)) (sym f) ∙ sym (append_assoc (take c d) xs (drop b d)) in
    ap (λ (y : List ℕ). set y b v) g
    ∙ fill (take c d ++ xs) d b v l h
    ∙ rw (append_assoc (take c d) xs (v ∷ []), append_assoc (take c d) (xs ++ (v ∷ [])) (drop (b + 1) d), m)

put-none : (d : List ℕ) (c : ℕ) → d ≡ with_units d c []
put-none d c = rw (add-zero c) (sym (take-append-drop c d))

pub offsets_at : (at k j : ℕ) → j < k → get_or (offsets_from at k) j 0 ≡ at + j
offsets_at at zero j h = absurd (let z : ◌≡◌ {A = ℕ} 0 1 = omega arith in omega arith)
offsets_at at (suc k) zero h = sym (add-zero at)
offsets_at at (suc k) (suc j) h = offsets_at (suc at) k j (omega arith) ∙ omega arith

pub offsets_length : (at k : ℕ) → length (offsets_from at k) ≡ k
offsets_length at zero = refl
offsets_length at (suc k) = ap suc (offsets_length (suc at) k)

offsets_more : (at k : ℕ) → offsets_from at (suc k) ≡ offsets_from at k ++ ((at + k) ∷ [])
offsets_more at zero = rw (add-zero at)
offsets_more at (suc k) =
    ap {B = List ℕ} (λ (x : List ℕ). at ∷ x) (offsets_more (suc at) k ∙ ap {B = List ℕ} (λ (n : ℕ). offsets_from (suc at) k ++ (n ∷ [])) (omega arith))

-- a loop that loads a block of 16 of them, where a test comes out right
pub record Loading (F : Form) (s : List ℕ) (at j : ℕ) (b : List ℕ) (Right : Type 0) : Type 0 where
  pub most : j ≤ 16
  pub long : length b ≡ 16
  pub singles : Right → Singles F s at j b

module _ {F : Form} {s : List ℕ} where
  between_none : {at : ℕ} → at ≤ length s → Between F s at at []
  between_none h = record { inside = h; onward = refl; few = omega arith }

  between_join : {at mid to : ℕ} {a b : List Item} → Between F s at mid a → Between F s mid to b → Between F s at to (a ++ b)
  between_join {at} {mid} {to} {a} {b} x y =
      record {
        inside = y.inside;
        onward = x.onward ∙ ap (λ (z : List Item). a ++ z) y.onward ∙ sym (append_assoc a b (items_onward F s to));
        few = omega (arith, x.few, y.few, length-append a b);
      }

  between_item : {p : ℕ} {i : Item} {q : Span} → ItemAt F s p i q → Between F s p (p + q.length) (i ∷ [])
  between_item {p} {i} {q} c =
      let e : q.length ≡ size (sequence_at F s p) = ap (λ (x : Span). x.length) (c.spans ∙ ap span_of c.is) ∙ length_at F s p c.inside in
      record {
        inside = (item-onward c).1;
        onward = items_step F s p c.inside ∙ rw (c.is, e);
        few = omega (arith, (item-onward c).0);
      }

  pub character-item : {p v : ℕ} {q : Span} → CharacterAt F s p v q → ItemAt F s p (Character v q) q
  character-item c = record { inside = c.inside; is = c.is; spans = refl }

  module _ {at c m n : ℕ} where
    pub room-on : {to : ℕ} {done : List Item} → Room F s at c m n → Between F s at to done → (c + length done ≤ m) × (c + length done ≤ n) × Room F s to (c + length done) m n
    room-on {to} {done} r x =
        let l : length (items_onward F s at) ≡ length done + length (items_onward F s to) = ap length x.onward ∙ length-append done (items_onward F s to) in
        let v = r.values in
        let w = r.starts in
        (omega arith, omega arith, record { short = r.short; within = x.inside; values = omega arith; starts = omega arith })

  module _ {at to c b : ℕ} {d e o p : List ℕ} where
    -- the buffers keep room for what is left
    pub read-room : Room F s at c (length d) (length e) → ReadOn F s at to d e c b o p → Room F s to b (length o) (length p)
    read-room r x = rw (x.counted, x.same-values, x.same-starts) (room-on r x.read).2

    -- the next cells are there
    pub read_next : {i : Item} {q : Span} → Room F s at c (length d) (length e) → ReadOn F s at to d e c b o p → ItemAt F s to i q → (b < length o) × (b < length p)
    read_next {i} {q} r x y =
        let z = room-on (read-room r x) (between_item y) in
        (omega arith, omega arith)

    pub read-character :
        {v l : ℕ} → Room F s at c (length d) (length e) → ReadOn F s at to d e c b o p → CharacterAt F s to v (span to l)
        → ReadOn F s at (to + l) d e c (b + 1) (set o b v) (set p b to)
    read-character {v} {l} r x y =
        let i = Character v (span to l) in
        let z = read_next r x (character-item y) in
        record {
          done = x.done ++ (i ∷ []);
          read = between_join x.read (between_item (character-item y));
          counted = omega (arith, x.counted, length-append x.done (i ∷ []));
          unmarked = omega (arith, x.unmarked, marks-append x.done (i ∷ []));
          values =
              put_more d (map value_of x.done) o c b v x.values (omega (arith, x.counted, length-map x.done value_of)) (omega (arith, z.0, x.same-values))
              ∙ ap (with_units d c) (sym (map-append value_of x.done (i ∷ [])));
          starts =
              put_more e (map offset_of x.done) p c b to x.starts (omega (arith, x.counted, length-map x.done offset_of)) (omega (arith, z.1, x.same-starts))
              ∙ ap (with_units e c) (sym (map-append offset_of x.done (i ∷ [])));
          same-values = length-set o b v ∙ x.same-values;
          same-starts = length-set p b to ∙ x.same-starts;
        }

  pub read_none : {at c : ℕ} {d e : List ℕ} → at ≤ length s → ReadOn F s at at d e c c d e
  read_none {at} {c} {d} {e} h =
      record {
        done = [];
        read = between_none h;
        counted = sym (add-zero c);
        unmarked = refl;
        values = put-none d c;
        starts = put-none e c;
        same-values = refl;
        same-starts = refl;
      }

  -- where no unit was read, nothing was
  pub read_nothing : {at to c b : ℕ} {d e o p : List ℕ} → ReadOn F s at to d e c b o p → to ≡ at → (o ≡ d) × (p ≡ e)
  read_nothing {at} {to} {c} {b} {d} {e} {o} {p} x z = go x.done (omega (arith, x.read.few)) x.values x.starts
    where
      go : (done : List Item) → length done ≡ 0 → o ≡ with_units d c (map value_of done) → p ≡ with_units e c (map offset_of done) → (o ≡ d) × (p ≡ e)
      go [] l v w = (v ∙ sym (put-none d c), w ∙ sym (put-none e c))
      go (i ∷ is) l v w = absurd (let y : ◌≡◌ {A = ℕ} 0 1 = omega arith in omega arith)

  -- a step behind one that read nothing
  pub read-after :
      {at mid to c b a : ℕ} {d e o p v w : List ℕ} → ReadOn F s at mid d e c b o p → mid ≡ at → ReadOn F s at to o p c a v w → ReadOn F s at to d e c a v w
  read-after x z y = let q = read_nothing x z in rw (q.0, q.1) at y

  singles_none : {at : ℕ} {b : List ℕ} → at ≤ length s → Singles F s at 0 b
  singles_none {at} {b} h = record { done = []; read = rw (add-zero at) (between_none h); counted = refl; values = refl; starts = refl; unmarked = refl }

  singles_more :
      {at k v : ℕ} {b : List ℕ} → Singles F s at k b → CharacterAt F s (at + k) v (span (at + k) 1) → k < length b → Singles F s at (k + 1) (set b k v)
  singles_more {at} {k} {v} {b} x y h =
      let i = Character v (span (at + k) 1) in
      let z : at + k + 1 ≡ at + (k + 1) = omega arith in
      record {
        done = x.done ++ (i ∷ []);
        read = rw z at (between_join x.read (between_item (character-item y)));
        counted = omega (arith, x.counted, length-append x.done (i ∷ []));
        values = map-append value_of x.done (i ∷ []) ∙ rw (x.values, add-one k) (sym (take-suc-set b k v h));
        starts = map-append offset_of x.done (i ∷ []) ∙ rw (x.starts, add-one k) (sym (offsets_more at k));
        unmarked = omega (arith, x.unmarked, marks-append x.done (i ∷ []));
      }

  pub loading_none : {at : ℕ} {b : List ℕ} {R : Type 0} → at ≤ length s → length b ≡ 16 → Loading F s at 0 b R
  loading_none h l = record { most = omega arith; long = l; singles = λ _. singles_none h }

  pub loading_more :
      {at j v : ℕ} {b : List ℕ} {R Q : Type 0} → Loading F s at j b R → j < 16 → (Q → R) → (Q → CharacterAt F s (at + j) v (span (at + j) 1)) → Loading F s at (j + 1) (set b j v) Q
  loading_more {at} {j} {v} {b} x h f g =
      record {
        most = omega arith;
        long = length-set b j v ∙ x.long;
        singles = λ q. singles_more (x.singles (f q)) (g q) (omega (arith, x.long));
      }

  pub loading_all : {at j : ℕ} {b : List ℕ} {R : Type 0} → Loading F s at j b R → 16 ≤ j → R → Singles F s at 16 b
  loading_all {at} {j} {b} x h r = let e : j ≡ 16 = omega (arith, x.most) in rw e at (x.singles r)

  module _ {at c k : ℕ} {b : List ℕ} where
    pub block_room : {x y : ℕ} → Room F s at c x y → Singles F s at k b → (c + k ≤ x) × (c + k ≤ y)
    block_room r u =
        let z = room-on r u.read in
        (omega (arith, z.0, u.counted), omega (arith, z.1, u.counted))

    -- a block of them copied
    pub read_block :
        {d e o p : List ℕ} → Room F s at c (length d) (length e) → Singles F s at k b → length b ≡ k → o ≡ with_units d c b → p ≡ with_units e c (offsets_from at k)
        → ReadOn F s at (at + k) d e c (c + k) o p
    read_block {d} {e} {o} {p} r x l v w =
        let z = block_room r x in
        let t : take k b ≡ b = take_all k b (omega arith) in
        record {
          done = x.done;
          read = x.read;
          counted = omega (arith, x.counted);
          unmarked = x.unmarked;
          values = v ∙ ap (with_units d c) (sym (x.values ∙ t));
          starts = w ∙ ap (with_units e c) (sym x.starts);
          same-values = length_with d b o c v (omega (arith, z.0));
          same-starts = length_with e (offsets_from at k) p c w (omega (arith, z.1, offsets_length at k));
        }
