-- Many values at once: their encodings put into a buffer one behind the other, sums over them, and runs that a loop writes.
use Prim.Native.Nat.{ℕ, zero, suc, ◌+◌, ◌-◌, ◌≤◌, ◌<◌}
use mathlib.Core.Path.{◌≡◌, refl, sym, ap, ◌∙◌}
use mathlib.Core.Logic.{◌≢◌}
use mathlib.Core.Bool.{Bool, true, false, ◌&&◌, ◌||◌}
use mathlib.Core.List.{List, [], ◌∷◌, ◌++◌, append_assoc, append-nil}
use native.Mathlib.Omega.{arith}
use native.Mathlib.Nat.{add-zero, add_assoc}
use native.Mathlib.Numerals.{add-one}
use lib.Dec.{leb}
use lib.ListN.{length, get_or, set, take, drop, length-append, length-drop}
use lib.Seq.{length-take-le, drop-drop, drop-cons, take-add, get_or-drop, paste}
use borrow.Author.Tests.{leb-true}
use borrow.Author.Count.{below_none, below_more}
use Rattle.forms.specs.Form.{Form, encode, encode_all, span}
use Rattle.forms.specs.Buffer.{with_units}
use Rattle.laws.proofs.Blocks.{AtLeast}
use Rattle.laws.proofs.Table.{and_left, and_right}
use Rattle.laws.proofs.Buffers.{with_none, with_one, with_join, length_with, copy_begin, copy_more, copy_length, copy_end}
use Rattle.laws.proofs.Progress.{CharacterAt}
use Rattle.laws.proofs.Runs.{Run, Wrote, Convertible, run_none, run_one, run_join, convertible_run, convertible_character, sum, sum_zero, sum_more}

-- the n units from `at` on
abbrev pub part : List ℕ → ℕ → ℕ → List ℕ
part s at n = take n (drop at s)

pub part_join : (s : List ℕ) (at k l : ℕ) → part s at (k + l) ≡ part s at k ++ part s (at + k) l
part_join s at k l = take-add k l (drop at s) ∙ ap (λ (x : List ℕ). part s at k ++ take l x) (drop-drop k at s)

pub part_one : (s : List ℕ) (at : ℕ) → at < length s → part s at 1 ≡ get_or s at 0 ∷ []
part_one s at h = rw (drop-cons s at 0 h)

module _ (G : Form) where
  pub encode-all-append : (a b : List ℕ) → encode_all G (a ++ b) ≡ encode_all G a ++ encode_all G b
  encode-all-append [] b = refl
  encode-all-append (v ∷ a) b = ap (λ (x : List ℕ). encode G v ++ x) (encode-all-append a b) ∙ sym (append_assoc (encode G v) (encode_all G a) (encode_all G b))

  pub encode-all-one : (v : ℕ) → encode_all G (v ∷ []) ≡ encode G v
  encode-all-one v = append-nil (encode G v)

  pub encode-all_join : (s : List ℕ) (at k l : ℕ) → encode_all G (part s at (k + l)) ≡ encode_all G (part s at k) ++ encode_all G (part s (at + k) l)
  encode-all_join s at k l = ap (encode_all G) (part_join s at k l) ∙ encode-all-append (part s at k) (part s (at + k) l)

-- each of the k values from `at` on has an encoding
pub record Encodable (G : Form) (s : List ℕ) (at k : ℕ) : Type 0 where
  pub inside : at + k ≤ length s
  pub each : (j : ℕ) → j < k → encode G (get_or s (at + j) 0) ≢ []

-- their encodings were put into the buffer d from n on, up to u
pub record Encoded (G : Form) (s : List ℕ) (at k : ℕ) (d : List ℕ) (n u : ℕ) (o : List ℕ) : Type 0 where
  pub counted : u ≡ n + length (encode_all G (part s at k))
  pub cells : o ≡ with_units d n (encode_all G (part s at k))

-- they have room there
pub record Room (G : Form) (s : List ℕ) (at k n m : ℕ) : Type 0 where
  pub fits : n + length (encode_all G (part s at k)) ≤ m

parts : (G : Form) (s : List ℕ) (at k c : ℕ) → k ≤ c → length (encode_all G (part s at c)) ≡ length (encode_all G (part s at k)) + length (encode_all G (part s (at + k) (c - k)))
parts G s at k c h =
    let q : c ≡ k + (c - k) = omega arith in
    ap (λ (x : ℕ). length (encode_all G (part s at x))) q
    ∙ ap length (encode-all_join G s at k (c - k))
    ∙ length-append (encode_all G (part s at k)) (encode_all G (part s (at + k) (c - k)))

module _ {G : Form} {s : List ℕ} where
  pub encoded_none : {at n : ℕ} {d : List ℕ} → Encoded G s at 0 d n n d
  encoded_none {at} {n} {d} = record { counted = sym (add-zero n); cells = with_none d n }

  pub encoded_start : {at n : ℕ} {d : List ℕ} → Encoded G s at 0 d n (n + 0) d
  encoded_start {at} {n} {d} = record { counted = refl; cells = with_none d n }

  -- one value
  pub encoded_one :
      {at v n u : ℕ} {d o : List ℕ} → at < length s → v ≡ get_or s at 0 → u ≡ n + length (encode G v) → o ≡ with_units d n (encode G v) → Encoded G s at 1 d n u o
  encoded_one {at} {v} {n} {u} {d} {o} h e c w =
      let q : encode_all G (part s at 1) ≡ encode G v = ap (encode_all G) (part_one s at h) ∙ encode-all-one G (get_or s at 0) ∙ ap (encode G) (sym e) in
      record { counted = rw q c; cells = rw q w }

  pub encoded_length : {at k n u c : ℕ} {d o : List ℕ} → Room G s at c n (length d) → Encoded G s at k d n u o → k ≤ c → length o ≡ length d
  encoded_length {at} {k} {n} {u} {c} {d} {o} r e h = length_with d (encode_all G (part s at k)) o n e.cells (omega (arith, r.fits, parts G s at k c h))

  -- behind some of the values there is room for others
  pub encoded_room :
      {at k n u c : ℕ} {d o : List ℕ} (l : ℕ) → Room G s at c n (length d) → Encoded G s at k d n u o → k + l ≤ c → Room G s (at + k) l u (length o)
  encoded_room {at} {k} {n} {u} {c} {d} {o} l r e h =
      record {
        fits = omega (arith, r.fits, e.counted, encoded_length r e (omega arith), parts G s at k c (omega arith), parts G s (at + k) l (c - k) (omega arith));
      }

  pub value_room :
      {at k n u c : ℕ} {d o : List ℕ} → at + c ≤ length s → Room G s at c n (length d) → k < c → Encoded G s at k d n u o
      → u + length (encode G (get_or s (at + k) 0)) ≤ length o
  value_room {at} {k} {n} {u} {c} {d} {o} i r h e =
      let q : encode_all G (part s (at + k) 1) ≡ encode G (get_or s (at + k) 0) = ap (encode_all G) (part_one s (at + k) (omega arith)) ∙ encode-all-one G (get_or s (at + k) 0) in
      rw q at (encoded_room 1 r e (omega arith)).fits

  pub encoded_join :
      {at k l n u v c : ℕ} {d o p : List ℕ} → Room G s at c n (length d) → k ≤ c → Encoded G s at k d n u o → Encoded G s (at + k) l o u v p → Encoded G s at (k + l) d n v p
  encoded_join {at} {k} {l} {n} {u} {v} {c} {d} {o} {p} r h a b =
      let x = encode_all G (part s at k) in
      let y = encode_all G (part s (at + k) l) in
      let j = encode-all_join G s at k l in
      let m : n + length x ≤ length d = omega (arith, (encoded_room 0 r a (omega arith)).fits, encoded_length r a h, a.counted) in
      record {
        counted = rw (j, length-append x y) (omega (arith, a.counted, b.counted));
        cells = b.cells ∙ rw (j, a.counted, a.cells) (with_join d x y n m);
      }

  pub encodable_part : {at c : ℕ} (k l : ℕ) → Encodable G s at c → k + l ≤ c → Encodable G s (at + k) l
  encodable_part {at} {c} k l e h =
      record { inside = omega (arith, e.inside); each = λ j b. rw (add_assoc at k j) (e.each (k + j) (omega arith)) }

  -- a loop that puts in values which are their own encodings: it has room, and turns
  pub encoded_put :
      {at k n c : ℕ} {d o : List ℕ} → Room G s at c n (length d) → at + c ≤ length s → k < c → Encoded G s at k d n (n + k) o
      → encode G (get_or s (at + k) 0) ≡ get_or s (at + k) 0 ∷ [] → (n + k < length o) × Encoded G s at (k + 1) d n (n + (k + 1)) (set o (n + k) (get_or s (at + k) 0))
  encoded_put {at} {k} {n} {c} {d} {o} r i h a e =
      let l : at + k < length s = omega arith in
      let q : encode_all G (part s (at + k) 1) ≡ get_or s (at + k) 0 ∷ [] = ap (encode_all G) (part_one s (at + k) l) ∙ encode-all-one G (get_or s (at + k) 0) ∙ e in
      let b : n + k < length o = omega (arith, (encoded_room 1 r a (omega arith)).fits, ap length q) in
      let one : Encoded G s (at + k) 1 o (n + k) (n + (k + 1)) (set o (n + k) (get_or s (at + k) 0)) =
      encoded_one l refl (rw e (omega arith)) (rw e (with_one o (n + k) (get_or s (at + k) 0) b)) in
      (b, encoded_join r (omega arith) a one)

  -- the last of several blocks
  pub encoded_last :
      {at k n u v c : ℕ} {d o p : List ℕ} → Room G s at c n (length d) → k ≤ c → Encoded G s at k d n u o → Encoded G s (at + k) (c - k) o u v p → Encoded G s at c d n v p
  encoded_last {at} {k} {n} {u} {v} {c} {d} {o} {p} r h a b =
      let q : k + (c - k) ≡ c = omega arith in
      rw q at (encoded_join r h a b)

-- sums of values that are equal one by one, wherever they stand
pub sum_along : (f g : ℕ → ℕ) (x y k : ℕ) → ((i : ℕ) → i < k → f (x + i) ≡ g (y + i)) → sum f x k ≡ sum g y k
sum_along f g x y zero h = sum_zero f x ∙ sym (sum_zero g y)
sum_along f g x y (suc k) h = rw (← add-one k, sum_more f x k, sum_more g y k, sum_along f g x y k (λ i b. h i (omega arith)), h k (omega arith))

pub sum_plus : (f g : ℕ → ℕ) (at k : ℕ) → sum (λ i. f i + g i) at k ≡ sum f at k + sum g at k
sum_plus f g at zero = sum_zero (λ i. f i + g i) at ∙ sym (rw (sum_zero f at, sum_zero g at))
sum_plus f g at (suc k) =
    rw (← add-one k, sum_more (λ i. f i + g i) at k, sum_more f at k, sum_more g at k, sum_plus f g at k) (omega arith)

pub sum_ones : (at k : ℕ) → sum (λ i. 1) at k ≡ k
sum_ones at zero = sum_zero (λ i. 1) at
sum_ones at (suc k) = rw (← add-one k, sum_more (λ i. 1) at k, sum_ones at k)

pub sum_none : (f : ℕ → ℕ) (at k : ℕ) → ((i : ℕ) → i < k → f (at + i) ≡ 0) → sum f at k ≡ 0
sum_none f at zero h = sum_zero f at
sum_none f at (suc k) h = rw (← add-one k, sum_more f at k, sum_none f at k (λ i b. h i (omega arith)), h k (omega arith))

module _ {F G : Form} {s : List ℕ} where
  -- values written are a run written
  pub wrote_encoded :
      {at k from c n u : ℕ} {b d o : List ℕ} → Run F G s at k (encode_all G (part b from c)) → Encoded G b from c d n u o → Wrote F G s at k (u - n) d n o
  wrote_encoded {at} {k} {from} {c} {n} {u} {b} {d} {o} r e =
      record { out = encode_all G (part b from c); run = r; counted = omega (arith, e.counted); cells = e.cells }

-- a loop that writes a run: k units from `at` on were written from n up to `end`
pub record WrittenTo (F G : Form) (s : List ℕ) (at k : ℕ) (d : List ℕ) (n end : ℕ) (o : List ℕ) : Type 0 where
  pub out : List ℕ
  pub run : Run F G s at k out
  pub counted : end ≡ n + length out
  pub cells : o ≡ with_units d n out

module _ {F G : Form} {s : List ℕ} where
  pub written_none : {at n : ℕ} {d : List ℕ} → at ≤ length s → WrittenTo F G s at 0 d n n d
  written_none {at} {n} {d} h = record { out = []; run = run_none h; counted = sym (add-zero n); cells = with_none d n }

  module _ {at k n end : ℕ} {d o : List ℕ} (c : Convertible F G s at n (length d)) (w : WrittenTo F G s at k d n end o) where
    pub written-length : length o ≡ length d
    written-length = length_with d w.out o n w.cells (convertible_run c w.run).0

    -- what is left
    pub written_left : Convertible F G s (at + k) end (length o)
    written_left = rw (w.counted, written-length) (convertible_run c w.run).1

    pub written-room : {l : ℕ} {e : List ℕ} → Run F G s (at + k) l e → end + length e ≤ length o
    written-room r = (convertible_run written_left r).0

    pub written_join : {l m : ℕ} {e p : List ℕ} → Run F G s (at + k) l e → m ≡ end + length e → p ≡ with_units o end e → WrittenTo F G s at (k + l) d n m p
    written_join {l} {m} {e} {p} r q g =
        record {
          out = w.out ++ e;
          run = run_join w.run r;
          counted = omega (arith, w.counted, length-append w.out e);
          cells = g ∙ rw (w.counted, w.cells) (with_join d w.out e n (convertible_run c w.run).0);
        }

    pub written_run : {l u : ℕ} {p : List ℕ} → Wrote F G s (at + k) l u o end p → WrittenTo F G s at (k + l) d n (end + u) p
    written_run r = written_join r.run (ap (λ (x : ℕ). end + x) r.counted) r.cells

  pub written_wrote : {at k n end : ℕ} {d o : List ℕ} → WrittenTo F G s at k d n end o → Wrote F G s at k (end - n) d n o
  written_wrote w = record { out = w.out; run = w.run; counted = omega (arith, w.counted); cells = w.cells }

-- tests joined by OR that all failed
pub neither_left : (x y : Bool) → (x || y) ≡ false → x ≡ false
neither_left true y e = e
neither_left false y e = refl

pub neither_right : (x y : Bool) → (x || y) ≡ false → y ≡ false
neither_right true y e = absurd (let z : ◌≡◌ {A = ℕ} 0 1 = cc in omega arith)
neither_right false y e = e

pub and_false : (x y : Bool) → (x && y) ≡ false → x ≡ true → y ≡ false
and_false true y e t = e
and_false false y e t = absurd (let z : ◌≡◌ {A = ℕ} 0 1 = cc in omega arith)

-- units that are characters by themselves, in a text that comes to a result: their values are what is encoded
module _
    {F G : Form}
    {s : List ℕ}
    {at n m c : ℕ}
    (a : Convertible F G s at n m)
    (inside : at + c ≤ length s)
    (next : (k : ℕ) → k < c → Run F G s at k (encode_all G (part s at k)) → CharacterAt F s (at + k) (get_or s (at + k) 0) (span (at + k) 1)) where
  single_held : (k : ℕ) → k < c → Run F G s at k (encode_all G (part s at k)) → encode G (get_or s (at + k) 0) ≢ []
  single_held k h r = convertible_character (convertible_run a r).1 (next k h r)

  pub singles_run : (k : ℕ) → k ≤ c → Run F G s at k (encode_all G (part s at k))
  singles_run zero h = run_none (omega arith)
  singles_run (suc k) h =
      let r = singles_run k (omega arith) in
      let one = run_one (next k (omega arith) r) (single_held k (omega arith) r) in
      let e : encode_all G (part s (at + k) 1) ≡ encode G (get_or s (at + k) 0) = ap (encode_all G) (part_one s (at + k) (omega arith)) ∙ encode-all-one G (get_or s (at + k) 0) in
      rw (← add-one k, encode-all_join G s at k 1, e) (run_join r one)

  pub singles_encodable : Encodable G s at c
  singles_encodable = record { inside = inside; each = λ j b. single_held j b (singles_run j (omega arith)) }

  pub singles_room : Room G s at c n m
  singles_room = record { fits = (convertible_run a (singles_run c (omega arith))).0 }

-- values that are their own encodings
pub own_encodings : (G : Form) (s : List ℕ) (at k : ℕ) → at + k ≤ length s → ((j : ℕ) → j < k → encode G (get_or s (at + j) 0) ≡ get_or s (at + j) 0 ∷ []) → encode_all G (part s at k) ≡ part s at k
own_encodings G s at zero h f = refl
own_encodings G s at (suc k) h f =
    let e : encode_all G (part s (at + k) 1) ≡ part s (at + k) 1 =
    ap (encode_all G) (part_one s (at + k) (omega arith)) ∙ encode-all-one G (get_or s (at + k) 0) ∙ f k (omega arith) ∙ sym (part_one s (at + k) (omega arith)) in
    rw (← add-one k, encode-all_join G s at k 1, part_join s at k 1, e, own_encodings G s at k (omega arith) (λ j b. f j (omega arith)))

pub part_length : (s : List ℕ) (at k : ℕ) → at + k ≤ length s → length (part s at k) ≡ k
part_length s at k h = length-take-le k (drop at s) (rw (length-drop at s) (omega arith))

-- a loop that copies k units of a text into a buffer
pub record CopiedTo (s : List ℕ) (at k : ℕ) (d : List ℕ) (n : ℕ) (o : List ℕ) : Type 0 where
  pub cells : o ≡ paste d n (drop at s) k

module _ {s : List ℕ} {at n : ℕ} {d : List ℕ} where
  pub copied_none : CopiedTo s at 0 d n d
  copied_none = record { cells = copy_begin d n (drop at s) }

  module _ {c k : ℕ} {o : List ℕ} (inside : at + c ≤ length s) (room : n + c ≤ length d) (w : CopiedTo s at k d n o) where
    pub copied_length : k ≤ c → length o ≡ length d
    copied_length h = copy_length d n (drop at s) k o w.cells (omega arith) (rw (length-drop at s) (omega arith))

    pub copied_more : (x : ℕ) → x ≡ get_or s (at + k) 0 → k < c → CopiedTo s at (k + 1) d n (set o (n + k) x)
    copied_more x e h =
        record { cells = rw (e, ← get_or-drop at s k 0) (copy_more d n (drop at s) k o w.cells (omega arith) (rw (length-drop at s) (omega arith))) }

    pub copied_all : k ≤ c → c ≤ k → o ≡ with_units d n (part s at c)
    copied_all h l = w.cells ∙ copy_end d n (drop at s) c k (omega arith) (rw (length-drop at s) (omega arith))

-- it ends within the buffer
pub written-within :
    {F G : Form} {s : List ℕ} {at k n end : ℕ} {d o : List ℕ} → Convertible F G s at n (length d) → WrittenTo F G s at k d n end o → (n ≤ end) × (end ≤ length d)
written-within c w = (omega (arith, w.counted), omega (arith, w.counted, (convertible_run c w.run).0))

-- a loop that tests whether all units reach a bound
pub record ReachIf (all : Bool) (s : List ℕ) (at k m : ℕ) : Type 0 where
  pub each : all ≡ true → (j : ℕ) → j < k → m ≤ get_or s (at + j) 0

pub reach-none : {all : Bool} {s : List ℕ} {at m : ℕ} → ReachIf all s at 0 m
reach-none {all} {s} {at} {m} = record { each = λ e. below_none (λ (j : ℕ). m ≤ get_or s (at + j) 0) }

pub reach_more : {all : Bool} {s : List ℕ} {at k m : ℕ} → ReachIf all s at k m → ReachIf (all && leb m (get_or s (at + k) 0)) s at (k + 1) m
reach_more {all} {s} {at} {k} {m} r =
    let t = leb m (get_or s (at + k) 0) in
    record { each = λ e. below_more (λ (j : ℕ). m ≤ get_or s (at + j) 0) k (r.each (and_left all t e)) (leb-true m (get_or s (at + k) 0) (and_right all t e)) }

pub reach-end : {all : Bool} {s : List ℕ} {at k c m : ℕ} → ReachIf all s at k m → c ≤ k → all ≡ true → AtLeast s at c m
reach-end r h e = record { each = λ j b. r.each e j (omega arith) }
