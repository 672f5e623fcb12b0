-- Loops that put one unit more into a buffer than they count: the next unit is put over it, and the last is put in exactly.
use Prim.Native.Nat.{ℕ, suc, ◌+◌, ◌-◌, ◌≤◌, ◌<◌}
use mathlib.Core.Path.{◌≡◌, refl, sym, ap, ◌∙◌}
use mathlib.Core.Logic.{◌≢◌}
use mathlib.Core.List.{List, [], ◌∷◌, ◌++◌, append_assoc, append-nil}
use native.Mathlib.Omega.{arith}
use native.Mathlib.Nat.{add-zero, add_assoc}
use lib.ListN.{length, get_or, set, take, drop, length-append, length-set}
use lib.Seq.{take-suc-set, take-set-le, drop-set-lt, drop-drop}
use Rattle.forms.specs.Form.{Form, encode, encode_all}
use Rattle.forms.specs.Buffer.{with_units}
use Rattle.laws.proofs.Values.{part, part_one, encode-all-one, encode-all_join, Encodable, Encoded, Room, encoded_room, encoded_length}

-- the units a stand in the buffer d from n on; the cell behind them holds anything, and the others are as they were
pub record Spare (d : List ℕ) (n : ℕ) (a o : List ℕ) : Type 0 where
  pub front : take (n + length a) o ≡ take n d ++ a
  pub back : drop (n + length a + 1) o ≡ drop (n + length a + 1) d
  pub same : length o ≡ length d

pub spare_none : {d : List ℕ} {n : ℕ} → Spare d n [] d
spare_none {d} {n} = record { front = rw (add-zero n) (sym (append-nil (take n d))); back = refl; same = refl }

module _ {d : List ℕ} {n : ℕ} {a o : List ℕ} (w : Spare d n a o) where
  behind : (k : ℕ) → 0 < k → drop (n + length a + k) o ≡ drop (n + length a + k) d
  behind k h =
      let q : n + length a + 1 + (k - 1) ≡ n + length a + k = omega arith in
      rw (← q) (sym (drop-drop (k - 1) (n + length a + 1) o) ∙ ap (drop (k - 1)) w.back ∙ drop-drop (k - 1) (n + length a + 1) d)

  -- a unit that is not counted
  pub spare_over : (x : ℕ) → Spare d n a (set o (n + length a) x)
  spare_over x =
      record {
        front = take-set-le (n + length a) o (n + length a) x (omega arith) ∙ w.front;
        back = drop-set-lt (n + length a + 1) o (n + length a) x (omega arith) ∙ w.back;
        same = length-set o (n + length a) x ∙ w.same;
      }

  -- and one that is
  pub spare_more : (x : ℕ) → n + length a < length o → Spare d n (a ++ x ∷ []) (set o (n + length a) x)
  spare_more x h =
      let q : n + length (a ++ x ∷ []) ≡ suc (n + length a) = omega (arith, length-append a (x ∷ [])) in
      let z : suc (n + length a) + 1 ≡ n + length a + 2 = omega arith in
      record {
        front = rw q (take-suc-set o (n + length a) x h ∙ ap (λ (l : List ℕ). l ++ x ∷ []) w.front ∙ append_assoc (take n d) a (x ∷ []));
        back = rw (q, z) (drop-set-lt (n + length a + 2) o (n + length a) x (omega arith) ∙ behind 2 (omega arith));
        same = length-set o (n + length a) x ∙ w.same;
      }

  -- the last, put in exactly
  pub spare_last : (e : List ℕ) → 0 < length e → with_units o (n + length a) e ≡ with_units d n (a ++ e)
  spare_last e h =
      let q : drop (n + length a + length e) o ≡ drop (n + (length a + length e)) d = behind (length e) h ∙ ap (λ (x : ℕ). drop x d) (add_assoc n (length a) (length e)) in
      rw (w.front, q, length-append a e, append_assoc (take n d) a, append_assoc a e)

-- the encodings of k values, put into the buffer d from n on, up to u, by such a loop
pub record Overrun (G : Form) (s : List ℕ) (at k : ℕ) (d : List ℕ) (n u : ℕ) (o : List ℕ) : Type 0 where
  pub counted : u ≡ n + length (encode_all G (part s at k))
  pub cells : Spare d n (encode_all G (part s at k)) o

some : (e : List ℕ) → e ≢ [] → 0 < length e
some [] h = absurd (h refl)
some (x ∷ e) h = omega arith

pub overrun_none : {G : Form} {s d : List ℕ} {at n : ℕ} → Overrun G s at 0 d n n d
overrun_none {G} {s} {d} {at} {n} = record { counted = sym (add-zero n); cells = spare_none }

module _
    {G : Form}
    {s d o : List ℕ}
    {at k c n u : ℕ}
    (e : Encodable G s at c)
    (r : Room G s at c n (length d))
    (w : Overrun G s at k d n u o)
    (h : k < c) where
  one : (j : ℕ) → j < c → encode_all G (part s (at + j) 1) ≡ encode G (get_or s (at + j) 0)
  one j l = ap (encode_all G) (part_one s (at + j) (omega (arith, e.inside))) ∙ encode-all-one G (get_or s (at + j) 0)

  -- the encodings with the next value's
  onward : encode_all G (part s at (k + 1)) ≡ encode_all G (part s at k) ++ encode G (get_or s (at + k) 0)
  onward = encode-all_join G s at k 1 ∙ ap (λ (x : List ℕ). encode_all G (part s at k) ++ x) (one k h)

  -- the next value has room, and where others are behind it a unit more
  exact : Encoded G s at k d n u (with_units d n (encode_all G (part s at k)))
  exact = record { counted = w.counted; cells = refl }

  pub overrun_last-room : u + length (encode G (get_or s (at + k) 0)) ≤ length o
  overrun_last-room =
      omega (arith, rw (one k h) at (encoded_room 1 r exact (omega arith)).fits, encoded_length r exact (omega arith), w.cells.same)

  pub overrun_room : k + 1 < c → u + length (encode G (get_or s (at + k) 0)) < length o
  overrun_room l =
      let q : at + k + 1 ≡ at + (k + 1) = omega arith in
      let b : encode_all G (part s (at + k + 1) 1) ≡ encode G (get_or s (at + (k + 1)) 0) = rw q (one (k + 1) l) in
      let two : encode_all G (part s (at + k) 2) ≡ encode G (get_or s (at + k) 0) ++ encode G (get_or s (at + (k + 1)) 0) = encode-all_join G s (at + k) 1 1 ∙ rw (one k h, b) in
      let long = length-append (encode G (get_or s (at + k) 0)) (encode G (get_or s (at + (k + 1)) 0)) in
      omega (arith, ap length two, some (encode G (get_or s (at + (k + 1)) 0)) (e.each (k + 1) l), (encoded_room 2 r exact (omega arith)).fits, encoded_length r exact (omega arith), w.cells.same)

  module _ (x y : ℕ) (l : u + 1 < length o) where
    first : Spare d n (encode_all G (part s at k) ++ x ∷ []) (set o u x)
    first = rw w.counted (spare_more w.cells x (omega (arith, w.counted)))

    place : u + 1 ≡ n + length (encode_all G (part s at k) ++ x ∷ [])
    place = omega (arith, w.counted, length-append (encode_all G (part s at k)) (x ∷ []))

    -- both units are put in, and one is counted
    pub overrun_one : encode G (get_or s (at + k) 0) ≡ x ∷ [] → Overrun G s at (k + 1) d n (u + 1) (set (set o u x) (u + 1) y)
    overrun_one q =
        record { counted = rw (onward, q) place; cells = rw (onward, q, place) (spare_over first y) }

    -- or both
    pub overrun_two : encode G (get_or s (at + k) 0) ≡ x ∷ y ∷ [] → Overrun G s at (k + 1) d n (u + 2) (set (set o u x) (u + 1) y)
    overrun_two q =
        let z : (encode_all G (part s at k) ++ x ∷ []) ++ y ∷ [] ≡ encode_all G (part s at k) ++ x ∷ y ∷ [] = append_assoc (encode_all G (part s at k)) (x ∷ []) (y ∷ []) in
        record {
          counted = rw (onward, q) (omega (arith, w.counted, length-append (encode_all G (part s at k)) (x ∷ y ∷ [])));
          cells = rw (onward, q, place) (rw z at (spare_more first y (omega (arith, place, length-set o u x))));
        }

  pub overrun_last :
      {m : ℕ} {p : List ℕ} → k + 1 ≡ c → m ≡ u + length (encode G (get_or s (at + k) 0)) → p ≡ with_units o u (encode G (get_or s (at + k) 0)) → Encoded G s at c d n m p
  overrun_last {m} {p} l q g =
      let x = encode G (get_or s (at + k) 0) in
      rw (← l)
      (record {
        counted = rw onward (omega (arith, w.counted, length-append (encode_all G (part s at k)) x));
        cells = rw onward (g ∙ rw w.counted (spare_last w.cells x (some x (e.each k h))));
      })
