-- Units put into a result buffer, one run behind the other.
use Prim.Native.Nat.{ℕ, ◌+◌, ◌≤◌, ◌<◌}
use mathlib.Core.Path.{◌≡◌, refl, sym, ap, ◌∙◌}
use mathlib.Core.List.{List, [], ◌∷◌, ◌++◌, append_assoc}
use native.Mathlib.Omega.{arith}
use native.Mathlib.Numerals.{add-one}
use native.Mathlib.Nat.{add-zero, add_assoc}
use lib.ListN.{length, take, drop, set, get_or, length-append, length-drop, take-append-drop}
use lib.Seq.{set_split, length-take-le, take_at, drop_at, drop-drop, paste, paste-zero, paste-suc, length-paste}
use Rattle.forms.specs.Buffer.{with_units, Holds}

-- a loop that copies the first n units of b: it begins, turns and ends
pub copy_begin : (d : List ℕ) (at : ℕ) (b : List ℕ) → d ≡ paste d at b 0
copy_begin d at b = paste-zero d at b

pub copy_more :
    (d : List ℕ) (at : ℕ) (b : List ℕ) (i : ℕ) (o : List ℕ) → o ≡ paste d at b i → at + i < length d → i < length b
    → set o (at + i) (get_or b i 0) ≡ paste d at b (i + 1)
copy_more d at b i o e h l = rw (e, add-one i) (paste-suc d at b i 0 h l)

pub copy_length : (d : List ℕ) (at : ℕ) (b : List ℕ) (i : ℕ) (o : List ℕ) → o ≡ paste d at b i → at + i ≤ length d → i ≤ length b → length o ≡ length d
copy_length d at b i o e h l = ap length e ∙ length-paste d at b i h l

pub copy_end : (d : List ℕ) (at : ℕ) (b : List ℕ) (n i : ℕ) → i ≡ n → n ≤ length b → paste d at b i ≡ with_units d at (take n b)
copy_end d at b n i e h = rw (e, length-take-le n b h) (append_assoc (take at d) (take n b) (drop (at + n) d))

pub holds_none : (d : List ℕ) → Holds d [] 0 d
holds_none d = record { counted = refl; cells = refl }

pub holds_first : (d e o : List ℕ) (n : ℕ) → n ≡ 0 + length e → o ≡ with_units d 0 e → Holds d e n o
holds_first d e o n q h =
    let c : n ≡ length e = omega arith in
    record { counted = c; cells = h ∙ rw (c, add-zero_left (length e)) }
  where
    add-zero_left : (k : ℕ) → 0 + k ≡ k
    add-zero_left k = omega arith

pub holds_more : (d done e o p : List ℕ) (n m : ℕ) → Holds d done n o → m ≡ n + length e → p ≡ with_units o n e → Holds d (done ++ e) m p
holds_more d done e o p n m h q w =
    let t : take n o ≡ done = rw h.cells (take_at done (drop n d) n (sym h.counted)) in
    let r : drop (n + length e) o ≡ drop (n + length e) d =
    sym (drop-drop (length e) n o) ∙ ap (drop (length e)) (ap (drop n) h.cells ∙ drop_at done (drop n d) n (sym h.counted)) ∙ drop-drop (length e) n d in
    record {
      counted = omega (arith, h.counted, length-append done e);
      cells = w ∙ rw (t, r, q) (sym (append_assoc done e (drop (n + length e) d)));
    }

pub length_with : (d e o : List ℕ) (at : ℕ) → o ≡ with_units d at e → at + length e ≤ length d → length o ≡ length d
length_with d e o at q h =
    ap length q
    ∙ rw (length-append (take at d) (e ++ drop (at + length e) d), length-append e (drop (at + length e) d), length-take-le at d (omega arith), length-drop (at + length e) d)
    (omega arith)

pub front-within : {r : ℕ} {t d o : List ℕ} → Holds d t r o → r ≤ length o
front-within {r} {t} {d} {o} h = omega (arith, h.counted, ap length h.cells, length-append t (drop r d))

-- units put in behind units
pub with_none : (d : List ℕ) (n : ℕ) → d ≡ with_units d n []
with_none d n = rw (add-zero n) (sym (take-append-drop n d))

pub with_one : (d : List ℕ) (n x : ℕ) → n < length d → set d n x ≡ with_units d n (x ∷ [])
with_one d n x h = rw (add-one n) (set_split d n x h)

pub with_join : (d a b : List ℕ) (n : ℕ) → n + length a ≤ length d → with_units (with_units d n a) (n + length a) b ≡ with_units d n (a ++ b)
with_join d a b n h =
    let o = with_units d n a in
    let front = take n d ++ a in
    let rest = drop (n + length a) d in
    let e : o ≡ front ++ rest = sym (append_assoc (take n d) a rest) in
    let l : length front ≡ n + length a = length-append (take n d) a ∙ ap (λ (x : ℕ). x + length a) (length-take-le n d (omega arith)) in
    let t : take (n + length a) o ≡ front = ap (take (n + length a)) e ∙ take_at front rest (n + length a) l in
    let r : drop (n + length a) o ≡ rest = ap (drop (n + length a)) e ∙ drop_at front rest (n + length a) l in
    let q : drop (n + length a + length b) o ≡ drop (n + (length a + length b)) d =
    sym (drop-drop (length b) (n + length a) o) ∙ ap (drop (length b)) r ∙ drop-drop (length b) (n + length a) d ∙ ap (λ (x : ℕ). drop x d) (add_assoc n (length a) (length b)) in
    rw (t, q, length-append a b, append_assoc (take n d) a, append_assoc a b)
