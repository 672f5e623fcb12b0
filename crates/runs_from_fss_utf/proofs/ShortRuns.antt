-- A block of characters of one byte and two: the loop that stores a unit for every byte and counts those of characters, for each target that
-- has one unit for such a character.
use Prim.Native.Nat.{ℕ, ◌+◌, ◌-◌, ◌≤◌, ◌<◌}
use mathlib.Core.Path.{◌≡◌, refl, sym, ◌∙◌, subst}
use mathlib.Core.Bool.{Bool, false, ◌||◌}
use mathlib.Core.Logic.{◌≢◌}
use mathlib.Core.List.{List, [], ◌∷◌, ◌++◌}
use native.Mathlib.Omega.{arith}
use native.Mathlib.Nat.{add-zero}
use native.Mathlib.Decide.{dec_lt}
use lib.Dec.{leb}
use lib.ListN.{length, get_or, set, length-set, length-append}
use lib.Seq.{get_or-set_same, get_or-set_other}
use borrow.Author.Count.{below_more}
use borrow.Author.Tests.{leb-false}
use Rattle.forms.specs.Form.{Form, span, encode}
use Rattle.forms.specs.Forms.{fss_utf}
use Rattle.laws.proofs.Blocks.{each_none, each_more, each_all}
use Rattle.laws.proofs.Buffers.{with_one}
use Rattle.laws.proofs.Progress.{CharacterAt}
use Rattle.laws.proofs.Runs.{Run, Wrote, Convertible, Stands, run_none, run_join, run_one, convertible_run, convertible_stands, convertible_character}
use Rattle.laws.proofs.Spare.{Spare, spare_none, spare_over, spare_more, spare_last}
use Rattle.laws.proofs.Values.{neither_left as or_left, neither_right as or_right}
use Rattle.runs_from_fss_utf.specs.ShortBlock.{Trailing, Shorts, Filled, Begun, ShortValue, LastStart}
use Rattle.runs_from_fss_utf.proofs.KnownBytes.{begins, bytes_one, bytes_two, trails}

-- what the test of a block joins is false only where each byte is below E0
pub record NoLonger (s : List ℕ) (at n : ℕ) (found : Bool) : Type 0 where
  pub clean : found ≡ false → Shorts s at n

module _ {s : List ℕ} {at : ℕ} where
  pub no_longer_none : {b : Bool} → NoLonger s at 0 b
  no_longer_none = record { clean = λ e. record { all = each_none } }

  pub no_longer_more : {n : ℕ} {b : Bool} → NoLonger s at n b → NoLonger s at (n + 1) (b || leb 0xE0 (get_or s (at + n) 0))
  no_longer_more {n} {b} j =
      let x = leb 0xE0 (get_or s (at + n) 0) in
      record { clean = λ h. record { all = each_more (j.clean (or_left b x h)).all (leb-false 0xE0 (get_or s (at + n) 0) (or_right b x h)) } }

  pub no_longer_end : {n : ℕ} {b : Bool} (m : ℕ) → NoLonger s at n b → n ≤ m → m ≤ n → b ≡ false → Shorts s at m
  no_longer_end m j h k e = record { all = each_all m (j.clean e).all h k }

-- the loop that fills an array
module _ {P : ℕ → ℕ → Type 0} {n : ℕ} {b : List ℕ} where
  pub filled_none : length b ≡ n → Filled P n 0 b
  filled_none e = record { long = e; each = λ k h. absurd (omega arith) }

  pub filled_more : {j : ℕ} (x : ℕ) → Filled P n j b → j < n → P j x → Filled P n (j + 1) (set b j x)
  filled_more {j} x f h p =
      record {
        long = length-set b j x ∙ f.long;
        each =
            below_more (λ (k : ℕ). P k (get_or (set b j x) k 0)) j
            (λ k i. subst (P k) (sym (get_or-set_other b j k x 0 (λ z. omega (arith, z)))) (f.each k i))
            (subst (P j) (sym (get_or-set_same b j x 0 (omega (arith, f.long)))) p);
      }

  pub filled_all : {j : ℕ} → Filled P n j b → j ≤ n → n ≤ j → Filled P n n b
  filled_all {j} f h k = let e : j ≡ n = omega arith in rw e at f

-- the last character begins with the last byte but one where the last is a trailing byte
pub last-start_of : {s : List ℕ} {at n : ℕ} → Begun (get_or s (at + 63) 0) n → LastStart s at (62 + n)
last-start_of {s} {at} {n} b = record { within = omega (arith, b.most); trails = go (dec_lt (get_or s (at + 63) 0) 0x80) (dec_lt (get_or s (at + 63) 0) 0xC0) }
  where
    first : n ≡ 1 → Trailing (get_or s (at + (62 + n)) 0) → Trailing (get_or s (at + 63) 0)
    first e t = let q : at + (62 + n) ≡ at + 63 = omega arith in rw q at t

    go : Dec (get_or s (at + 63) 0 < 0x80) → Dec (get_or s (at + 63) 0 < 0xC0) → Trailing (get_or s (at + (62 + n)) 0) → Trailing (get_or s (at + (62 + n) + 1) 0)
    go (yes i) j t = absurd (omega (arith, first (b.one (λ y. omega (arith, y))) t))
    go (no i) (yes j) t =
        let q : at + (62 + n) + 1 ≡ at + 63 = omega (arith, b.none (omega arith, j)) in
        rw q (omega arith, j)
    go (no i) (no j) t = absurd (omega (arith, first (b.one (λ y. omega (arith, y))) t))

-- at the byte k of the block: the characters that begin before it were written, and the last of them may end with it
pub record ShortRun (G : Form) (s : List ℕ) (at n : ℕ) (d : List ℕ) (k to : ℕ) (o : List ℕ) : Type 0 where
  pub out : List ℕ
  pub done : ℕ
  pub run : Run fss_utf G s at done out
  pub left : Convertible fss_utf G s (at + done) (n + length out) (length d)
  pub cells : Spare d n out o
  pub counted : to ≡ n + length out
  pub least : k ≤ done
  pub most : done ≤ k + 1
  pub behind : k < done → Trailing (get_or s (at + k) 0)

-- a character of one byte or two, of the value x
record Short (s : List ℕ) (p x : ℕ) : Type 0 where
  long : ℕ
  inside : p + long < length s
  here : CharacterAt fss_utf s p x (span p (long + 1))
  small : x < 0x800
  few : long ≤ 1
  one : get_or s p 0 < 0x80 → long ≡ 0
  two : 0x80 ≤ get_or s p 0 → long ≡ 1
  ends : 0 < long → Trailing (get_or s (p + 1) 0)

short : {s : List ℕ} {p x : ℕ} → Stands fss_utf s p → get_or s p 0 < 0xE0 → ShortValue (get_or s p 0) (get_or s (p + 1) 0) x → Short s p x
short {s} {p} {x} c h v = go (dec_lt (get_or s p 0) 0x80)
  where
    go : Dec (get_or s p 0 < 0x80) → Short s p x
    go (yes l) =
        let b = bytes_one s p c l in
        let e = v.one l in
        record {
          long = 0;
          inside = b.inside;
          here = rw e b.here;
          small = omega arith;
          few = omega arith;
          one = λ y. refl;
          two = λ y. absurd (omega arith);
          ends = λ y. absurd (omega arith);
        }
    go (no l) =
        let b = bytes_two s p c (omega arith) h in
        let e = v.two (begins s p c (omega arith)) h in
        record {
          long = 1;
          inside = b.inside;
          here = rw e b.here;
          small = omega (arith, e);
          few = omega arith;
          one = λ y. absurd (omega arith);
          two = λ y. refl;
          ends = λ y. trails s p c (omega arith) h;
        }

short_run : {G : Form} → ((v : ℕ) → v < 0x800 → encode G v ≡ v ∷ []) → {s : List ℕ} {p x : ℕ} (c : Short s p x) → Run fss_utf G s p (c.long + 1) (x ∷ [])
short_run {G} single {s} {p} {x} c =
    let e = single x c.small in
    rw (← e) (run_one {G = G} c.here (λ n. let z : ◌≡◌ {A = ℕ} 0 1 = cc in omega arith))

module _ {G : Form} (single : (v : ℕ) → v < 0x800 → encode G v ≡ v ∷ []) {s : List ℕ} {at n : ℕ} {d : List ℕ} where
  pub short_run_begin : at ≤ length s → Convertible fss_utf G s at n (length d) → ShortRun G s at n d 0 n d
  short_run_begin h c =
      record {
        out = [];
        done = 0;
        run = run_none h;
        left = rw (add-zero at, add-zero n) c;
        cells = spare_none;
        counted = omega arith;
        least = omega arith;
        most = omega arith;
        behind = λ y. absurd (omega arith);
      }

  module _ {k to : ℕ} {o : List ℕ} (w : ShortRun G s at n d k to o) where
    -- a character stands behind what was written, and the buffer has room for it
    stands : at + k + 1 < length s → Stands fss_utf s (at + w.done)
    stands h = convertible_stands (omega (arith, w.most)) w.left

    pub short_run_room : at + k + 1 < length s → to < length o
    short_run_room h =
        let c = stands h in
        let held = convertible_character w.left c.here in
        let r = (convertible_run w.left (run_one {G = G} c.here held)).0 in
        omega (arith, r, w.counted, w.cells.same, some (encode G c.value) held)
      where
        some : (x : List ℕ) → x ≢ [] → 0 < length x
        some [] f = absurd (f refl)
        some (y ∷ ys) f = omega arith

    -- the next byte: a trailing byte, which is not counted, or a character
    pub short_run_more :
        {x m : ℕ} → at + k + 1 < length s → get_or s (at + k) 0 < 0xE0 → ShortValue (get_or s (at + k) 0) (get_or s (at + k + 1) 0) x → Begun (get_or s (at + k) 0) m
        → ShortRun G s at n d (k + 1) (to + m) (set o to x)
    short_run_more {x} {m} h l v b = rw w.counted (go (dec_lt k w.done))
      where
        go : Dec (k < w.done) → ShortRun G s at n d (k + 1) (n + length w.out + m) (set o (n + length w.out) x)
        go (yes i) =
            record {
              out = w.out;
              done = w.done;
              run = w.run;
              left = w.left;
              cells = spare_over w.cells x;
              counted = omega (arith, b.none (w.behind i));
              least = omega arith;
              most = omega (arith, w.most);
              behind = λ y. absurd (omega (arith, w.most));
            }
        go (no i) =
            let e : at + w.done ≡ at + k = omega (arith, w.least) in
            let q = at_next e in
            let c = short (stands h) (rw (← e) at l) (rw (← e) at v) in
            let r = short_run single c in
            let z = convertible_run w.left r in
            let y : length (w.out ++ x ∷ []) ≡ length w.out + 1 = length-append w.out (x ∷ []) in
            let a : at + w.done + (c.long + 1) ≡ at + (w.done + (c.long + 1)) = omega arith in
            let f : n + length w.out + length (x ∷ []) ≡ n + length (w.out ++ x ∷ []) = omega (arith, y) in
            record {
              out = w.out ++ x ∷ [];
              done = w.done + (c.long + 1);
              run = run_join w.run r;
              left = rw (a, f) at z.1;
              cells = spare_more w.cells x (omega (arith, short_run_room h, w.counted));
              counted = omega (arith, y, b.one (λ t. let g = rw (← e) at t in omega (arith, g, begins s (at + w.done) (stands h) g.0)));
              least = omega (arith, w.least);
              most = omega (arith, w.least, c.few);
              behind = λ t. rw q (c.ends (omega arith));
            }
          where
            at_next : at + w.done ≡ at + k → at + (k + 1) ≡ at + w.done + 1
            at_next e = omega arith

    -- the last character
    pub short_run_end :
        {last x t : ℕ} → k ≤ last → last ≤ k → at + last + 1 < length s → LastStart s at last → get_or s (at + last) 0 < 0xE0
        → ShortValue (get_or s (at + last) 0) (get_or s (at + last + 1) 0) x → (get_or s (at + last) 0 < 0x80 → t ≡ 1) → (0x80 ≤ get_or s (at + last) 0 → t ≡ 2)
        → Wrote fss_utf G s at (last + t) (to + 1 - n) d n (set o to x)
    short_run_end {last} {x} {t} i j h b l v one two = go (dec_lt k w.done)
      where
        go : Dec (k < w.done) → Wrote fss_utf G s at (last + t) (to + 1 - n) d n (set o to x)
        go (yes y) =
            let e : k ≡ last = omega arith in
            let z : at + last + 1 ≡ at + w.done = omega (arith, w.most) in
            let a = rw z at (b.trails (rw e at (w.behind y))) in
            absurd (omega (arith, a, begins s (at + w.done) (stands (rw (← e) at h)) a.0))
        go (no y) =
            let e : at + last ≡ at + w.done = omega (arith, w.least) in
            let c = short (stands (omega arith)) (rw e at l) (rw e at v) in
            let r = short_run single c in
            let m : to < length o = short_run_room (omega arith) in
            let f : last + t ≡ w.done + (c.long + 1) = steps c e (dec_lt (get_or s (at + last) 0) 0x80) in
            record {
              out = w.out ++ x ∷ [];
              run = rw f (run_join w.run r);
              counted = omega (arith, w.counted, length-append w.out (x ∷ []));
              cells = with_one o to x m ∙ rw w.counted (spare_last w.cells (x ∷ []) (omega arith));
            }
          where
            steps : (c : Short s (at + w.done) x) → at + last ≡ at + w.done → Dec (get_or s (at + last) 0 < 0x80) → last + t ≡ w.done + (c.long + 1)
            steps c e (yes a) = omega (arith, one a, c.one (rw e at a))
            steps c e (no a) = let u : 0x80 ≤ get_or s (at + last) 0 = omega arith in omega (arith, two u, c.two (rw e at u))
