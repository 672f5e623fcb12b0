-- A loop that writes UTF-16 as UCS-4 unit by unit: between the units of a pair, the pair has been written.
use Prim.Native.Nat.{ℕ, ◌+◌, ◌≤◌, ◌<◌}
use mathlib.Core.Path.{◌≡◌, refl, sym, ◌∙◌}
use mathlib.Core.Logic.{◌≢◌}
use mathlib.Core.Bool.{Bool, true, false, not}
use mathlib.Core.List.{List, [], ◌∷◌, ◌++◌}
use mir.Syntax.{w16}
use mir.Val.{Fits, bool_byte}
use native.Mathlib.Omega.{arith}
use native.Mathlib.Nat.{add-zero}
use native.Mathlib.Decide.{dec_lt}
use lib.ListN.{length, get_or, set, length-append}
use borrow.Author.Tests.{le-leb, lt-leb, le-ltb, lt-ltb}
use Rattle.forms.specs.Form.{encode, span}
use Rattle.forms.specs.Forms.{utf16, ucs4}
use Rattle.forms.specs.Buffer.{with_units}
use Rattle.laws.proofs.Progress.{CharacterAt, character-value, character-onward}
use Rattle.laws.proofs.Runs.{Run, Convertible, Stands, run_none, run_one, run_join, convertible_run, convertible_stands, convertible_character}
use Rattle.laws.proofs.Values.{WrittenTo}
use Rattle.laws.proofs.Spare.{Spare, spare_none, spare_over, spare_more, spare_last}
use Rattle.laws.proofs.FourForms.{utf16_laws}
use Rattle.laws.proofs.UnitEncodings.{ucs4-encoding}
use Rattle.measure_runs.specs.Utf16Units.{is_high, is_low, number, LastCharacter}
use Rattle.measure_runs.proofs.Utf16Tests.{differ, high_bounds, low_bounds, low-not-high}
use Rattle.measure_runs.proofs.Utf16Pairs.{alone, paired_at, pair_stands, pair_value}

-- k units were looked at: the characters written from n up to `end` have so many units, or one more, which is a low one
pub record Midway (s : List ℕ) (at n : ℕ) (d : List ℕ) (k end : ℕ) (o : List ℕ) : Type 0 where
  pub passed : ℕ
  pub least : k ≤ passed
  pub most : passed ≤ k + 1
  pub behind : passed ≡ k + 1 → is_low (get_or s (at + k) 0) ≡ true
  pub out : List ℕ
  pub run : Run utf16 ucs4 s at passed out
  pub counted : end ≡ n + length out
  pub cells : Spare d n out o

-- what the test counts for, as a number
pub counted_for : (b : Bool) → bool_byte b ≡ number b
counted_for true = refl
counted_for false = refl

some : (e : List ℕ) → e ≢ [] → 0 < length e
some [] h = absurd (h refl)
some (x ∷ e) h = omega arith

is_low_lem : (u : ℕ) → 0xDC00 ≤ u → u < 0xE000 → is_low u ≡ true
is_low_lem u h l = rw (le-leb 0xDC00 u h, lt-ltb u 0xE000 l)

is_high_lem : (u : ℕ) → 0xD800 ≤ u → u < 0xDC00 → is_high u ≡ true
is_high_lem u h l = rw (le-leb 0xD800 u h, lt-ltb u 0xDC00 l)

high-not-low : (u : ℕ) → u < 0xDC00 → is_low u ≡ false
high-not-low u h = rw (lt-leb 0xDC00 u h)

above_not-low : (u : ℕ) → 0xE000 ≤ u → is_low u ≡ false
above_not-low u h = rw (le-leb 0xDC00 u (omega arith), le-ltb u 0xE000 h)

-- no low unit stands where a character begins
begins-not-low : {A : Type 0} (s : List ℕ) (p : ℕ) → Stands utf16 s p → is_low (get_or s p 0) ≡ true → A
begins-not-low s p a e = let b = low_bounds (get_or s p 0) e in absurd (omega (arith, b, (pair_stands s p a (omega (arith, b)) b.1).0))

pub midway_none : {s d : List ℕ} {at n : ℕ} → at ≤ length s → Midway s at n d 0 n d
midway_none {s} {d} {at} {n} h =
    record {
      passed = 0;
      least = omega arith;
      most = omega arith;
      behind = λ e. absurd (omega (arith, e));
      out = [];
      run = run_none h;
      counted = sym (add-zero n);
      cells = spare_none;
    }

module _ {s d o : List ℕ} {at n k end : ℕ} (c : Convertible utf16 ucs4 s at n (length d)) (w : Midway s at n d k end o) where
  left : Convertible utf16 ucs4 s (at + w.passed) end (length d)
  left = rw w.counted (convertible_run c w.run).1

  -- what stands where a character begins
  begins : {p : ℕ} → w.passed ≡ p → at + p < length s → Stands utf16 s (at + p)
  begins {p} e h = rw e at (convertible_stands (rw e h) left)

  pub midway_room : at + k + 1 < length s → end < length o
  midway_room h =
      let a = convertible_stands (omega (arith, w.most)) left in
      let e = convertible_character left a.here in
      omega (arith, (convertible_run left (run_one a.here e)).0, some (encode ucs4 a.value) e, w.cells.same)

  -- behind a high unit there is a low one
  pub midway_high : at + k + 1 < length s → is_high (get_or s (at + k) 0) ≡ true → is_low (get_or s (at + k + 1) 0) ≡ true
  midway_high h e = go (dec_lt k w.passed)
    where
      go : Dec (k < w.passed) → is_low (get_or s (at + k + 1) 0) ≡ true
      go (yes a) = differ e (low-not-high (get_or s (at + k) 0) (w.behind (omega (arith, w.most))))
      go (no a) =
          let b = high_bounds (get_or s (at + k) 0) e in
          let q = pair_stands s (at + k) (begins (omega (arith, w.least)) (omega arith)) b.0 (omega (arith, b.1)) in
          is_low_lem (get_or s (at + k + 1) 0) q.2 q.3

  module _
      (units : (i : ℕ) → Fits w16 (get_or s i 0))
      (h : at + k + 1 < length s)
      {x z : ℕ}
      (pair : is_high (get_or s (at + k) 0) ≡ true → x ≡ pair_value (get_or s (at + k) 0) (get_or s (at + k + 1) 0))
      (unit : is_high (get_or s (at + k) 0) ≡ false → x ≡ get_or s (at + k) 0)
      (next : z ≡ end + number (not (is_low (get_or s (at + k) 0)))) where
    -- the character that begins with the unit
    wrote :
        {v l : ℕ} → w.passed ≡ k → CharacterAt utf16 s (at + k) v (span (at + k) l) → x ≡ v → is_low (get_or s (at + k) 0) ≡ false → 1 ≤ l → l ≤ 2
        → (l ≡ 2 → is_low (get_or s (at + (k + 1)) 0) ≡ true) → Midway s at n d (k + 1) z (set o end x)
    wrote {v} {l} e a y f i j low =
        let a' : CharacterAt utf16 s (at + w.passed) v (span (at + k) l) = rw e a in
        let r : Run utf16 ucs4 s (at + w.passed) l (encode ucs4 v) = run_one a' (convertible_character left a') in
        let q : encode ucs4 v ≡ x ∷ [] = ucs4-encoding v (character-value utf16_laws a) ∙ rw y in
        let t : z ≡ end + 1 = rw f at next in
        record {
          passed = w.passed + l;
          least = omega arith;
          most = omega arith;
          behind = λ b. low (omega (arith, b));
          out = w.out ++ x ∷ [];
          run = rw q at (run_join w.run r);
          counted = omega (arith, w.counted, length-append w.out (x ∷ []));
          cells = rw w.counted (spare_more w.cells x (rw w.counted at (midway_room h)));
        }

    pub midway_more : Midway s at n d (k + 1) z (set o end x)
    midway_more = go (dec_lt k w.passed)
      where
        go : Dec (k < w.passed) → Midway s at n d (k + 1) z (set o end x)
        go (yes a) =
            let t : z ≡ end + 0 = rw (w.behind (omega (arith, w.most))) at next in
            record {
              passed = w.passed;
              least = omega arith;
              most = omega (arith, w.most);
              behind = λ b. absurd (omega (arith, b, w.most));
              out = w.out;
              run = w.run;
              counted = omega (arith, w.counted);
              cells = rw w.counted (spare_over w.cells x);
            }
        go (no a) = split (is_high (get_or s (at + k) 0)) refl
          where
            here : w.passed ≡ k
            here = omega (arith, w.least)

            split : (b : Bool) → is_high (get_or s (at + k) 0) ≡ b → Midway s at n d (k + 1) z (set o end x)
            split true b =
                let hi = high_bounds (get_or s (at + k) 0) b in
                let f = midway_high h b in
                let lo = low_bounds (get_or s (at + k + 1) 0) f in
                let q : at + (k + 1) ≡ at + k + 1 = omega arith in
                wrote here (paired_at s (at + k) (get_or s (at + k) 0) (get_or s (at + k + 1) 0) h refl refl hi.0 hi.1 lo.0 lo.1) (pair b)
                (high-not-low (get_or s (at + k) 0) hi.1) (omega arith) (omega arith) (λ e. rw q f)
            split false b = plain (dec_lt (get_or s (at + k) 0) 0xD800) (dec_lt (get_or s (at + k) 0) 0xE000)
              where
                plain : Dec (get_or s (at + k) 0 < 0xD800) → Dec (get_or s (at + k) 0 < 0xE000) → Midway s at n d (k + 1) z (set o end x)
                plain (yes i) j =
                    wrote here (alone s (at + k) (omega arith) (omega (arith, units (at + k))) (λ y. absurd (omega arith))) (unit b)
                    (high-not-low (get_or s (at + k) 0) (omega arith)) (omega arith) (omega arith) (λ e. absurd (omega (arith, e)))
                plain (no i) (yes j) = differ (is_high_lem (get_or s (at + k) 0) (omega arith) (pair_stands s (at + k) (begins here (omega arith)) (omega arith) j).0) b
                plain (no i) (no j) =
                    wrote here (alone s (at + k) (omega arith) (omega (arith, units (at + k))) (λ y. omega arith)) (unit b)
                    (above_not-low (get_or s (at + k) 0) (omega arith)) (omega arith) (omega arith) (λ e. absurd (omega (arith, e)))

  -- before the last character all others were written
  module _ {m : ℕ} (inside : at + m ≤ length s) (last : LastCharacter s at m k) where
    whole : w.passed ≡ k
    whole = go (dec_lt k w.passed) (dec_lt (k + 1) m)
      where
        go : Dec (k < w.passed) → Dec (k + 1 < m) → w.passed ≡ k
        go (no a) b = omega (arith, w.least)
        go (yes a) (no b) = differ (w.behind (omega (arith, w.most))) (last.alone (omega (arith, last.inside)))
        go (yes a) (yes b) = begins-not-low s (at + (k + 1)) (begins (omega (arith, w.most)) (omega arith)) (last.paired (omega (arith, last.near)))

    pub midway_stands : Stands utf16 s (at + k)
    midway_stands = begins whole (omega (arith, last.inside))

    module _ {v l : ℕ} (a : CharacterAt utf16 s (at + k) v (span (at + k) l)) where
      a' : CharacterAt utf16 s (at + w.passed) v (span (at + k) l)
      a' = rw whole a

      r : Run utf16 ucs4 s (at + w.passed) l (encode ucs4 v)
      r = run_one a' (convertible_character left a')

      pub midway_last-room : end + length (encode ucs4 v) ≤ length o
      midway_last-room = omega (arith, (convertible_run left r).0, w.cells.same)

      pub midway_all : {z : ℕ} {p : List ℕ} → z ≡ end + length (encode ucs4 v) → p ≡ with_units o end (encode ucs4 v) → WrittenTo utf16 ucs4 s at (k + l) d n z p
      midway_all {z} {p} e g =
          rw (← whole)
          (record {
            out = w.out ++ encode ucs4 v;
            run = run_join w.run r;
            counted = omega (arith, w.counted, length-append w.out (encode ucs4 v));
            cells = g ∙ rw w.counted (spare_last w.cells (encode ucs4 v) (some (encode ucs4 v) (convertible_character left a')));
          })

      -- all units were passed
      pub midway_passed : m ≤ k + l
      midway_passed = go (dec_lt (k + 1) m) (dec_lt 1 l)
        where
          go : Dec (k + 1 < m) → Dec (1 < l) → m ≤ k + l
          go (no b) j = omega (arith, (character-onward a).0)
          go (yes b) (yes j) = omega (arith, last.near)
          go (yes b) (no j) =
              let q : l ≡ 1 = omega (arith, (character-onward a).0) in
              let t : at + w.passed + 1 ≡ at + (k + 1) = omega (arith, whole) in
              let f : Convertible utf16 ucs4 s (at + (k + 1)) (end + length (encode ucs4 v)) (length d) = rw t at (rw q at (convertible_run left r).1) in
              begins-not-low s (at + (k + 1)) (convertible_stands (omega arith) f) (last.paired (omega (arith, last.near)))
