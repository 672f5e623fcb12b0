-- Bytes at which nothing is wrong, between two leads, are whole characters.
use Prim.Native.Nat.{ℕ, ◌+◌, ◌-◌, ◌≤◌, ◌<◌}
use mathlib.Core.Path.{◌≡◌, refl, sym, ap, ◌∙◌}
use mathlib.Core.Logic.{◌⊎◌, inl, inr, ⊎_elim}
use mathlib.Core.Bool.{Bool, true, false, not, ◌&&◌, ◌||◌, beq}
use mathlib.Core.List.{List, [], ◌∷◌}
use native.Mathlib.Omega.{arith}
use native.Mathlib.Decide.{dec_lt}
use native.Mathlib.Nat.{add-zero}
use lib.Dec.{leb, ltb, eqb}
use borrow.Author.Tests.{lt-ltb, le-leb, lt-leb, eq-eqb, ltb-true, ltb-false, leb-true, leb-false, eqb-false}
use lib.ListN.{length, get_or, drop}
use Rattle.forms.specs.Form.{Form}
use Rattle.forms.specs.Forms.{byte_layout, fss_utf}
use Rattle.laws.proofs.Carried.{free_below, free_above}
use Rattle.laws.proofs.ReadUnits.{read-units, behind-one, behind-two, behind-three}
use Rattle.laws.proofs.Runs.{Counted, counted_none, sum, sum_zero, sum_more, sum_join, Next, between}
use Rattle.laws.proofs.Moved.{counted_moved}
use Rattle.laws.proofs.Table.{and_left, and_right}
use Rattle.laws.proofs.Values.{neither_left as or_left, neither_right as or_right, and_false}
use Rattle.measure_runs.specs.declared.fss_utf_validation.Weights.{Weights}
use Rattle.measure_runs.specs.Validation.{is_trailing_byte, asks_trailing, no_byte, no_second, no_third, ill_formed, ill_formed_at, Validated, added, added_at, value2, value3, value4, LeadWeights, Weighs, Weighed, Whole, Padded}
use Rattle.measure_runs.proofs.Validating.{zeros-add}

same : (a b : Bool) → not (beq a b) ≡ false → a ≡ b
same true true h = refl
same true false h = h
same false true h = sym h
same false false h = refl

or_true : (a b : Bool) → b ≡ true → (a || b) ≡ true
or_true true b h = refl
or_true false b h = h

pub differ : {A : Type 0} {b : Bool} → b ≡ true → b ≡ false → A
differ p q = absurd (let z : ◌≡◌ {A = ℕ} 0 1 = cc in omega arith)

-- what is known of a byte b behind p3, p2 and p1 at which nothing is wrong
record Right (p3 p2 p1 b : ℕ) : Type 0 where
  pub due : asks_trailing p3 p2 p1 ≡ is_trailing_byte b
  pub c0 : b ≡ 0xC0 → ⊥
  pub c1 : b ≡ 0xC1 → ⊥
  pub f5 : b < 0xF5
  pub e0 : p1 ≡ 0xE0 → 0xA0 ≤ b
  pub ed : p1 ≡ 0xED → b < 0xA0
  pub f0 : p1 ≡ 0xF0 → 0x90 ≤ b
  pub f4 : p1 ≡ 0xF4 → b < 0x90
  pub ef : p2 ≡ 0xEF → p1 ≡ 0xBF → b < 0xBE

right : (p3 p2 p1 b : ℕ) → ill_formed p3 p2 p1 b ≡ false → Right p3 p2 p1 b
unfolding ill_formed
right p3 p2 p1 b h =
    let m = not (beq (asks_trailing p3 p2 p1) (is_trailing_byte b)) in
    let t : no_third p2 p1 b ≡ false = or_right (m || no_byte b || no_second p1 b) (no_third p2 p1 b) h in
    let h2 : (m || no_byte b || no_second p1 b) ≡ false = or_left (m || no_byte b || no_second p1 b) (no_third p2 p1 b) h in
    let l : no_second p1 b ≡ false = or_right (m || no_byte b) (no_second p1 b) h2 in
    let h1 : (m || no_byte b) ≡ false = or_left (m || no_byte b) (no_second p1 b) h2 in
    let o : no_byte b ≡ false = or_right m (no_byte b) h1 in
    let o1 : (eqb b 0xC0 || eqb b 0xC1) ≡ false = or_left (eqb b 0xC0 || eqb b 0xC1) (leb 0xF5 b) o in
    let A = eqb p1 0xE0 && ltb b 0xA0 in
    let B = eqb p1 0xED && leb 0xA0 b in
    let C = eqb p1 0xF0 && ltb b 0x90 in
    let D = eqb p1 0xF4 && leb 0x90 b in
    let l1 : (A || B || C) ≡ false = or_left (A || B || C) D l in
    let l2 : (A || B) ≡ false = or_left (A || B) C l1 in
    record {
      due = same (asks_trailing p3 p2 p1) (is_trailing_byte b) (or_left m (no_byte b) h1);
      c0 = eqb-false b 0xC0 (or_left (eqb b 0xC0) (eqb b 0xC1) o1);
      c1 = eqb-false b 0xC1 (or_right (eqb b 0xC0) (eqb b 0xC1) o1);
      f5 = leb-false 0xF5 b (or_right (eqb b 0xC0 || eqb b 0xC1) (leb 0xF5 b) o);
      e0 = λ e. ltb-false b 0xA0 (and_false (eqb p1 0xE0) (ltb b 0xA0) (or_left A B l2) (eq-eqb p1 0xE0 e));
      ed = λ e. leb-false 0xA0 b (and_false (eqb p1 0xED) (leb 0xA0 b) (or_right A B l2) (eq-eqb p1 0xED e));
      f0 = λ e. ltb-false b 0x90 (and_false (eqb p1 0xF0) (ltb b 0x90) (or_right (A || B) C l1) (eq-eqb p1 0xF0 e));
      f4 = λ e. leb-false 0x90 b (and_false (eqb p1 0xF4) (leb 0x90 b) (or_right (A || B || C) D l) (eq-eqb p1 0xF4 e));
      ef = λ e f. leb-false 0xBE b (and_false (eqb p2 0xEF && eqb p1 0xBF) (leb 0xBE b) t (rw (eq-eqb p2 0xEF e, eq-eqb p1 0xBF f)));
    }

-- a trailing byte
abbrev Trails : ℕ → Type 0
Trails b = (0x80 ≤ b) × (b < 0xC0)

trails_true : (b : ℕ) → 0x80 ≤ b → b < 0xC0 → is_trailing_byte b ≡ true
trails_true b h l = rw (le-leb 0x80 b h, lt-ltb b 0xC0 l)

module _ {p3 p2 p1 b : ℕ} (r : Right p3 p2 p1 b) where
  asked : asks_trailing p3 p2 p1 ≡ true → Trails b
  asked m =
      let t : is_trailing_byte b ≡ true = sym r.due ∙ m in
      (leb-true 0x80 b (and_left (leb 0x80 b) (ltb b 0xC0) t), ltb-true b 0xC0 (and_right (leb 0x80 b) (ltb b 0xC0) t))

  second : 0xC0 ≤ p1 → Trails b
  second h = asked (rw (le-leb 0xC0 p1 h))

  third : 0xE0 ≤ p2 → Trails b
  third h = asked (rw (le-leb 0xE0 p2 h) (ap (λ (x : Bool). x || leb 0xF0 p3) (or_true (leb 0xC0 p1) true refl)))

  fourth : 0xF0 ≤ p3 → Trails b
  fourth h = asked (or_true (leb 0xC0 p1 || leb 0xE0 p2) (leb 0xF0 p3) (le-leb 0xF0 p3 h))

  lead_next : p1 < 0xC0 → p2 < 0xE0 → p3 < 0xF0 → is_trailing_byte b ≡ false
  lead_next a c d = sym r.due ∙ rw (lt-leb 0xC0 p1 a, lt-leb 0xE0 p2 c, lt-leb 0xF0 p3 d)

  lead-before : is_trailing_byte b ≡ false → (p1 < 0xC0) × (p2 < 0xE0) × (p3 < 0xF0)
  lead-before t =
      let m : asks_trailing p3 p2 p1 ≡ false = r.due ∙ t in
      let n : (leb 0xC0 p1 || leb 0xE0 p2) ≡ false = or_left (leb 0xC0 p1 || leb 0xE0 p2) (leb 0xF0 p3) m in (
        leb-false 0xC0 p1 (or_left (leb 0xC0 p1) (leb 0xE0 p2) n),
        leb-false 0xE0 p2 (or_right (leb 0xC0 p1) (leb 0xE0 p2) n),
        leb-false 0xF0 p3 (or_right (leb 0xC0 p1 || leb 0xE0 p2) (leb 0xF0 p3) m),
      )

-- the sums of the bytes of one character
module _ (a : ℕ → ℕ) (at : ℕ) where
  sum_one : sum a at 1 ≡ a at
  sum_one = sum_more a at 0 ∙ rw (sum_zero a at, add-zero at) (omega arith)

  sum_two : sum a at 2 ≡ a at + a (at + 1)
  sum_two = sum_more a at 1 ∙ rw sum_one

  sum_three : sum a at 3 ≡ a at + a (at + 1) + a (at + 2)
  sum_three = sum_more a at 2 ∙ rw sum_two

  sum_four : sum a at 4 ≡ a at + a (at + 1) + a (at + 2) + a (at + 3)
  sum_four = sum_more a at 3 ∙ rw sum_three

abbrev Border : List ℕ → ℕ → Type 0
Border s i = is_trailing_byte (get_or s i 0) ≡ false

module _ (w : Weights) (G : Form) (weighs : Weighs w G) (s : List ℕ) (from e : ℕ) (behind : 3 ≤ from) (inside : e < length s) (end : Border s e)
    (valid : (k : ℕ) → from ≤ k → k ≤ e → ill_formed_at s k ≡ false) where
  right_at : (k a b c : ℕ) → from ≤ k → k ≤ e → k - 3 ≡ a → k - 2 ≡ b → k - 1 ≡ c → Right (get_or s a 0) (get_or s b 0) (get_or s c 0) (get_or s k 0)
  right_at k a b c h l p q r = rw (p, q, r) at (right (get_or s (k - 3) 0) (get_or s (k - 2) 0) (get_or s (k - 1) 0) (get_or s k 0) (valid k h l))

  -- where a trailing byte stands, the end is not reached
  before : (k : ℕ) → k ≤ e → Trails (get_or s k 0) → k < e
  before k l t = go (dec_lt k e)
    where
      go : Dec (k < e) → k < e
      go (yes d) = d
      go (no d) = let z : k ≡ e = omega arith in differ (trails_true (get_or s k 0) t.0 t.1) (rw z end)

  module _ (at : ℕ) (h : from ≤ at) (l : at < e) (t : Border s at) where
    abbrev A : ℕ
    A = get_or s at 0

    abbrev B : ℕ
    B = get_or s (at + 1) 0

    abbrev C : ℕ
    C = get_or s (at + 2) 0

    abbrev D : ℕ
    D = get_or s (at + 3) 0

    r0 : Right (get_or s (at - 3) 0) (get_or s (at - 2) 0) (get_or s (at - 1) 0) A
    r0 = right_at at (at - 3) (at - 2) (at - 1) h (omega arith) refl refl refl

    r1 : Right (get_or s (at - 2) 0) (get_or s (at - 1) 0) A B
    r1 = right_at (at + 1) (at - 2) (at - 1) at (omega arith) (omega arith) (omega arith) (omega arith) (omega arith)

    r2 : at + 1 < e → Right (get_or s (at - 1) 0) A B C
    r2 k = right_at (at + 2) (at - 1) at (at + 1) (omega arith) (omega arith) (omega arith) (omega arith) (omega arith)

    r3 : at + 2 < e → Right A B C D
    r3 k = right_at (at + 3) at (at + 1) (at + 2) (omega arith) (omega arith) (omega arith) (omega arith) (omega arith)

    r4 : at + 3 < e → Right B C D (get_or s (at + 4) 0)
    r4 k = right_at (at + 4) (at + 1) (at + 2) (at + 3) (omega arith) (omega arith) (omega arith) (omega arith) (omega arith)

    p : (get_or s (at - 1) 0 < 0xC0) × (get_or s (at - 2) 0 < 0xE0) × (get_or s (at - 3) 0 < 0xF0)
    p = lead-before r0 t

    -- the place behind a byte is the one before the next
    before_is : (i j : ℕ) → i - 1 ≡ j → added_at w s i ≡ added w (get_or s j 0) (get_or s i 0)
    before_is i j q = rw q

    one : A < 0x80 → Next fss_utf G s e (added_at w s) (Border s) at
    one x =
        record {
          value = A;
          long = 1;
          character = read-units (byte_layout 6 6) refl s at [] (drop (at + 1) s) A (omega arith) refl tt (omega arith) (omega arith) (omega arith) (omega arith) (omega arith) (free_below A (omega arith));
          held = weighs.low A (omega arith);
          within = omega arith;
          counted = sum_one (added_at w s) at ∙ weighs.one (get_or s (at - 1) 0) A x;
          few = weighs.few A;
          border = lead_next r1 (omega arith) (omega (arith, p.0)) (omega (arith, p.1));
        }

    two : 0xC2 ≤ A → A < 0xE0 → Next fss_utf G s e (added_at w s) (Border s) at
    two x y =
        let b = second r1 (omega arith) in
        let k1 = before (at + 1) (omega arith) b in
        record {
          value = value2 A B;
          long = 2;
          character =
              read-units (byte_layout 6 6) refl s at (B ∷ []) (drop (at + 2) s) (value2 A B) (omega arith) (behind-one s at (omega arith))
              ((b.0, omega (arith, b.1)), tt) (omega arith) (omega arith) (omega arith) (omega arith) (omega (arith, b)) (free_below (value2 A B) (omega (arith, b)));
          held = weighs.low (value2 A B) (omega (arith, b));
          within = omega arith;
          counted = sum_two (added_at w s) at ∙ rw (before_is (at + 1) at (omega arith)) (weighs.two (get_or s (at - 1) 0) A B x y b.0 b.1);
          few = weighs.few (value2 A B);
          border = lead_next (r2 k1) b.1 y (omega (arith, p.0));
        }

    three : 0xE0 ≤ A → A < 0xF0 → Next fss_utf G s e (added_at w s) (Border s) at
    three x y =
        let b = second r1 (omega arith) in
        let k1 = before (at + 1) (omega arith) b in
        let c = third (r2 k1) x in
        let k2 = before (at + 2) (omega arith) c in
        let u = least b (dec_lt A 0xE1) in
        let o = range b c (dec_lt A 0xED) (dec_lt A 0xEE) in
        let n = ⊎_elim (λ h. weighs.low (value3 A B C) h) (λ h. weighs.high (value3 A B C) h.0 h.1 (λ g. pass b c k1 g (dec_lt A 0xEF) (dec_lt B 0xBF))) o in
        record {
          value = value3 A B C;
          long = 3;
          character =
              read-units (byte_layout 6 6) refl s at (B ∷ C ∷ []) (drop (at + 3) s) (value3 A B C) (omega arith) (behind-two s at (omega arith))
              ((b.0, omega (arith, b.1)), ((c.0, omega (arith, c.1)), tt)) (omega arith) (omega arith) (omega arith) (omega arith) u
              (⊎_elim (λ h. free_below (value3 A B C) h) (λ h. free_above (value3 A B C) h.0) o);
          held = n;
          within = omega arith;
          counted =
              sum_three (added_at w s) at
              ∙ rw (before_is (at + 1) at (omega arith), before_is (at + 2) (at + 1) (omega arith)) (weighs.three (get_or s (at - 1) 0) A B C x y b.0 b.1 c.0 c.1 u n);
          few = weighs.few (value3 A B C);
          border = lead_next (r3 k2) c.1 (omega (arith, b.1)) y;
        }
      where
        least : Trails B → Dec (A < 0xE1) → 0x800 ≤ value3 A B C
        least b (yes d) = let z : A ≡ 0xE0 = omega arith in omega (arith, r1.e0 z)
        least b (no d) = omega arith

        -- neither FFFE nor FFFF
        pass : Trails B → Trails C → at + 1 < e → 0xFFFE ≤ value3 A B C → Dec (A < 0xEF) → Dec (B < 0xBF) → 0x10000 ≤ value3 A B C
        pass b c k g (yes d) f = absurd (omega (arith, b, c))
        pass b c k g (no d) (yes f) = absurd (omega (arith, b, c))
        pass b c k g (no d) (no f) = absurd (let x : A ≡ 0xEF = omega arith in let z : B ≡ 0xBF = omega (arith, b) in omega (arith, (r2 k).ef x z, b, c))

        range : Trails B → Trails C → Dec (A < 0xED) → Dec (A < 0xEE) → (value3 A B C < 0xD800) ⊎ ((0xE000 ≤ value3 A B C) × (value3 A B C < 0x110000))
        range b c (yes d) f = inl (omega (arith, b, c))
        range b c (no d) (yes f) = let z : A ≡ 0xED = omega arith in inl (omega (arith, r1.ed z, b, c, z))
        range b c (no d) (no f) = inr (omega arith, omega (arith, b, c))

    four : 0xF0 ≤ A → Next fss_utf G s e (added_at w s) (Border s) at
    four x =
        let b = second r1 (omega arith) in
        let k1 = before (at + 1) (omega arith) b in
        let c = third (r2 k1) (omega arith) in
        let k2 = before (at + 2) (omega arith) c in
        let d = fourth (r3 k2) x in
        let k3 = before (at + 3) (omega arith) d in
        let u = least b (dec_lt A 0xF1) in
        let m = most b c d (dec_lt A 0xF4) in
        record {
          value = value4 A B C D;
          long = 4;
          character =
              read-units (byte_layout 6 6) refl s at (B ∷ C ∷ D ∷ []) (drop (at + 4) s) (value4 A B C D) (omega arith) (behind-three s at (omega arith))
              ((b.0, omega (arith, b.1)), ((c.0, omega (arith, c.1)), ((d.0, omega (arith, d.1)), tt))) (omega arith) (omega arith) (omega (arith, r0.f5)) (omega arith) u
              (free_above (value4 A B C D) (omega (arith, u)));
          held = weighs.high (value4 A B C D) (omega (arith, u)) m (λ g. u);
          within = omega arith;
          counted =
              sum_four (added_at w s) at
              ∙ rw (before_is (at + 1) at (omega arith), before_is (at + 2) (at + 1) (omega arith), before_is (at + 3) (at + 2) (omega arith))
              (weighs.four (get_or s (at - 1) 0) A B C D x r0.f5 b.0 b.1 c.0 c.1 d.0 d.1 u m);
          few = weighs.few (value4 A B C D);
          border = lead_next (r4 k3) d.1 (omega (arith, c.1)) (omega (arith, b.1));
        }
      where
        least : Trails B → Dec (A < 0xF1) → 0x10000 ≤ value4 A B C D
        least b (yes d) = let z : A ≡ 0xF0 = omega arith in omega (arith, r1.f0 z)
        least b (no d) = omega arith

        most : Trails B → Trails C → Trails D → Dec (A < 0xF4) → value4 A B C D < 0x110000
        most b c d (yes f) = omega (arith, b, c, d)
        most b c d (no f) = let z : A ≡ 0xF4 = omega (arith, r0.f5) in omega (arith, r1.f4 z, b, c, d, z)

    lead : 0x80 ≤ A → 0xC2 ≤ A
    lead x = omega (arith, ltb-false A 0xC0 (and_false (leb 0x80 A) (ltb A 0xC0) t (le-leb 0x80 A x)), r0.c0, r0.c1)

    next : Next fss_utf G s e (added_at w s) (Border s) at
    next = go (dec_lt A 0x80) (dec_lt A 0xE0) (dec_lt A 0xF0)
      where
        go : Dec (A < 0x80) → Dec (A < 0xE0) → Dec (A < 0xF0) → Next fss_utf G s e (added_at w s) (Border s) at
        go (yes i) j k = one i
        go (no i) (yes j) k = two (lead (omega arith)) j
        go (no i) (no j) (yes k) = three (omega arith) k
        go (no i) (no j) (no k) = four (omega arith)

-- so they count what their characters have in the target
pub whole-counted : {w : Weights} {G : Form} {s : List ℕ} {at n u : ℕ} → Weighs w G → at ≤ length s → Whole w s at n u → Counted fss_utf G s at n u
whole-counted {w} {G} {s} {at} {n} {u} weighs h c = go (dec_lt 0 n)
  where
    go : Dec (0 < n) → Counted fss_utf G s at n u
    go (yes d) =
        let b = c.some (λ z. omega (arith, z)) in
        let f : (k : ℕ) → at ≤ k → k ≤ at + n → ill_formed_at s k ≡ false = λ k i j. (let q : at + (k - at) ≡ k = omega arith in rw q at (b.valid.all.each (k - at) (omega arith))) in
        let q : at + n - at ≡ n = omega arith in
        rw c.counted
        (rw q at
        (between (Border s) (added_at w s) at (at + n) (λ p i j k. next w G weighs s at (at + n) b.behind b.inside b.last f p i j k) n at (omega arith) (omega arith) (omega arith) (omega (arith, b.inside)) b.first))
    go (no d) =
        let q : n ≡ 0 = omega arith in
        let z : u ≡ 0 = c.counted ∙ ap (sum (added_at w s) at) q ∙ sum_zero (added_at w s) at in
        rw (q, z) (counted_none h)

-- and so do the bytes of a stretch that is right in a block of its own
module _ {s b : List ℕ} {at j : ℕ} (x : Padded s at j b) (inside : at + j ≤ length s) (small : j < 64) (border : Border b 3) (valid : Validated b 3 64) where
  zero_border : Border b (3 + j)
  zero_border = rw (x.zeros (3 + j) (omega arith))

  pub padded_counted : (w : Weights) → Weighed w s at j (sum (added_at w b) 3 j)
  padded_counted w =
      record {
        counts =
            λ G weighs.
            counted_moved 3 at j (added_at w b) (Border b) inside (λ i h. sym (x.held i h))
            (λ p h l d.
            next w G weighs b 3 (3 + j) (omega arith) (omega (arith, x.long)) zero_border
            (λ k m n. let q : 3 + (k - 3) ≡ k = omega arith in rw q at (valid.all.each (k - 3) (omega arith))) p h l d)
            border;
      }

  -- counted without the zeros behind them
  pub padded_units : {w : Weights} {u : ℕ} → LeadWeights w → u ≡ sum (added_at w b) 3 64 → (64 - j ≤ u) × Weighed w s at j (u - (64 - j))
  padded_units {w} {u} h e =
      let q : j + (64 - j) ≡ 64 = omega arith in
      let z : sum (added_at w b) 3 64 ≡ sum (added_at w b) 3 j + sum (added_at w b) (3 + j) (64 - j) = rw q at (sum_join (added_at w b) 3 j (64 - j)) in
      let n = zeros-add x h (64 - j) in
      let v : u - (64 - j) ≡ sum (added_at w b) 3 j = omega (arith, e, z, n) in
      (omega (arith, e, z, n), rw v (padded_counted w))
