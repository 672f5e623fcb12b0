-- How many units a block of UCS-4 becomes: by the bounds that its units reach.
use Prim.Native.Nat.{ℕ, suc, ◌+◌, ◌-◌, ◌≤◌, ◌<◌}
use mathlib.Core.Path.{◌≡◌, sym, ap, ◌∙◌}
use mathlib.Core.Logic.{◌≢◌}
use mathlib.Core.Bool.{false}
use mathlib.Core.List.{List, []}
use native.Mathlib.Omega.{arith}
use native.Mathlib.Nat.{add-zero, zero-add}
use native.Mathlib.Decide.{dec_lt}
use lib.Dec.{leb}
use lib.ListN.{length, get_or}
use borrow.Author.Tests.{le-leb, lt-leb}
use Rattle.forms.specs.Form.{Form, encode}
use Rattle.forms.specs.Forms.{is_surrogate, is_non_character, ucs4, utf16, turned_away, strictly}
use Rattle.forms.specs.Layout.{lowest_of}
use Rattle.laws.proofs.Runs.{Counted, sum, sum_zero, sum_more, Next, between}
use Rattle.laws.proofs.Blocks.{AtMost, NoneOf, no_surrogates, no_non_characters}
use Rattle.laws.proofs.FormLaws.{Laws}
use Rattle.laws.proofs.FourForms.{utf16_laws}
use Rattle.laws.proofs.Carried.{outside, is_character}
use Rattle.laws.proofs.Narrowed.{as_before, narrowed_laws, strict_same}
use Rattle.laws.proofs.Values.{neither_left, neither_right, sum_along, sum_plus, sum_ones, sum_none}
use Rattle.tables.specs.ByteForms.{byte_form, layout_of}
use Rattle.tables.specs.declared.ByteForm.{ByteForm}
use Rattle.tables.specs.declared.ByteForm.TheVariants.{FssUtf, UtfEbcdic}
use Rattle.tables.proofs.ByteLayouts.{byte_laws, rise, carries, small, encode-length}
use Rattle.encoder.specs.declared.Target.TheVariants as Target
use Rattle.encoder.proofs.Targets.{encode_seven}
use Rattle.laws.proofs.UnitEncodings.{below_surrogates, above_surrogates, pair}
use Rattle.std.specs.Int.{from_bool}
use Rattle.measure_runs.specs.Ucs4Bounds.{is_excluded, reached, reached_at, units_at}
use Rattle.measure_runs.proofs.Ucs4Units.{unit-character}
use Rattle.measure_runs.proofs.Validating.{from_bool-most}

-- a list of one or more is not empty
some : (e : List ℕ) (n : ℕ) → length e ≡ 1 + n → e ≢ []
some e n h z = omega (arith, h, ap length z)

-- a value that strict conversion writes in some form
no_surrogate : (v : ℕ) → is_excluded v ≡ false → is_surrogate v ≡ false
no_surrogate v e = neither_left (is_surrogate v) (is_non_character v) e

no_non_character : (v : ℕ) → is_excluded v ≡ false → is_non_character v ≡ false
no_non_character v e = neither_right (is_surrogate v) (is_non_character v) e

pub none-excluded : {s : List ℕ} {at n m : ℕ} → AtMost s at n m → m < 0xD800 → NoneOf is_excluded s at n
none-excluded a h = record { each = λ k i. rw ((no_surrogates a h).each k i, (no_non_characters a (omega arith)).each k i) }

-- units that the target holds become as many units as their encodings have
module _ (G : Form) (laws : Laws G) (s : List ℕ) (at k : ℕ) (inside : at + k ≤ length s) where
  abbrev length_at : ℕ → ℕ
  length_at i = length (encode G (get_or s i 0))

  pub counted-units :
      ((i : ℕ) → i < k → (encode G (get_or s (at + i) 0) ≢ []) × (length (encode G (get_or s (at + i) 0)) ≤ 7))
      → Counted ucs4 G s at k (sum length_at at k)
  counted-units h =
      let e : at + k - at ≡ k = omega arith in
      rw e at (between (λ p. Unit {0}) length_at at (at + k) next k at (omega arith) (omega arith) (omega arith) inside tt)
    where
      next : (p : ℕ) → at ≤ p → p < at + k → Unit {0} → Next ucs4 G s (at + k) length_at (λ p. Unit {0}) p
      next p a b t =
          let e : at + (p - at) ≡ p = omega arith in
          let u = rw e at (h (p - at) (omega arith)) in
          record {
            value = get_or s p 0;
            long = 1;
            character = unit-character s p (omega arith) (is_character G laws (get_or s p 0) u.0);
            held = u.0;
            within = omega arith;
            counted = sum_more length_at p 0 ∙ rw (sum_zero length_at p, add-zero p) (zero-add (length_at p));
            few = u.1;
            border = tt;
          }

-- bounds that a value is below, or reaches
reached-none : (a b c v : ℕ) → v < a → a ≤ b → b ≤ c → reached a b c v ≡ 0
reached-none a b c v h k l = rw (lt-leb a v h, lt-leb b v (omega arith), lt-leb c v (omega arith))

reached-one : (a b c v : ℕ) → a ≤ v → v < b → b ≤ c → reached a b c v ≡ 1
reached-one a b c v h k l = rw (le-leb a v h, lt-leb b v k, lt-leb c v (omega arith))

reached-two : (a b c v : ℕ) → a ≤ v → b ≤ v → v < c → reached a b c v ≡ 2
reached-two a b c v h k l = rw (le-leb a v h, le-leb b v k, lt-leb c v l)

reached-three : (a b c v : ℕ) → a ≤ v → b ≤ v → c ≤ v → reached a b c v ≡ 3
reached-three a b c v h k l = rw (le-leb a v h, le-leb b v k, le-leb c v l)

pub reached-most : (a b c v : ℕ) → reached a b c v ≤ 3
reached-most a b c v = omega (arith, from_bool-most (leb a v), from_bool-most (leb b v), from_bool-most (leb c v))

byte_seven : (f : ByteForm) (v : ℕ) → length (encode (strictly (byte_form f)) v) ≤ 7
byte_seven FssUtf v = encode_seven Target.FssUtf v
byte_seven UtfEbcdic v = encode_seven Target.UtfEbcdic v

-- a length that grows by one at each of six bounds
module _ (L a b c d e g v : ℕ) (ab : a ≤ b) (bc : b ≤ c) (cd : c ≤ d) (de : d ≤ e) (eg : e ≤ g) where
  abbrev bounds : ℕ
  bounds = reached a b c v + reached d e g v

  by_bounds :
      (v < a → L ≡ 1) → (a ≤ v → v < b → L ≡ 2) → (b ≤ v → v < c → L ≡ 3) → (c ≤ v → v < d → L ≡ 4) → (d ≤ v → v < e → L ≡ 5) → (e ≤ v → v < g → L ≡ 6)
      → (g ≤ v → L ≡ 7) → L ≡ 1 + bounds
  by_bounds l1 l2 l3 l4 l5 l6 l7 = go (dec_lt v a) (dec_lt v b) (dec_lt v c) (dec_lt v d) (dec_lt v e) (dec_lt v g)
    where
      go : Dec (v < a) → Dec (v < b) → Dec (v < c) → Dec (v < d) → Dec (v < e) → Dec (v < g) → L ≡ 1 + bounds
      go (yes h) q r s t u = omega (arith, l1 h, reached-none a b c v h ab bc, reached-none d e g v (omega arith) de eg)
      go (no p) (yes h) r s t u = omega (arith, l2 (omega arith) h, reached-one a b c v (omega arith) h bc, reached-none d e g v (omega arith) de eg)
      go (no p) (no q) (yes h) s t u = omega (arith, l3 (omega arith) h, reached-two a b c v (omega arith) (omega arith) h, reached-none d e g v (omega arith) de eg)
      go (no p) (no q) (no r) (yes h) t u =
          omega (arith, l4 (omega arith) h, reached-three a b c v (omega arith) (omega arith) (omega arith), reached-none d e g v h de eg)
      go (no p) (no q) (no r) (no s) (yes h) u =
          omega (arith, l5 (omega arith) h, reached-three a b c v (omega arith) (omega arith) (omega arith), reached-one d e g v (omega arith) h eg)
      go (no p) (no q) (no r) (no s) (no t) (yes h) =
          omega (arith, l6 (omega arith) h, reached-three a b c v (omega arith) (omega arith) (omega arith), reached-two d e g v (omega arith) (omega arith) h)
      go (no p) (no q) (no r) (no s) (no t) (no u) =
          omega (arith, l7 (omega arith), reached-three a b c v (omega arith) (omega arith) (omega arith), reached-three d e g v (omega arith) (omega arith) (omega arith))

pub rows : (f : ByteForm) → 6 ≤ length (layout_of f).rows
rows FssUtf = omega arith
rows UtfEbcdic = omega arith

-- only UTF-EBCDIC has seven bytes
seven : (f : ByteForm) (v : ℕ) → encode (byte_form f) v ≢ [] → lowest_of (layout_of f) 6 ≤ v → length (encode (byte_form f) v) ≡ 7
seven FssUtf v h l = absurd (omega (arith, small FssUtf v h))
seven UtfEbcdic v h l = encode-length UtfEbcdic v h 6 (omega arith) l (small UtfEbcdic v h)

module _ (f : ByteForm) where
  abbrev low : ℕ → ℕ
  low k = lowest_of (layout_of f) k

  rises : (k : ℕ) → k < 5 → low (suc k) ≤ low (suc (suc k))
  rises k h = rise f k (omega (arith, rows f))

  byte_length : (v : ℕ) → encode (byte_form f) v ≢ [] → length (encode (byte_form f) v) ≡ 1 + (reached (low 1) (low 2) (low 3) v + reached (low 4) (low 5) (low 6) v)
  byte_length v h =
      by_bounds (length (encode (byte_form f) v)) (low 1) (low 2) (low 3) (low 4) (low 5) (low 6) v
      (rises 0 (omega arith))
      (rises 1 (omega arith))
      (rises 2 (omega arith))
      (rises 3 (omega arith))
      (rises 4 (omega arith))
      (λ b. encode-length f v h 0 (omega (arith, rows f)) (omega arith) b)
      (λ a b. encode-length f v h 1 (omega (arith, rows f)) a b)
      (λ a b. encode-length f v h 2 (omega (arith, rows f)) a b)
      (λ a b. encode-length f v h 3 (omega (arith, rows f)) a b)
      (λ a b. encode-length f v h 4 (omega (arith, rows f)) a b)
      (λ a b. encode-length f v h 5 (omega (arith, rows f)) a b)
      (λ a. seven f v h a)

  abbrev front : List ℕ → ℕ → ℕ
  front s = reached_at (low 1) (low 2) (low 3) s

  abbrev back : List ℕ → ℕ → ℕ
  back s = reached_at (low 4) (low 5) (low 6) s

  -- a block of characters
  pub counted_bytes :
      (s : List ℕ) (at k m : ℕ) → at + k ≤ length s → AtMost s at k m → m < 0x80000000 → NoneOf is_excluded s at k
      → Counted ucs4 (strictly (byte_form f)) s at k (k + (sum (front s) at k + sum (back s) at k))
  counted_bytes s at k m i a h n =
      let u : (j : ℕ) → j < k → encode (byte_form f) (get_or s (at + j) 0) ≢ [] =
      λ j b. carries f (get_or s (at + j) 0) (omega (arith, a.each j b)) (rw (no_surrogate (get_or s (at + j) 0) (n.each j b))) in
      let same : (j : ℕ) → j < k → encode (strictly (byte_form f)) (get_or s (at + j) 0) ≡ encode (byte_form f) (get_or s (at + j) 0) =
      λ j b. as_before turned_away (byte_form f) (get_or s (at + j) 0) (rw (no_non_character (get_or s (at + j) 0) (n.each j b))) in
      let q : sum (λ i. length (encode (strictly (byte_form f)) (get_or s i 0))) at k ≡ k + (sum (front s) at k + sum (back s) at k) =
      sum_along (λ i. length (encode (strictly (byte_form f)) (get_or s i 0))) (λ i. 1 + (front s i + back s i)) at at k (λ j b. ap length (same j b) ∙ byte_length (get_or s (at + j) 0) (u j b))
      ∙ sum_plus (λ i. 1) (λ i. front s i + back s i) at k
      ∙ rw (sum_ones at k, sum_plus (front s) (back s) at k) in
      rw (← q) (counted-units (strictly (byte_form f)) (narrowed_laws turned_away (byte_form f) (byte_laws f)) s at k i (λ j b. ((λ e. u j b (sym (same j b) ∙ e)), byte_seven f (get_or s (at + j) 0))))

  one-low : low 1 ≤ 0xD800
  one-low = go f
    where
      go : (g : ByteForm) → lowest_of (layout_of g) 1 ≤ 0xD800
      go FssUtf = omega arith
      go UtfEbcdic = omega arith

  module _ {s : List ℕ} {at k m : ℕ} (i : at + k ≤ length s) (most : AtMost s at k m) where
    -- all below the first bound, below the fourth, or any
    pub bytes_one : {a : ℕ} → a ≡ low 1 → m < a → Counted ucs4 (strictly (byte_form f)) s at k k
    bytes_one {a} p h =
        let z : sum (front s) at k ≡ 0 =
        sum_none (front s) at k (λ j l. reached-none (low 1) (low 2) (low 3) (get_or s (at + j) 0) (omega (arith, most.each j l)) (rises 0 (omega arith)) (rises 1 (omega arith))) in
        let y : sum (back s) at k ≡ 0 =
        sum_none (back s) at k
        (λ j l.
        reached-none (low 4) (low 5) (low 6) (get_or s (at + j) 0) (omega (arith, most.each j l, rises 0 (omega arith), rises 1 (omega arith), rises 2 (omega arith)))
        (rises 3 (omega arith))
        (rises 4 (omega arith))) in
        let q : k + (sum (front s) at k + sum (back s) at k) ≡ k = omega (arith, z, y) in
        rw q at (counted_bytes s at k m i most (omega (arith, one-low)) (none-excluded most (omega (arith, one-low))))

    module _ {a b c w : ℕ} (p : a ≡ low 1) (q : b ≡ low 2) (t : c ≡ low 3) (x : w ≡ sum (reached_at a b c s) at k) (h : m < 0x80000000) (o : NoneOf is_excluded s at k) where
      counted-front : w ≡ sum (front s) at k
      counted-front = x ∙ rw (p, q, t)

      pub bytes_few : {d : ℕ} → d ≡ low 4 → m < d → Counted ucs4 (strictly (byte_form f)) s at k (k + w)
      bytes_few {d} u l =
          let z : sum (back s) at k ≡ 0 =
          sum_none (back s) at k (λ j n. reached-none (low 4) (low 5) (low 6) (get_or s (at + j) 0) (omega (arith, most.each j n)) (rises 3 (omega arith)) (rises 4 (omega arith))) in
          let v : k + (sum (front s) at k + sum (back s) at k) ≡ k + w = omega (arith, z, counted-front) in
          rw v at (counted_bytes s at k m i most h o)

      pub bytes_all : {d e g w₂ : ℕ} → d ≡ low 4 → e ≡ low 5 → g ≡ low 6 → w₂ ≡ sum (reached_at d e g s) at k → Counted ucs4 (strictly (byte_form f)) s at k (k + w + w₂)
      bytes_all {d} {e} {g} {w₂} u v n x₂ =
          let z : w₂ ≡ sum (back s) at k = x₂ ∙ rw (u, v, n) in
          let t₂ : k + (sum (front s) at k + sum (back s) at k) ≡ k + w + w₂ = omega (arith, z, counted-front) in
          rw t₂ at (counted_bytes s at k m i most h o)

-- UTF-16
-- a value that is no surrogate, neither FFFE nor FFFF, and below 110000
record Held (v : ℕ) : Type 0 where
  pub outside : (0xD800 ≤ v → 0xE000 ≤ v)
  pub passes : is_non_character v ≡ false
  pub below : v < 0x110000

held-length : (v : ℕ) → Held v → length (encode (strictly utf16) v) ≡ 1 + from_bool (leb 0x10000 v)
held-length v h = ap length (as_before turned_away utf16 v (rw h.passes)) ∙ go (dec_lt v 0xD800) (dec_lt v 0x10000)
  where
    go : Dec (v < 0xD800) → Dec (v < 0x10000) → length (encode utf16 v) ≡ 1 + from_bool (leb 0x10000 v)
    go (yes a) b = ap length (below_surrogates v a) ∙ rw (lt-leb 0x10000 v (omega arith))
    go (no a) (yes b) = ap length (above_surrogates v (h.outside (omega arith)) b) ∙ rw (lt-leb 0x10000 v b)
    go (no a) (no b) = ap length (pair v (omega arith) h.below) ∙ rw (le-leb 0x10000 v (omega arith))

-- what the test says of a unit
held_test : (v : ℕ) → is_excluded v ≡ false → v < 0x110000 → Held v
held_test v e h = record { outside = outside v (rw (no_surrogate v e)); passes = no_non_character v e; below = h }

pub units-most : (s : List ℕ) (i : ℕ) → units_at s i ≤ 2
units-most s i = omega (arith, from_bool-most (leb 0x10000 (get_or s i 0)))

strict_laws : Laws (strictly utf16)
strict_laws = narrowed_laws turned_away utf16 utf16_laws

pub counted-utf16 :
    (s : List ℕ) (at k m : ℕ) → at + k ≤ length s → AtMost s at k m → m < 0x110000 → NoneOf is_excluded s at k → Counted ucs4 (strictly utf16) s at k (sum (units_at s) at k)
counted-utf16 s at k m i a h n =
    let held : (j : ℕ) → j < k → Held (get_or s (at + j) 0) = λ j b. held_test (get_or s (at + j) 0) (n.each j b) (omega (arith, a.each j b)) in
    let q = sum_along (λ i. length (encode (strictly utf16) (get_or s i 0))) (units_at s) at at k (λ j b. held-length (get_or s (at + j) 0) (held j b)) in
    rw (← q)
    (counted-units (strictly utf16) strict_laws s at k i
    (λ j b. (some (encode (strictly utf16) (get_or s (at + j) 0)) _ (held-length (get_or s (at + j) 0) (held j b)), encode_seven Target.Utf16 (get_or s (at + j) 0))))

-- units below the surrogates are a unit each
pub utf16-one : {s : List ℕ} {at k m : ℕ} → at + k ≤ length s → AtMost s at k m → m < 0xD800 → Counted ucs4 (strictly utf16) s at k k
utf16-one {s} {at} {k} {m} i a h =
    let one : (j : ℕ) → j < k → length (encode (strictly utf16) (get_or s (at + j) 0)) ≡ 1 =
    λ j b. ap length (strict_same utf16 (get_or s (at + j) 0) (λ l. omega (arith, a.each j b)) ∙ below_surrogates (get_or s (at + j) 0) (omega (arith, a.each j b))) in
    let q : sum (λ i. length (encode (strictly utf16) (get_or s i 0))) at k ≡ k = sum_along (λ i. length (encode (strictly utf16) (get_or s i 0))) (λ i. 1) at at k one ∙ sum_ones at k in
    rw q at
    (counted-units (strictly utf16) strict_laws s at k i (λ j b. (some (encode (strictly utf16) (get_or s (at + j) 0)) 0 (one j b), encode_seven Target.Utf16 (get_or s (at + j) 0))))
