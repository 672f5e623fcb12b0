-- How many units whole characters of UTF-16 become: counted unit by unit.
use Prim.Native.Nat.{ℕ, ◌+◌, ◌-◌, ◌≤◌, ◌<◌}
use mathlib.Core.Path.{◌≡◌, refl, sym, ap, ◌∙◌}
use mathlib.Core.Logic.{◌≢◌}
use mathlib.Core.Bool.{Bool, true, false, not, ◌&&◌}
use mathlib.Core.List.{List, []}
use native.Mathlib.Omega.{arith}
use native.Mathlib.Nat.{add-zero, zero-add}
use native.Mathlib.Decide.{dec_lt}
use lib.Dec.{leb, ltb}
use lib.ListN.{length, get_or}
use borrow.Author.Tests.{le-leb, lt-leb, le-ltb, lt-ltb}
use Rattle.forms.specs.Form.{Form, encode}
use Rattle.forms.specs.Forms.{is_surrogate, is_non_character, utf16, fss_utf, utf_ebcdic, ucs4, turned_away, strictly}
use Rattle.laws.proofs.Rows.{within_in}
use Rattle.laws.proofs.Carried.{not_surrogate}
use Rattle.laws.proofs.Narrowed.{as_before, strict_same}
use Rattle.laws.proofs.Runs.{Counted, counted_join, sum, sum_zero, sum_more, Next, between}
use Rattle.laws.proofs.Blocks.{AtMost, NoNonCharacters, no_non_characters}
use Rattle.laws.proofs.Values.{sum_ones}
use Rattle.tables.specs.declared.ByteForm.TheVariants as Byte
use Rattle.tables.proofs.ByteLayouts.{carries_below, carries_outside, encode-length}
use Rattle.encoder.specs.declared.Target.{Target}
use Rattle.encoder.specs.declared.Target.TheVariants.{FssUtf, UtfEbcdic, Utf16, Ucs4}
use Rattle.encoder.specs.Target.{target_form}
use Rattle.encoder.proofs.Targets.{encode_seven}
use Rattle.laws.proofs.UnitEncodings.{ucs4_outside, ucs4_below}
use Rattle.encoder.proofs.FssUtf.{one_byte, two_bytes, three_bytes, four_bytes}
use Rattle.encoder.proofs.UtfEbcdic as ebcdic
use Rattle.measure_runs.specs.Utf16Units.{is_high, is_low, number, Whole, bytes_at, ebcdic_at, values_at, plain_of}
use Rattle.measure_runs.proofs.Utf16Tests.{high_bounds, low_bounds, high_false, low_false, low-not-high, below_not-high, below_not-low, differ}
use Rattle.measure_runs.proofs.Utf16Pairs.{alone, paired_at, pair_value}

-- so many units are one or more
some : (e : List ℕ) (n : ℕ) → length e ≡ 1 + n → e ≢ []
some e n h z = omega (arith, h, ap length z)

module _
    (t : Target)
    (s : List ℕ)
    (at k : ℕ)
    (a : ℕ → ℕ)
    (units : (i : ℕ) → get_or s i 0 < 0x10000)
    (w : Whole s at k)
    (non : NoNonCharacters s at k)
    (single : (p : ℕ) → at ≤ p → p < at + k → (0xD800 ≤ get_or s p 0 → 0xE000 ≤ get_or s p 0) → (n : ℕ) × (a p ≡ 1 + n) × (length (encode (target_form t) (get_or s p 0)) ≡ 1 + n))
    (pair :
    (p : ℕ) → at ≤ p → p + 1 < at + k → (0xD800 ≤ get_or s p 0) × (get_or s p 0 < 0xDC00) → (0xDC00 ≤ get_or s (p + 1) 0) × (get_or s (p + 1) 0 < 0xE000)
    → (n : ℕ) × (a p + a (p + 1) ≡ 1 + n) × (length (encode (target_form t) (pair_value (get_or s p 0) (get_or s (p + 1) 0))) ≡ 1 + n)) where
  -- the target of strict conversion
  abbrev G : Form
  G = strictly (target_form t)

  -- a unit that is a character has the encoding of the form itself
  same-unit : (p : ℕ) → at ≤ p → p < at + k → length (encode G (get_or s p 0)) ≡ length (encode (target_form t) (get_or s p 0))
  same-unit p h l =
      let e : at + (p - at) ≡ p = omega arith in
      let n : is_non_character (get_or s p 0) ≡ false = rw e at (non.each (p - at) (omega arith)) in
      ap length (as_before turned_away (target_form t) (get_or s p 0) (rw n))

  same_pair : (u v : ℕ) → length (encode G (pair_value u v)) ≡ length (encode (target_form t) (pair_value u v))
  same_pair u v = ap length (strict_same (target_form t) (pair_value u v) (λ l. omega arith))

  -- no low unit stands where a character may begin
  border : ℕ → Type 0
  border p = p < at + k → is_low (get_or s p 0) ≡ false

  -- the units behind p, in terms of the block
  neighbours : (p : ℕ) → at ≤ p → p + 1 < at + k → is_high (get_or s p 0) ≡ is_low (get_or s (p + 1) 0)
  neighbours p h l =
      let e : at + (p - at) ≡ p = omega arith in
      rw e at (w.paired.each (p - at) (omega arith))

  last-not-high : (p : ℕ) → at ≤ p → p + 1 ≡ at + k → is_high (get_or s p 0) ≡ false
  last-not-high p h l =
      let e : at + (p - at) ≡ p = omega arith in
      rw e at (w.last (p - at) (omega arith))

  next : (p : ℕ) → at ≤ p → p < at + k → border p → Next utf16 G s (at + k) a border p
  unfolding border
  next p h l b = go (is_high (get_or s p 0)) refl
    where
      go : (x : Bool) → is_high (get_or s p 0) ≡ x → Next utf16 G s (at + k) a border p
      go false e =
          let out : 0xD800 ≤ get_or s p 0 → 0xE000 ≤ get_or s p 0 = λ y. low_false (get_or s p 0) (b l) (high_false (get_or s p 0) e y) in
          let v = single p h l out in
          let m : length (encode G (get_or s p 0)) ≡ 1 + v.0 = same-unit p h l ∙ v.2 in
          record {
            value = get_or s p 0;
            long = 1;
            character = alone s p (omega (arith, w.inside)) (units p) out;
            held = some (encode G (get_or s p 0)) v.0 m;
            within = omega arith;
            counted = sum_more a p 0 ∙ rw (sum_zero a p, add-zero p) (zero-add (a p) ∙ v.1 ∙ sym m);
            few = encode_seven t (get_or s p 0);
            border = λ y. sym (neighbours p h y) ∙ e;
          }
      go true e =
          let m : p + 1 < at + k = inner (dec_lt (p + 1) (at + k)) in
          let f : is_low (get_or s (p + 1) 0) ≡ true = sym (neighbours p h m) ∙ e in
          let hi = high_bounds (get_or s p 0) e in
          let lo = low_bounds (get_or s (p + 1) 0) f in
          let v = pair p h m hi lo in
          let n : length (encode G (pair_value (get_or s p 0) (get_or s (p + 1) 0))) ≡ 1 + v.0 = same_pair (get_or s p 0) (get_or s (p + 1) 0) ∙ v.2 in
          let q : p + 2 ≡ p + 1 + 1 = omega arith in
          record {
            value = pair_value (get_or s p 0) (get_or s (p + 1) 0);
            long = 2;
            character = paired_at s p (get_or s p 0) (get_or s (p + 1) 0) (omega (arith, w.inside)) refl refl hi.0 hi.1 lo.0 lo.1;
            held = some (encode G (pair_value (get_or s p 0) (get_or s (p + 1) 0))) v.0 n;
            within = omega arith;
            counted = sum_more a p 1 ∙ rw (sum_more a p 0, sum_zero a p, add-zero p) (rw (zero-add (a p)) (v.1 ∙ sym n));
            few = encode_seven t (pair_value (get_or s p 0) (get_or s (p + 1) 0));
            border = λ y. rw q (sym (neighbours (p + 1) (omega arith) (omega arith)) ∙ low-not-high (get_or s (p + 1) 0) f);
          }
        where
          inner : Dec (p + 1 < at + k) → p + 1 < at + k
          inner (yes y) = y
          inner (no y) = differ e (last-not-high p h (omega arith))

  pub counted-whole : Counted utf16 G s at k (sum a at k)
  unfolding border
  counted-whole =
      let e : at + k - at ≡ k = omega arith in
      rw e at (between border a at (at + k) next k at (omega arith) (omega arith) (omega arith) w.inside (λ y. w.first (omega arith)))

-- FSS-UTF
surrogate_two : (u : ℕ) → 0xD800 ≤ u → u < 0xE000 → 1 + number (leb 0x80 u) + number (leb 0x800 u) - number (is_surrogate u) ≡ 2
surrogate_two u h l = rw (le-leb 0x80 u (omega arith), le-leb 0x800 u (omega arith), within_in 0xD800 0xDFFF u h (omega arith))

unit_bytes : (u : ℕ) → u < 0x10000 → (0xD800 ≤ u → 0xE000 ≤ u) → (n : ℕ) × (1 + number (leb 0x80 u) + number (leb 0x800 u) - number (is_surrogate u) ≡ 1 + n) × (length (encode fss_utf u) ≡ 1 + n)
unit_bytes u h o = go (dec_lt u 0x80) (dec_lt u 0x800)
  where
    go : Dec (u < 0x80) → Dec (u < 0x800) → (n : ℕ) × (1 + number (leb 0x80 u) + number (leb 0x800 u) - number (is_surrogate u) ≡ 1 + n) × (length (encode fss_utf u) ≡ 1 + n)
    go (yes a) b = (0, rw (lt-leb 0x80 u a, lt-leb 0x800 u (omega arith), not_surrogate u o), ap length (one_byte u a))
    go (no a) (yes b) = (1, rw (le-leb 0x80 u (omega arith), lt-leb 0x800 u b, not_surrogate u o), ap length (two_bytes u (omega arith) b))
    go (no a) (no b) = (2, rw (le-leb 0x80 u (omega arith), le-leb 0x800 u (omega arith), not_surrogate u o), ap length (three_bytes u (carries_outside Byte.FssUtf u o (omega arith)) (omega arith) h))

pub counted_bytes : (s : List ℕ) (at k : ℕ) → ((i : ℕ) → get_or s i 0 < 0x10000) → Whole s at k → NoNonCharacters s at k → Counted utf16 (strictly fss_utf) s at k (sum (bytes_at s) at k)
counted_bytes s at k units w non =
    counted-whole FssUtf s at k (bytes_at s) units w non (λ p h l o. unit_bytes (get_or s p 0) (units p) o)
    (λ p h l x y. (
      3,
      rw (surrogate_two (get_or s p 0) x.0 (omega (arith, x.1)), surrogate_two (get_or s (p + 1) 0) (omega (arith, y.0)) y.1),
      ap length (four_bytes (pair_value (get_or s p 0) (get_or s (p + 1) 0)) (omega arith) (omega (arith, x, y))),
    ))

-- UTF-EBCDIC
abbrev ebcdic_of : ℕ → ℕ
ebcdic_of u = 1 + number (leb 0xA0 u) + number (leb 0x400 u && not (is_surrogate u)) + number (leb 0x4000 u && not (is_surrogate u)) + number (leb 0xD8C0 u && ltb u 0xDC00)

-- no high unit
not_fifth : (u : ℕ) → (0xD800 ≤ u → 0xE000 ≤ u) → (leb 0xD8C0 u && ltb u 0xDC00) ≡ false
not_fifth u o = go (dec_lt u 0xD8C0)
  where
    go : Dec (u < 0xD8C0) → (leb 0xD8C0 u && ltb u 0xDC00) ≡ false
    go (yes h) = rw (lt-leb 0xD8C0 u h)
    go (no h) = let e = o (omega arith) in rw (le-leb 0xD8C0 u (omega arith), le-ltb u 0xDC00 (omega arith))

unit_ebcdic : (u : ℕ) → u < 0x10000 → (0xD800 ≤ u → 0xE000 ≤ u) → (n : ℕ) × (ebcdic_of u ≡ 1 + n) × (length (encode utf_ebcdic u) ≡ 1 + n)
unit_ebcdic u h o = go (dec_lt u 0xA0) (dec_lt u 0x400) (dec_lt u 0x4000)
  where
    go : Dec (u < 0xA0) → Dec (u < 0x400) → Dec (u < 0x4000) → (n : ℕ) × (ebcdic_of u ≡ 1 + n) × (length (encode utf_ebcdic u) ≡ 1 + n)
    go (yes a) b c = (0, rw (lt-leb 0xA0 u a, lt-leb 0x400 u (omega arith), lt-leb 0x4000 u (omega arith), not_fifth u o), ap length (ebcdic.one_byte u a))
    go (no a) (yes b) c = (1, rw (le-leb 0xA0 u (omega arith), lt-leb 0x400 u b, lt-leb 0x4000 u (omega arith), not_fifth u o), ap length (ebcdic.two_bytes u (omega arith) b))
    go (no a) (no b) (yes c) = (
      2,
      rw (le-leb 0xA0 u (omega arith), le-leb 0x400 u (omega arith), lt-leb 0x4000 u c, not_surrogate u o, not_fifth u o),
      ap length (ebcdic.three_bytes u (omega arith) c),
    )
    go (no a) (no b) (no c) = (
      3,
      rw (le-leb 0xA0 u (omega arith), le-leb 0x400 u (omega arith), le-leb 0x4000 u (omega arith), not_surrogate u o, not_fifth u o),
      ap length (ebcdic.four_bytes u (carries_outside Byte.UtfEbcdic u o (omega arith)) (omega arith) (omega arith)),
    )

surrogate_ebcdic : (u : ℕ) → 0xD800 ≤ u → u < 0xE000 → ebcdic_of u ≡ 2 + number (leb 0xD8C0 u && ltb u 0xDC00)
surrogate_ebcdic u h l = rw (le-leb 0xA0 u (omega arith), le-leb 0x400 u (omega arith), le-leb 0x4000 u (omega arith), within_in 0xD800 0xDFFF u h (omega arith))

low_ebcdic : (u : ℕ) → 0xDC00 ≤ u → u < 0xE000 → ebcdic_of u ≡ 2
low_ebcdic u h l = surrogate_ebcdic u (omega arith) l ∙ rw (le-leb 0xD8C0 u (omega arith), le-ltb u 0xDC00 h)

pair_ebcdic :
    (x y : ℕ) → (0xD800 ≤ x) × (x < 0xDC00) → (0xDC00 ≤ y) × (y < 0xE000)
    → (n : ℕ) × (ebcdic_of x + ebcdic_of y ≡ 1 + n) × (length (encode utf_ebcdic (pair_value x y)) ≡ 1 + n)
pair_ebcdic x y h l = go (dec_lt x 0xD8C0)
  where
    carried : (0xD800 ≤ x) × (x < 0xDC00) → (0xDC00 ≤ y) × (y < 0xE000) → encode utf_ebcdic (pair_value x y) ≢ []
    carried h l = carries_outside Byte.UtfEbcdic (pair_value x y) (λ z. omega arith) (omega (arith, h, l))

    go : Dec (x < 0xD8C0) → (n : ℕ) × (ebcdic_of x + ebcdic_of y ≡ 1 + n) × (length (encode utf_ebcdic (pair_value x y)) ≡ 1 + n)
    go (yes a) = (
      3,
      rw (surrogate_ebcdic x h.0 (omega (arith, h.1)), low_ebcdic y l.0 l.1, lt-leb 0xD8C0 x a),
      ap length (ebcdic.four_bytes (pair_value x y) (carried h l) (omega arith) (omega (arith, h, l))),
    )
    go (no a) = (
      4,
      rw (surrogate_ebcdic x h.0 (omega (arith, h.1)), low_ebcdic y l.0 l.1, le-leb 0xD8C0 x (omega arith), lt-ltb x 0xDC00 h.1),
      encode-length Byte.UtfEbcdic (pair_value x y) (carried h l) 4 (omega arith) (omega (arith, h, l)) (omega (arith, h, l)),
    )

pub counted_ebcdic : (s : List ℕ) (at k : ℕ) → ((i : ℕ) → get_or s i 0 < 0x10000) → Whole s at k → NoNonCharacters s at k → Counted utf16 (strictly utf_ebcdic) s at k (sum (ebcdic_at s) at k)
counted_ebcdic s at k units w non =
    counted-whole UtfEbcdic s at k (ebcdic_at s) units w non (λ p h l o. unit_ebcdic (get_or s p 0) (units p) o) (λ p h l x y. pair_ebcdic (get_or s p 0) (get_or s (p + 1) 0) x y)

-- UCS-4
unit-low : (u : ℕ) → (0xD800 ≤ u → 0xE000 ≤ u) → is_low u ≡ false
unit-low u o = go (dec_lt u 0xDC00)
  where
    go : Dec (u < 0xDC00) → is_low u ≡ false
    go (yes h) = rw (lt-leb 0xDC00 u h)
    go (no h) = rw (le-leb 0xDC00 u (omega arith), le-ltb u 0xE000 (o (omega arith)))

pub counted-values : (s : List ℕ) (at k : ℕ) → ((i : ℕ) → get_or s i 0 < 0x10000) → Whole s at k → NoNonCharacters s at k → Counted utf16 (strictly ucs4) s at k (sum (values_at s) at k)
counted-values s at k units w non =
    counted-whole Ucs4 s at k (values_at s) units w non
    (λ p h l o. (0, rw (unit-low (get_or s p 0) o), ap length (ucs4_outside (get_or s p 0) o (omega (arith, units p)))))
    (λ p h l x y. (
      0,
      rw (lt-leb 0xDC00 (get_or s p 0) x.1, le-leb 0xDC00 (get_or s (p + 1) 0) y.0, lt-ltb (get_or s (p + 1) 0) 0xE000 y.1),
      ap length (ucs4_outside (pair_value (get_or s p 0) (get_or s (p + 1) 0)) (λ z. omega arith) (omega (arith, x, y))),
    ))

-- units below the target's bound are one unit each
plain_below : (t : Target) → plain_of t ≤ 0xD800
plain_below FssUtf = omega arith
plain_below UtfEbcdic = omega arith
plain_below Utf16 = omega arith
plain_below Ucs4 = omega arith

plain_one : (t : Target) (u : ℕ) → u < plain_of t → length (encode (target_form t) u) ≡ 1
plain_one FssUtf u h = ap length (one_byte u h)
plain_one UtfEbcdic u h = encode-length Byte.UtfEbcdic u (carries_below Byte.UtfEbcdic u (omega arith)) 0 (omega arith) (omega arith) h
plain_one Utf16 u h = absurd (omega arith)
plain_one Ucs4 u h = ap length (ucs4_below u (omega arith))

pub counted_plain :
    (t : Target) (s : List ℕ) (at k m b : ℕ) → ((i : ℕ) → get_or s i 0 < 0x10000) → at + k ≤ length s → AtMost s at k m → b ≡ plain_of t → m < b → Counted utf16 (strictly (target_form t)) s at k k
counted_plain t s at k m b units inside most e h =
    rw (sum_ones at k) at (counted-whole t s at k (λ i. 1) units whole (no_non_characters most (omega (arith, e, plain_below t))) (λ p x y o. (0, refl, plain_one t (get_or s p 0) (bound p x y))) (λ p x y hi lo. absurd (omega (arith, hi, bound p x (omega arith), plain_below t))))
  where
    bound : (p : ℕ) → at ≤ p → p < at + k → get_or s p 0 < plain_of t
    bound p x y =
        let q : at + (p - at) ≡ p = omega arith in
        rw q at (le-lt (get_or s (at + (p - at)) 0) (most.each (p - at) (omega arith)))
      where
        le-lt : (u : ℕ) → u ≤ m → u < plain_of t
        le-lt u z = omega (arith, e)

    below : (j : ℕ) → j < k → get_or s (at + j) 0 < 0xD800
    below j y = omega (arith, bound (at + j) (omega arith) (omega arith), plain_below t)

    whole : Whole s at k
    whole =
        record {
          inside = inside;
          paired = record { each = λ j y. below_not-high (get_or s (at + j) 0) (below j (omega arith)) ∙ sym (next j y) };
          first = λ y. let q : at + 0 ≡ at = omega arith in below_not-low (get_or s at 0) (rw q at (below 0 y));
          last = λ j y. below_not-high (get_or s (at + j) 0) (below j (omega arith));
        }
      where
        next : (j : ℕ) → j + 1 < k → is_low (get_or s (at + j + 1) 0) ≡ false
        next j y = let q : at + (j + 1) ≡ at + j + 1 = omega arith in below_not-low (get_or s (at + j + 1) 0) (rw q at (below (j + 1) y))

-- what is counted up to the unit n, and what from there on
pub counted_on : {F G : Form} {s : List ℕ} {at n l u w : ℕ} → at ≤ n → Counted F G s at (n - at) u → Counted F G s n l w → Counted F G s at (n + l - at) (u + w)
counted_on {F} {G} {s} {at} {n} {l} {u} {w} h a b =
    let e : at + (n - at) ≡ n = omega arith in
    let f : n + l - at ≡ (n - at) + l = omega arith in
    let g : Counted F G s (at + (n - at)) l w = rw e b in
    rw f (counted_join a g)
