-- The weights of each target add up to the units of each character.
use Prim.Native.Nat.{ℕ, suc, ◌+◌, ◌≤◌, ◌<◌}
use mathlib.Core.Path.{◌≡◌, refl, sym, ap, ◌∙◌}
use mathlib.Core.Logic.{◌≢◌}
use mathlib.Core.Bool.{Bool, true, false, ◌&&◌}
use mathlib.Core.List.{List, [], ◌∷◌}
use native.Mathlib.Omega.{arith}
use native.Mathlib.Decide.{dec_lt}
use lib.Dec.{leb, eqb}
use borrow.Author.Tests.{lt-ltb, le-ltb, le-leb, lt-leb, eq-eqb, ne_eqb}
use lib.ListN.{length}
use Rattle.std.specs.Int.{from_bool}
use Rattle.std.proofs.Common.{IfSome}
use Rattle.forms.specs.Form.{Form, encode}
use Rattle.forms.specs.Forms.{utf16, ucs4, utf_ebcdic, turned_away, strictly}
use Rattle.forms.specs.Layout.{lowest_of}
use Rattle.laws.proofs.FourForms.{utf16_laws}
use Rattle.laws.proofs.Narrowed.{narrow_encode, wide_encodable, strict_same}
use Rattle.tables.specs.ByteForms.{layout_of}
use Rattle.tables.proofs.ByteLayouts.{carries_below, carries_outside, encode-length}
use Rattle.tables.specs.declared.ByteForm.TheVariants.{UtfEbcdic}
use Rattle.encoder.specs.Target.{target_form}
use Rattle.encoder.specs.declared.Target.{Target}
use Rattle.encoder.specs.declared.Target.TheVariants.{Utf16, Ucs4}
use Rattle.laws.proofs.UnitEncodings.{ucs4-encoding, ucs4_outside, ucs4_below, below_surrogates, above_surrogates, pair, unit}
use Rattle.encoder.proofs.Targets.{target_seven, encode_seven}
use Rattle.encoder.specs.declared.Target.TheVariants as target
use Rattle.measure_runs.specs.declared.fss_utf_validation.Weights.{Weights}
use Rattle.measure_runs.specs.Validation.{reached, added, is_split, LeadWeights, Weighs, value2, value3, value4, utf_ebcdic_weights, utf16_weights, ucs4_weights}
use Rattle.measure_runs.proofs.Validating.{not-reached, lead-not-reached, ascii_adds}

cons-some : {x : ℕ} {xs e : List ℕ} → e ≡ x ∷ xs → e ≢ []
cons-some q n = absurd (let z : ◌≡◌ {A = ℕ} 0 1 = cc in omega arith)

sized_some : (e : List ℕ) (k : ℕ) → length e ≡ suc k → e ≢ []
sized_some [] k q n = omega arith
sized_some (x ∷ e) k q n = absurd (let z : ◌≡◌ {A = ℕ} 0 1 = cc in omega arith)

module _ (w : Weights) where
  lead_adds : (p b : ℕ) → 0xC0 ≤ b → added w p b ≡ 1 + from_bool (reached w.two b) + from_bool (reached w.three b) + from_bool (reached w.four b) + from_bool (reached w.five b)
  unfolding added
  lead_adds p b l =
      let z : (n : ℕ) → n + 0 ≡ n = λ n. omega arith in
      rw (le-leb 0x80 b (omega arith), le-ltb b 0xC0 l, le-leb 0xA0 b (omega arith))
      (z (1 + from_bool (reached w.two b) + from_bool (reached w.three b) + from_bool (reached w.four b) + from_bool (reached w.five b)))

  trailing_adds : LeadWeights w → (p b : ℕ) → 0x80 ≤ b → b < 0xC0 → added w p b ≡ from_bool (leb 0xA0 b && is_split w.split p)
  unfolding added
  trailing_adds h p b l m =
      rw (
        le-leb 0x80 b l,
        lt-ltb b 0xC0 m,
        lead-not-reached w.two b h.two m,
        lead-not-reached w.three b h.three m,
        lead-not-reached w.four b h.four m,
        lead-not-reached w.five b h.five m,
      )
      (and_middle (leb 0xA0 b) (is_split w.split p))
    where
      and_middle : (x y : Bool) → 0 + 0 + 0 + 0 + 0 + from_bool (x && true && y) ≡ from_bool (x && y)
      and_middle true y = omega arith
      and_middle false y = refl

  trailing_adds_none : LeadWeights w → (p b : ℕ) → 0x80 ≤ b → b < 0xC0 → is_split w.split p ≡ false → added w p b ≡ 0
  trailing_adds_none h p b l m n = trailing_adds h p b l m ∙ rw n (and_none (leb 0xA0 b))
    where
      and_none : (x : Bool) → from_bool (x && false) ≡ 0
      and_none true = refl
      and_none false = refl

-- a sequence of three or four bytes has trailing bytes that add nothing: no byte before them is `split`
module _ (w : Weights) (h : LeadWeights w) (far : (x : ℕ) → x < 0xC0 → is_split w.split x ≡ false) where
  two_adds : (p a b : ℕ) → is_split w.split a ≡ false → 0x80 ≤ b → b < 0xC0 → added w p a + added w a b ≡ added w p a
  two_adds p a b n l m = rw (trailing_adds_none w h a b l m n) (omega arith)

  three_adds : (p a b c : ℕ) → is_split w.split a ≡ false → 0x80 ≤ b → b < 0xC0 → 0x80 ≤ c → c < 0xC0 → added w p a + added w a b + added w b c ≡ added w p a
  three_adds p a b c n l m i j = rw (two_adds p a b n l m, trailing_adds_none w h b c i j (far b m)) (omega arith)

  four_adds :
      (p a b c d : ℕ) → is_split w.split a ≡ false → 0x80 ≤ b → b < 0xC0 → 0x80 ≤ c → c < 0xC0 → 0x80 ≤ d → d < 0xC0
      → added w p a + added w a b + added w b c + added w c d ≡ added w p a
  four_adds p a b c d n l m i j x y = rw (three_adds p a b c n l m i j, trailing_adds_none w h c d x y (far c j)) (omega arith)

-- a lead below four of the weights
lead-one : (w : Weights) (p b : ℕ) → 0xC0 ≤ b → IfSome w.two (λ t. b < t) → IfSome w.three (λ t. b < t) → IfSome w.four (λ t. b < t) → IfSome w.five (λ t. b < t) → added w p b ≡ 1
lead-one w p b h i j k l = lead_adds w p b h ∙ rw (not-reached w.two b i, not-reached w.three b j, not-reached w.four b k, not-reached w.five b l)

ucs4_weighs : Weighs ucs4_weights ucs4
ucs4_weighs =
    record {
      low = λ v h. cons-some (ucs4_below v h);
      high = λ v h k o. cons-some (ucs4_outside v (λ z. h) (omega arith));
      few = λ v. target_seven Ucs4 v;
      one = λ p b h. ascii_adds high p b h ∙ sym (ap length (ucs4_below b (omega arith)));
      two = λ p a b h i j k. two_adds ucs4_weights high far p a b refl j k ∙ lead p a (omega arith) (omega arith) ∙ sym (ap length (ucs4_below (value2 a b) (omega arith)));
      three =
          λ p a b c h i j k l m u n.
          three_adds ucs4_weights high far p a b c refl j k l m ∙ lead p a (omega arith) (omega arith) ∙ sym (ap length (ucs4-encoding (value3 a b c) n));
      four =
          λ p a b c d h i j k l m x y u n.
          four_adds ucs4_weights high far p a b c d refl j k l m x y ∙ lead p a (omega arith) (omega arith) ∙ sym (ap length (ucs4_outside (value4 a b c d) (λ z. omega arith) (omega arith)));
    }
  where
    high : LeadWeights ucs4_weights
    high = record { two = tt; three = tt; four = tt; five = tt }

    far : (x : ℕ) → x < 0xC0 → false ≡ false
    far x h = refl

    lead : (p a : ℕ) → 0xC0 ≤ a → a < 0xFF → added ucs4_weights p a ≡ 1
    lead p a h i = lead-one ucs4_weights p a h tt tt tt tt

utf16_weighs : Weighs utf16_weights utf16
utf16_weighs =
    record {
      low = λ v h. cons-some (below_surrogates v h);
      high = λ v h k o. high-some v h k;
      few = λ v. target_seven Utf16 v;
      one = λ p b h. ascii_adds high p b h ∙ sym (ap length (below_surrogates b (omega arith)));
      two = λ p a b h i j k. two_adds utf16_weights high far p a b refl j k ∙ lead p a (omega arith) (omega arith) ∙ sym (ap length (below_surrogates (value2 a b) (omega arith)));
      three =
          λ p a b c h i j k l m u n.
          three_adds utf16_weights high far p a b c refl j k l m ∙ lead p a (omega arith) (omega arith) ∙ sym (ap length (unit (value3 a b c) utf16 utf16_laws n (omega arith)));
      four =
          λ p a b c d h i j k l m x y u n.
          four_adds utf16_weights high far p a b c d refl j k l m x y ∙ lead-two p a h (omega arith) ∙ sym (ap length (pair (value4 a b c d) u n));
    }
  where
    high : LeadWeights utf16_weights
    high = record { two = omega arith; three = tt; four = tt; five = tt }

    far : (x : ℕ) → x < 0xC0 → false ≡ false
    far x h = refl

    high-some : (v : ℕ) → 0xE000 ≤ v → v < 0x110000 → encode utf16 v ≢ []
    high-some v h k = go (dec_lt v 0x10000)
      where
        go : Dec (v < 0x10000) → encode utf16 v ≢ []
        go (yes d) = cons-some (above_surrogates v h d)
        go (no d) = cons-some (pair v (omega arith) k)

    lead : (p a : ℕ) → 0xC0 ≤ a → a < 0xF0 → added utf16_weights p a ≡ 1
    lead p a h i = lead-one utf16_weights p a h i tt tt tt

    lead-two : (p a : ℕ) → 0xF0 ≤ a → a < 0xFF → added utf16_weights p a ≡ 2
    lead-two p a h i = lead_adds utf16_weights p a (omega arith) ∙ rw (le-leb 0xF0 a h)

utf_ebcdic_weighs : Weighs utf_ebcdic_weights utf_ebcdic
utf_ebcdic_weighs =
    record {
      low = λ v h. carries_below UtfEbcdic v h;
      high = λ v h k o. carries_outside UtfEbcdic v (λ z. h) (omega arith);
      few = λ v. target_seven target.UtfEbcdic v;
      one = λ p b h. ascii_adds high p b h ∙ sym (encode-length UtfEbcdic b (carries_below UtfEbcdic b (omega arith)) 0 (omega arith) (omega arith) (omega arith));
      two = λ p a b h i j k. pair_adds p a b (dec_lt a 0xC3) (dec_lt b 0xA0) (dec_lt a 0xD0) h i j k;
      three =
          λ p a b c h i j k l m u n.
          three_adds utf_ebcdic_weights high far p a b c (ne_eqb a 0xC2 (λ z. omega (arith, z))) j k l m ∙ lead-three p a b c (dec_lt a 0xE4) h i j k l m u n;
      four =
          λ p a b c d h i j k l m x y u n.
          four_adds utf_ebcdic_weights high far p a b c d (ne_eqb a 0xC2 (λ z. omega (arith, z))) j k l m x y ∙ lead-four p a b c d (dec_lt a 0xF1) h i j k l m x y u n;
    }
  where
    high : LeadWeights utf_ebcdic_weights
    high = record { two = omega arith; three = omega arith; four = omega arith; five = omega arith }

    far : (x : ℕ) → x < 0xC0 → eqb x 0xC2 ≡ false
    far x h = ne_eqb x 0xC2 (λ z. omega (arith, z))

    long : (k v : ℕ) → encode utf_ebcdic v ≢ [] → k < 7 → lowest_of (layout_of UtfEbcdic) k ≤ v → v < lowest_of (layout_of UtfEbcdic) (suc k) → suc k ≡ length (encode utf_ebcdic v)
    long k v s h l b = sym (encode-length UtfEbcdic v s k h l b)

    -- a lead between two of the weights
    lead_is :
        (p a : ℕ) (x y z u : Bool) → 0xC0 ≤ a → leb 0xC3 a ≡ x → leb 0xD0 a ≡ y → leb 0xE4 a ≡ z → leb 0xF1 a ≡ u
        → added utf_ebcdic_weights p a ≡ 1 + from_bool x + from_bool y + from_bool z + from_bool u
    lead_is p a x y z u h e f g i = lead_adds utf_ebcdic_weights p a h ∙ rw (e, f, g, i)

    lead-two : (p a : ℕ) → 0xC0 ≤ a → a < 0xC3 → added utf_ebcdic_weights p a ≡ 1
    lead-two p a h i = lead_is p a false false false false h (lt-leb 0xC3 a i) (lt-leb 0xD0 a (omega arith)) (lt-leb 0xE4 a (omega arith)) (lt-leb 0xF1 a (omega arith))

    pair_adds :
        (p a b : ℕ) → Dec (a < 0xC3) → Dec (b < 0xA0) → Dec (a < 0xD0) → 0xC2 ≤ a → a < 0xE0 → 0x80 ≤ b → b < 0xC0
        → added utf_ebcdic_weights p a + added utf_ebcdic_weights a b ≡ length (encode utf_ebcdic (value2 a b))
    pair_adds p a b (yes c) (yes d) f h i j k =
        rw (lead-two p a (omega arith) c, trailing_adds utf_ebcdic_weights high a b j k, lt-leb 0xA0 b d) (long 0 (value2 a b) (carries_below UtfEbcdic (value2 a b) (omega arith)) (omega arith) (omega arith) (omega arith))
    pair_adds p a b (yes c) (no d) f h i j k =
        rw (lead-two p a (omega arith) c, trailing_adds utf_ebcdic_weights high a b j k, le-leb 0xA0 b (omega arith), eq-eqb a 0xC2 (omega arith))
        (long 1 (value2 a b) (carries_below UtfEbcdic (value2 a b) (omega arith)) (omega arith) (omega arith) (omega arith))
    pair_adds p a b (no c) d (yes f) h i j k =
        two_adds utf_ebcdic_weights high far p a b (ne_eqb a 0xC2 (λ z. omega (arith, z))) j k
        ∙ lead_is p a true false false false (omega arith) (le-leb 0xC3 a (omega arith)) (lt-leb 0xD0 a f) (lt-leb 0xE4 a (omega arith)) (lt-leb 0xF1 a (omega arith))
        ∙ long 1 (value2 a b) (carries_below UtfEbcdic (value2 a b) (omega arith)) (omega arith) (omega arith) (omega arith)
    pair_adds p a b (no c) d (no f) h i j k =
        two_adds utf_ebcdic_weights high far p a b (ne_eqb a 0xC2 (λ z. omega (arith, z))) j k
        ∙ lead_is p a true true false false (omega arith) (le-leb 0xC3 a (omega arith)) (le-leb 0xD0 a (omega arith)) (lt-leb 0xE4 a (omega arith)) (lt-leb 0xF1 a (omega arith))
        ∙ long 2 (value2 a b) (carries_below UtfEbcdic (value2 a b) (omega arith)) (omega arith) (omega arith) (omega arith)

    lead-three :
        (p a b c : ℕ) → Dec (a < 0xE4) → 0xE0 ≤ a → a < 0xF0 → 0x80 ≤ b → b < 0xC0 → 0x80 ≤ c → c < 0xC0 → 0x800 ≤ value3 a b c
        → encode utf_ebcdic (value3 a b c) ≢ [] → added utf_ebcdic_weights p a ≡ length (encode utf_ebcdic (value3 a b c))
    lead-three p a b c (yes f) h i j k l m u n =
        lead_is p a true true false false (omega arith) (le-leb 0xC3 a (omega arith)) (le-leb 0xD0 a (omega arith)) (lt-leb 0xE4 a f) (lt-leb 0xF1 a (omega arith))
        ∙ long 2 (value3 a b c) n (omega arith) (omega arith) (omega arith)
    lead-three p a b c (no f) h i j k l m u n =
        lead_is p a true true true false (omega arith) (le-leb 0xC3 a (omega arith)) (le-leb 0xD0 a (omega arith)) (le-leb 0xE4 a (omega arith)) (lt-leb 0xF1 a (omega arith))
        ∙ long 3 (value3 a b c) n (omega arith) (omega arith) (omega arith)

    lead-four :
        (p a b c d : ℕ) → Dec (a < 0xF1) → 0xF0 ≤ a → a < 0xF5 → 0x80 ≤ b → b < 0xC0 → 0x80 ≤ c → c < 0xC0 → 0x80 ≤ d → d < 0xC0
        → 0x10000 ≤ value4 a b c d → value4 a b c d < 0x110000 → added utf_ebcdic_weights p a ≡ length (encode utf_ebcdic (value4 a b c d))
    lead-four p a b c d (yes f) h i j k l m x y u n =
        lead_is p a true true true false (omega arith) (le-leb 0xC3 a (omega arith)) (le-leb 0xD0 a (omega arith)) (le-leb 0xE4 a (omega arith)) (lt-leb 0xF1 a f)
        ∙ long 3 (value4 a b c d) (carries_outside UtfEbcdic (value4 a b c d) (λ z. omega arith) (omega arith)) (omega arith) (omega arith) (omega arith)
    lead-four p a b c d (no f) h i j k l m x y u n =
        lead_is p a true true true true (omega arith) (le-leb 0xC3 a (omega arith)) (le-leb 0xD0 a (omega arith)) (le-leb 0xE4 a (omega arith)) (le-leb 0xF1 a (omega arith))
        ∙ long 4 (value4 a b c d) (carries_outside UtfEbcdic (value4 a b c d) (λ z. omega arith) (omega arith)) (omega arith) (omega arith) (omega arith)

-- and so they do where strict conversion writes it
module _ (t : Target) (w : Weights) (plain : Weighs w (target_form t)) where
  abbrev G : Form
  G = target_form t

  same : (v : ℕ) → (0xFFFE ≤ v → 0x10000 ≤ v) → length (encode G v) ≡ length (encode (strictly G) v)
  same v o = sym (ap length (strict_same G v o))

  strict_weighs : Weighs w (strictly G)
  strict_weighs =
      record {
        low = λ v h e. plain.low v h (sym (strict_same G v (λ l. omega arith)) ∙ e);
        high = λ v h k o e. plain.high v h k o (sym (strict_same G v o) ∙ e);
        few = encode_seven t;
        one = λ p b h. plain.one p b h ∙ same b (λ l. omega arith);
        two = λ p a b h i j k. plain.two p a b h i j k ∙ same (value2 a b) (λ l. omega arith);
        three = λ p a b c h i j k l m u n. plain.three p a b c h i j k l m u (wide_encodable turned_away G (value3 a b c) n) ∙ sym (ap length (narrow_encode turned_away G (value3 a b c) n));
        four = λ p a b c d h i j k l m x y u n. plain.four p a b c d h i j k l m x y u n ∙ same (value4 a b c d) (λ l. u);
      }

pub ucs4-strict_weighs : Weighs ucs4_weights (strictly ucs4)
ucs4-strict_weighs = strict_weighs Ucs4 ucs4_weights ucs4_weighs

pub utf16-strict_weighs : Weighs utf16_weights (strictly utf16)
utf16-strict_weighs = strict_weighs Utf16 utf16_weights utf16_weighs

pub utf_ebcdic-strict_weighs : Weighs utf_ebcdic_weights (strictly utf_ebcdic)
utf_ebcdic-strict_weighs = strict_weighs target.UtfEbcdic utf_ebcdic_weights utf_ebcdic_weighs
