-- Which units have no role, which values have a legal encoding, how many bits a byte form carries, and which faults marks have.
use Prim.Native.Nat.{ℕ, zero, suc, ◌+◌, ◌^◌, ◌≤◌, ◌<◌}
use mathlib.Core.Path.{◌≡◌, refl, sym, ap, ◌∙◌}
use mathlib.Core.Logic.{◌≢◌, ◌⊎◌, inl, inr, ⊎_elim, ◌↔◌}
use mathlib.Core.Bool.{Bool, true, false, not}
use mathlib.Core.List.{List, [], ◌∷◌, map}
use mathlib.Core.Option.{none}
use native.Mathlib.Omega.{arith}
use native.Mathlib.Decide.{dec_lt}
use borrow.Author.Tests.{le-ltb, not-true}
use lib.ListN.{length, length-map}
use Rattle.forms.specs.Form.{Role, lead, trailing, invalid, Sequence, sequence, size, Form, asked, taken, first_of, encode}
use Rattle.forms.specs.Layout.{Layout, row_at, value_of, form_of}
use Rattle.forms.specs.Exchange.{i8_of, ebcdic_of}
use Rattle.forms.specs.Forms.{byte_layout, no_character, utf16_layout, ucs4_layout, fss_utf, i8, utf_ebcdic, utf16, ucs4}
use Rattle.laws.proofs.FormLaws.{Laws}
use Rattle.laws.proofs.Table.{below}
use Rattle.laws.proofs.Rows.{lead_injective, trailing-lead}
use Rattle.laws.specs.LayoutTable.{Full, AllTrailing}
use Rattle.laws.proofs.Sequences.{taken-trailing}
use Rattle.laws.proofs.Carried.{free_below, free_above, outside, encodable, encodable_small, encodable_free}
use Rattle.laws.proofs.UnitEncodings.{below_limit}
use Rattle.laws.proofs.LayoutLaws.{Fit, in_row, trailing_digit, value-small, value-limit, full_spelling, length-shortest, at_least}
use Rattle.laws.proofs.AscendingRows.{leads_of_row}
use Rattle.laws.proofs.Exchanged.{exchanged_sequence}
use Rattle.laws.proofs.FourForms.{fss_utf_fits, i8_fits, ucs4_fits, utf16_fits, utf16_rise, fss_utf-invalid, ucs4-invalid, low-alone, high-alone, high-unit, low-unit, fss_utf_laws, utf_ebcdic_laws, utf16_laws, ucs4_laws}
use Rattle.acceptance.specs.FaultNumbers.{Among, Marks, too_few, stray, no_role, too_long, no_character_lem, NoRole, NoSurrogate, Held, FreeBits, ByteForms}
use Rattle.acceptance.proofs.Marking.{OwnMarks}

-- 4: units without a role
abbrev is_invalid : Role → Bool
is_invalid (lead n) = false
is_invalid trailing = false
is_invalid invalid = true

valid : (F : Form) (u : ℕ) → not (is_invalid (F.role u)) ≡ true → F.role u ≢ invalid
valid F u h e = let z : true ≡ false = sym (ap is_invalid e) ∙ not-true (is_invalid (F.role u)) h in let y : ◌≡◌ {A = ℕ} 0 1 = cc in omega arith

leads_so : {k : ℕ} {o : Role} → o ≡ lead k → o ≢ invalid
leads_so e n = let z : ◌≡◌ {A = ℕ} 0 1 = cc in omega arith

trails_so : {o : Role} → o ≡ trailing → o ≢ invalid
trails_so e n = let z : ◌≡◌ {A = ℕ} 0 1 = cc in omega arith

fe_or_ff : (u : ℕ) → u < 0x100 → fss_utf.role u ≡ invalid → Dec (u < 0xFE) → Dec (u < 0xFF) → (u ≡ 0xFE) ⊎ (u ≡ 0xFF)
fe_or_ff u h e (yes a) b = absurd (valid fss_utf u (below 0xFE (λ x. not (is_invalid (fss_utf.role x))) refl u a) e)
fe_or_ff u h e (no a) (yes b) = inl (omega arith)
fe_or_ff u h e (no a) (no b) = inr (omega arith)

from_fe : (u : ℕ) → (u ≡ 0xFE) ⊎ (u ≡ 0xFF) → 0xFE ≤ u
from_fe u (inl e) = omega arith
from_fe u (inr e) = omega arith

utf16-role : (u : ℕ) → u < 0x10000 → Dec (u < 0xD800) → Dec (u < 0xDC00) → Dec (u < 0xE000) → utf16.role u ≢ invalid
utf16-role u h (yes a) b c = leads_so (low-alone u a)
utf16-role u h (no a) (yes b) c = leads_so (high-unit u (omega arith) (omega arith))
utf16-role u h (no a) (no b) (yes c) = trails_so (low-unit u (omega arith) (omega arith))
utf16-role u h (no a) (no b) (no c) = leads_so (high-alone u (omega arith) (omega arith))

large : (u : ℕ) → ucs4.role u ≡ invalid → Dec (u < 0x80000000) → 0x80000000 ≤ u
large u e (yes a) = absurd (leads_so (leads_of_row ucs4_layout refl 0 u (omega arith) (omega arith) (omega arith)) e)
large u e (no a) = omega arith

pub no_role_is : NoRole
no_role_is =
    record {
      fss_utf_lem = λ u h. ((λ e. fe_or_ff u h e (dec_lt u 0xFE) (dec_lt u 0xFF)), (λ w. fss_utf-invalid u (from_fe u w)));
      utf_ebcdic_lem = λ u h. valid utf_ebcdic u (below 0x100 (λ x. not (is_invalid (utf_ebcdic.role x))) refl u h);
      utf_16 = λ u h. utf16-role u h (dec_lt u 0xD800) (dec_lt u 0xDC00) (dec_lt u 0xE000);
      ucs_4 = λ u h. ((λ e. large u e (dec_lt u 0x80000000)), (λ w. ucs4-invalid u w));
    }

-- the values that have a legal encoding
free : (v : ℕ) → NoSurrogate v → no_character v ≡ none
free v (inl h) = free_below v h
free v (inr h) = free_above v (omega arith)

no_surrogate : (v : ℕ) → no_character v ≡ none → NoSurrogate v
no_surrogate v e = go (dec_lt v 0xD800)
  where
    go : Dec (v < 0xD800) → NoSurrogate v
    go (yes h) = inl h
    go (no h) = inr (omega (arith, outside v e (omega arith)))

has_one : (F : Form) → Laws F → ((v : ℕ) → F.excluded v ≡ no_character v) → (v : ℕ) → (encode F v ≢ []) ↔ ((v ≤ 0x7FFFFFFF) × NoSurrogate v)
has_one F laws own v = (
  (λ n. (omega (arith, encodable_small F laws v n), no_surrogate v (encodable_free F laws v n))),
  (λ w. encodable F laws v (omega (arith, w.0)) (own v ∙ free v w.1)),
)

pub values-held : Held
values-held =
    record {
      fss_utf_lem = λ v. has_one fss_utf fss_utf_laws (λ v. refl) v;
      utf_ebcdic_lem = λ v. has_one utf_ebcdic utf_ebcdic_laws (λ v. refl) v;
      utf_16 =
          λ v. (
            (λ n. (omega (arith, below_limit v n), no_surrogate v (encodable_free utf16 utf16_laws v n))),
            (λ w. encodable utf16 utf16_laws v (omega (arith, w.0)) (rw (free v w.1, le-ltb 0x10FFFF v w.0))),
          );
      ucs_4 = λ v. has_one ucs4 ucs4_laws (λ v. refl) v;
    }

-- the free bits of a layout, by a sequence that has them all
layout_bits :
    (L : Layout) → Fit L → (c : Sequence) → Full (form_of L) c → size c ≡ length L.rows → suc (value_of L c) ≡ 0x80000000
    → (bytes bits : ℕ) → length L.rows ≡ bytes → 0x80000000 ≡ 2 ^ bits → FreeBits (form_of L) bytes bits
layout_bits L fits c full all top bytes bits p q =
    record {
      long = λ d f. omega (arith, p, (in_row L fits d.first (length d.rest) f.leads).inside);
      value = λ d f. omega (arith, q, value-small L fits d f);
      highest = (c, full, all ∙ p, top ∙ q);
    }

-- a full sequence of UTF-EBCDIC is one of I8, exchanged
trail-to : (t : List ℕ) → AllTrailing utf_ebcdic t → AllTrailing i8 (map i8_of t)
trail-to [] a = tt
trail-to (x ∷ xs) a = (a.0, trail-to xs a.1)

full_i8 : (c : Sequence) → Full utf_ebcdic c → Full i8 (exchanged_sequence i8_of c)
full_i8 c f = record { leads = rw (length-map c.rest i8_of) f.leads; trail = trail-to c.rest f.trail }

fss_utf_bits : (bytes bits : ℕ) → 6 ≡ bytes → 0x80000000 ≡ 2 ^ bits → FreeBits fss_utf bytes bits
fss_utf_bits =
    layout_bits (byte_layout 6 6) fss_utf_fits (sequence 0xFD (0xBF ∷ 0xBF ∷ 0xBF ∷ 0xBF ∷ 0xBF ∷ []))
    (record { leads = refl; trail = (refl, (refl, (refl, (refl, (refl, tt))))) }) refl refl

i8_bits : (bytes bits : ℕ) → 7 ≡ bytes → 0x80000000 ≡ 2 ^ bits → FreeBits i8 bytes bits
i8_bits =
    layout_bits (byte_layout 5 7) i8_fits (sequence 0xFF (0xBF ∷ 0xBF ∷ 0xBF ∷ 0xBF ∷ 0xBF ∷ 0xBF ∷ []))
    (record { leads = refl; trail = (refl, (refl, (refl, (refl, (refl, (refl, tt)))))) }) refl refl

utf_ebcdic_bits : (bytes bits : ℕ) → 7 ≡ bytes → 0x80000000 ≡ 2 ^ bits → FreeBits utf_ebcdic bytes bits
utf_ebcdic_bits bytes bits p q =
    record {
      long = λ d f. omega (arith, (i8_bits bytes bits p q).long (exchanged_sequence i8_of d) (full_i8 d f), length-map d.rest i8_of);
      value = λ d f. (i8_bits bytes bits p q).value (exchanged_sequence i8_of d) (full_i8 d f);
      highest = (
        sequence 0xE1 (0xFE ∷ 0xFE ∷ 0xFE ∷ 0xFE ∷ 0xFE ∷ 0xFE ∷ []),
        record { leads = refl; trail = (refl, (refl, (refl, (refl, (refl, (refl, tt)))))) },
        p,
        q,
      );
    }

pub free_bits : ByteForms
free_bits =
    record {
      fss_utf_lem = fss_utf_bits _ _ refl refl;
      i8_bytes = i8_bits _ _ refl refl;
      utf_ebcdic_lem = utf_ebcdic_bits _ _ refl refl;
    }

-- what marks go by, in each form
spelled_so : (L : Layout) (fits : Fit L) (c : Sequence) → Full (form_of L) c → (form_of L).shortest (value_of L c) ≢ []
spelled_so L fits c f n = let z = full_spelling L fits c f in absurd (omega (arith, length-shortest L fits (value_of L c) z, ap length n))

pub fss_utf-marks : OwnMarks fss_utf
fss_utf-marks = record { excludes = λ c f. refl; spells = spelled_so (byte_layout 6 6) fss_utf_fits }

pub utf_ebcdic-marks : OwnMarks utf_ebcdic
utf_ebcdic-marks =
    record {
      excludes = λ c f. refl;
      spells =
          λ c f n.
          let d = exchanged_sequence i8_of c in
          spelled_so (byte_layout 5 7) i8_fits d (full_i8 c f) (nothing (i8.shortest (i8.value d)) n);
    }
  where
    nothing : (e : List ℕ) → map ebcdic_of e ≡ [] → e ≡ []
    nothing [] h = refl
    nothing (u ∷ e) h = absurd (let z : ◌≡◌ {A = ℕ} 0 1 = cc in omega arith)

pub ucs4-marks : OwnMarks ucs4
ucs4-marks = record { excludes = λ c f. refl; spells = spelled_so ucs4_layout ucs4_fits }

-- a full sequence of UTF-16 has no surrogate's value
utf16-alone : (u : ℕ) → utf16.role u ≡ lead 0 → Dec (u < 0xD800) → Dec (u < 0xDC00) → Dec (0xDFFF < u) → NoSurrogate u
utf16-alone u e (yes a) b c = inl a
utf16-alone u e (no a) b (yes c) = inr c
utf16-alone u e (no a) (yes b) (no c) = absurd (let z : 1 ≡ 0 = lead_injective (sym (high-unit u (omega arith) (omega arith)) ∙ e) in omega arith)
utf16-alone u e (no a) (no b) (no c) = trailing-lead (sym (low-unit u (omega arith) (omega arith)) ∙ e)

utf16-value : (c : Sequence) → Full utf16 c → NoSurrogate (utf16.value c) × (utf16.value c ≤ 0x10FFFF)
utf16-value c f = go c.first c.rest f
  where
    go : (u : ℕ) (t : List ℕ) → Full utf16 (sequence u t) → NoSurrogate (utf16.value (sequence u t)) × (utf16.value (sequence u t) ≤ 0x10FFFF)
    go u [] f =
        let l = (in_row utf16_layout utf16_fits u 0 f.leads).to in
        let v : utf16.value (sequence u []) ≡ u = omega arith in
        rw v (utf16-alone u f.leads (dec_lt u 0xD800) (dec_lt u 0xDC00) (dec_lt 0xDFFF u), omega arith)
    go u (x ∷ []) f =
        let l : utf16.value (sequence u (x ∷ [])) < 0x110000 = value-limit utf16_layout utf16_fits (sequence u (x ∷ [])) f in
        (inr (omega arith), omega arith)
    go u (x ∷ (y ∷ t)) f = absurd (omega (arith, (in_row utf16_layout utf16_fits u (suc (suc (length t))) f.leads).inside))

pub utf16-marks : OwnMarks utf16
utf16-marks =
    record {
      excludes = λ c f. let w = utf16-value c f in rw (free (utf16.value c) w.0, le-ltb 0x10FFFF (utf16.value c) w.1);
      spells = spelled_so utf16_layout utf16_fits;
    }

-- the faults of marks, by form
abbrev pub Row : Form → ℕ → List ℕ → Type 0
Row F w ks = (u : ℕ) (us : List ℕ) (k : ℕ) → u < w → Marks F u us k → Among k ks

not_empty : (e : List ℕ) → e ≢ [] → 1 ≤ length e
not_empty [] n = absurd (n refl)
not_empty (u ∷ e) n = omega arith

pub fss_utf-row : Row fss_utf 0x100 (2 ∷ 3 ∷ 4 ∷ 5 ∷ 10 ∷ [])
fss_utf-row u us k b (too_few e n l h) = inl e
fss_utf-row u us k b (stray e l) = inr (inl e)
fss_utf-row u us k b (no_role e l) = inr (inr (inl e))
fss_utf-row u us k b (too_long e n l w s h) = inr (inr (inr (inl e)))
fss_utf-row u us k b (no_character_lem e n l w s x y) = inr (inr (inr (inr (inl e))))

pub utf_ebcdic-row : Row utf_ebcdic 0x100 (2 ∷ 3 ∷ 5 ∷ 10 ∷ [])
utf_ebcdic-row u us k b (too_few e n l h) = inl e
utf_ebcdic-row u us k b (stray e l) = inr (inl e)
utf_ebcdic-row u us k b (no_role e l) = absurd (no_role_is.utf_ebcdic_lem u b l)
utf_ebcdic-row u us k b (too_long e n l w s h) = inr (inr (inl e))
utf_ebcdic-row u us k b (no_character_lem e n l w s x y) = inr (inr (inr (inl e)))

first_full : (F : Form) (u : ℕ) (us : List ℕ) (n : ℕ) → F.role u ≡ lead n → length (taken F n us) ≡ n → Full F (first_of F u us)
first_full F u us n l w =
    let k : length (first_of F u us).rest ≡ n = ap (λ (o : Role). length (taken F (asked o) us)) l ∙ w in
    record { leads = l ∙ ap lead (sym k); trail = taken-trailing F (asked (F.role u)) us }

-- a UTF-16 pair has a value of 10000 or more, which is spelled by no fewer units
utf16-long :
    (u : ℕ) (us : List ℕ) (n : ℕ) → utf16.role u ≡ lead n → length (taken utf16 n us) ≡ n → utf16.shortest (utf16.value (first_of utf16 u us)) ≢ []
    → length (utf16.shortest (utf16.value (first_of utf16 u us))) < suc n → ⊥
utf16-long u us n l w s h = go n l w h (in_row utf16_layout utf16_fits u n l).inside
  where
    pair_value_lem : (k m : ℕ) → k ≡ 1 → 0x10000 ≤ (row_at utf16_layout k).origin + m
    pair_value_lem k m e = rw e (omega arith)

    go : (n : ℕ) → utf16.role u ≡ lead n → length (taken utf16 n us) ≡ n → length (utf16.shortest (utf16.value (first_of utf16 u us))) < suc n → n < 2 → ⊥
    go zero l w h i = omega (arith, not_empty (utf16.shortest (utf16.value (first_of utf16 u us))) s)
    go (suc zero) l w h i =
        let k : length (first_of utf16 u us).rest ≡ 1 = ap (λ (o : Role). length (taken utf16 (asked o) us)) l ∙ w in
        let f = first_full utf16 u us 1 l w in
        let z = full_spelling utf16_layout utf16_fits (first_of utf16 u us) f in
        omega (
          arith,
          length-shortest utf16_layout utf16_fits (utf16.value (first_of utf16 u us)) z,
          at_least utf16_layout utf16_fits utf16_rise 1 (utf16.value (first_of utf16 u us)) (omega arith) z (pair_value_lem (length (first_of utf16 u us).rest) _ k),
        )
    go (suc (suc n)) l w h i = omega arith

pub utf16-row : Row utf16 0x10000 (2 ∷ 3 ∷ [])
utf16-row u us k b (too_few e n l h) = inl e
utf16-row u us k b (stray e l) = inr (inl e)
utf16-row u us k b (no_role e l) = absurd (no_role_is.utf_16 u b l)
utf16-row u us k b (too_long e n l w s h) = absurd (utf16-long u us n l w s h)
utf16-row u us k b (no_character_lem e n l w s x y) = absurd (⊎_elim (λ h. omega (arith, h)) (λ h. omega (arith, h)) (utf16-value (first_of utf16 u us) (first_full utf16 u us n l w)).0)

pub ucs4-row : Row ucs4 0x100000000 (4 ∷ 10 ∷ [])
ucs4-row u us k b (too_few e n l h) = absurd (omega (arith, (in_row ucs4_layout ucs4_fits u n l).inside))
ucs4-row u us k b (stray e l) = absurd (let d = trailing_digit ucs4_layout ucs4_fits u l in omega (arith, d.0, d.1))
ucs4-row u us k b (no_role e l) = inl e
ucs4-row u us k b (too_long e n l w s h) =
    absurd (omega (arith, (in_row ucs4_layout ucs4_fits u n l).inside, not_empty (ucs4.shortest (ucs4.value (first_of ucs4 u us))) s))
ucs4-row u us k b (no_character_lem e n l w s x y) = inr (inl e)
