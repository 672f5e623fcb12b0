-- The four forms keep the laws.
use Prim.Native.Nat.{ℕ, zero, suc, ◌+◌, ◌-◌, ◌/◌, ◌^◌, ◌≤◌, ◌<◌}
use mathlib.Core.Path.{◌≡◌, refl, sym, ◌∙◌, subst}
use mathlib.Core.Logic.{◌⊎◌, inl, inr}
use mathlib.Core.Bool.{Bool, true, false, cond}
use mathlib.Core.List.{List, []}
use mathlib.Core.Option.{Option, none, some}
use native.Mathlib.Omega.{arith}
use native.Mathlib.Decide.{dec_lt}
use lib.Dec.{ltb}
use borrow.Author.Tests.{ltb-false}
use Rattle.types.specs.declared.Fault.{Fault}
use Rattle.types.specs.declared.Fault.TheVariants.{Unrepresentable, Surrogate}
use Rattle.forms.specs.Form.{Role, lead, trailing, invalid, sequence, first_of}
use Rattle.forms.specs.Layout.{role_of, row_at, row_limit}
use Rattle.forms.specs.Exchange.{i8_of, ebcdic_of}
use Rattle.forms.specs.Forms.{byte_layout, is_surrogate, no_character, or_else, utf16_layout, ucs4_layout, fss_utf, i8, utf_ebcdic, utf16, ucs4}
use Rattle.laws.proofs.FormLaws.{Laws}
use Rattle.laws.proofs.Rows.{within_in, within_below, within_above, trails_in, trails_below, trails_above, invalid_above}
use Rattle.laws.proofs.LayoutLaws.{Fit, laws}
use Rattle.laws.proofs.AscendingRows.{ascending_fits}
use Rattle.laws.proofs.Exchanged.{exchanged_laws}
use Rattle.laws.proofs.ExchangeTable.{there, again}

pub fss_utf_fits : Fit (byte_layout 6 6)
fss_utf_fits = ascending_fits (byte_layout 6 6) refl

pub i8_fits : Fit (byte_layout 5 7)
i8_fits = ascending_fits (byte_layout 5 7) refl

pub ucs4_fits : Fit ucs4_layout
ucs4_fits = ascending_fits ucs4_layout refl

-- "In FSS-UTF, FE and FF lead nothing."
pub fss_utf-invalid : (u : ℕ) → 0xFE ≤ u → role_of (byte_layout 6 6) u ≡ invalid
fss_utf-invalid u h = invalid_above (byte_layout 6 6) 0xFE u refl (omega arith) h

pub ucs4-invalid : (u : ℕ) → 0x80000000 ≤ u → role_of ucs4_layout u ≡ invalid
ucs4-invalid u h = invalid_above ucs4_layout 0x80000000 u refl (omega arith) h

-- where neither of two tests has a fault
else_none : (x y : Option Fault) → or_else x y ≡ none → (x ≡ none) × (y ≡ none)
else_none none y e = (refl, e)
else_none (some f) y e = absurd (let z : ◌≡◌ {A = ℕ} 0 1 = cc in omega arith)

passed : (b : Bool) (f : Fault) → cond b (some f) none ≡ none → b ≡ false
passed true f e = absurd (let z : ◌≡◌ {A = ℕ} 0 1 = cc in omega arith)
passed false f e = refl

-- UTF-16: a value that is carried is no surrogate, and not above 10FFFF
module _ (v : ℕ) (free : utf16_layout.excluded v ≡ none) where
  both_none : (no_character v ≡ none) × (cond (ltb 0x10FFFF v) (some Unrepresentable) none ≡ none)
  both_none = else_none (no_character v) (cond (ltb 0x10FFFF v) (some Unrepresentable) none) free

  not_surrogate : is_surrogate v ≡ false
  not_surrogate = passed (is_surrogate v) Surrogate both_none.0

  not_above : ltb 0x10FFFF v ≡ false
  not_above = passed (ltb 0x10FFFF v) Unrepresentable both_none.1

pub low-alone : (u : ℕ) → u < 0xD800 → role_of utf16_layout u ≡ lead 0
low-alone u h = rw (trails_below 0xDC00 0x400 u (omega arith), within_below 0xD800 0xDBFF u h, within_in 0 0xFFFF u (omega arith) (omega arith))

pub high-alone : (u : ℕ) → 0xE000 ≤ u → u ≤ 0xFFFF → role_of utf16_layout u ≡ lead 0
high-alone u h k = rw (trails_above 0xDC00 0x400 u h, within_above 0xD800 0xDBFF u (omega arith), within_in 0 0xFFFF u (omega arith) k)

pub high-unit : (u : ℕ) → 0xD800 ≤ u → u ≤ 0xDBFF → role_of utf16_layout u ≡ lead 1
high-unit u h k = rw (trails_below 0xDC00 0x400 u (omega arith), within_in 0xD800 0xDBFF u h k)

pub low-unit : (u : ℕ) → 0xDC00 ≤ u → u ≤ 0xDFFF → role_of utf16_layout u ≡ trailing
low-unit u h k = rw (trails_in 0xDC00 0x400 u h (omega arith))

utf16-alone : (u : ℕ) → is_surrogate u ≡ false → u ≤ 0xFFFF → Dec (u < 0xD800) → Dec (u < 0xE000) → role_of utf16_layout u ≡ lead 0
utf16-alone u e t (yes a) b = low-alone u a
utf16-alone u e t (no a) (yes b) =
    absurd (let z : true ≡ false = sym (within_in 0xD800 0xDFFF u (omega arith) (omega arith)) ∙ e in let y : ◌≡◌ {A = ℕ} 0 1 = cc in omega arith)
utf16-alone u e t (no a) (no b) = high-alone u (omega arith) t

utf16-leads :
    (k v u : ℕ) → k < 2 → utf16_layout.excluded v ≡ none → v < row_limit utf16_layout k
    → u ≡ (row_at utf16_layout k).first + (v - (row_at utf16_layout k).origin) / 0x400 ^ k
    → (row_at utf16_layout k).first ≤ u → u ≤ (row_at utf16_layout k).last → role_of utf16_layout u ≡ lead k
utf16-leads zero v u h b l e f t =
    let q : v ≡ u = omega arith in
    utf16-alone u (subst (λ (x : ℕ). is_surrogate x ≡ false) q (not_surrogate v b)) t (dec_lt u 0xD800) (dec_lt u 0xE000)
utf16-leads (suc zero) v u h b l e f t = high-unit u f t
utf16-leads (suc (suc k)) v u h b l e f t = absurd (omega arith)

utf16_above : (k v : ℕ) → k < 2 → ((j : ℕ) → j < k → row_limit utf16_layout j ≤ v) → (row_at utf16_layout k).origin ≤ v
utf16_above zero v h l = omega arith
utf16_above (suc zero) v h l = omega (arith, l 0 (omega arith))
utf16_above (suc (suc k)) v h l = absurd (omega arith)

utf16_positive : (k : ℕ) → k < 2 → 0 < 0x400 ^ k
utf16_positive zero h = omega arith
utf16_positive (suc zero) h = omega arith
utf16_positive (suc (suc k)) h = absurd (omega arith)

utf16_bound : (k : ℕ) → k < 2 → row_limit utf16_layout k ≤ 0x80000000
utf16_bound zero h = omega arith
utf16_bound (suc zero) h = omega arith
utf16_bound (suc (suc k)) h = absurd (omega arith)

pub utf16_rise : (k : ℕ) → suc k < 2 → row_limit utf16_layout k ≤ row_limit utf16_layout (suc k)
utf16_rise zero h = omega arith
utf16_rise (suc k) h = absurd (omega arith)

pub utf16_fits : Fit utf16_layout
utf16_fits =
    record {
      positive = utf16_positive;
      above = utf16_above;
      leads = utf16-leads;
      bound = utf16_bound;
      reaches = λ v h x. (1, omega arith, omega (arith, ltb-false 0x10FFFF v (not_above v x)));
    }

pub fss_utf_laws : Laws fss_utf
fss_utf_laws = laws (byte_layout 6 6) fss_utf_fits (λ v f e. e)

pub i8_laws : Laws i8
i8_laws = laws (byte_layout 5 7) i8_fits (λ v f e. e)

pub utf_ebcdic_laws : Laws utf_ebcdic
utf_ebcdic_laws = exchanged_laws i8_of ebcdic_of i8 there again i8_laws

pub utf16_laws : Laws utf16
utf16_laws = laws utf16_layout utf16_fits (λ v f e. rw e)

pub ucs4_laws : Laws ucs4
ucs4_laws = laws ucs4_layout ucs4_fits (λ v f e. e)

-- "A UCS-4 unit is always one item."
module _ (u : ℕ) (us : List ℕ) where
  alone_by_role : (o : Role) → role_of ucs4_layout u ≡ o → (o ≡ lead 0) ⊎ (o ≡ invalid) → first_of ucs4 u us ≡ sequence u []
  alone_by_role (lead zero) e h = rw e
  alone_by_role (lead (suc k)) e (inl h) = absurd (let z : ◌≡◌ {A = ℕ} 0 1 = cc in omega arith)
  alone_by_role (lead (suc k)) e (inr h) = absurd (let z : ◌≡◌ {A = ℕ} 0 1 = cc in omega arith)
  alone_by_role trailing e (inl h) = absurd (let z : ◌≡◌ {A = ℕ} 0 1 = cc in omega arith)
  alone_by_role trailing e (inr h) = absurd (let z : ◌≡◌ {A = ℕ} 0 1 = cc in omega arith)
  alone_by_role invalid e h = rw e

  ucs4-role : Dec (u < 0x80000000) → (role_of ucs4_layout u ≡ lead 0) ⊎ (role_of ucs4_layout u ≡ invalid)
  ucs4-role (yes h) = inl (rw (trails_above 0 0 u (omega arith), within_in 0 0x7FFFFFFF u (omega arith) (omega arith)))
  ucs4-role (no h) = inr (ucs4-invalid u (omega arith))

  pub ucs4-one-unit : first_of ucs4 u us ≡ sequence u []
  ucs4-one-unit = alone_by_role (role_of ucs4_layout u) refl (ucs4-role (dec_lt u 0x80000000))
