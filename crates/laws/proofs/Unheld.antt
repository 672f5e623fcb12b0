-- What a target does not hold, and by which fault: FFFE and FFFF by 12, and by 6 what lies above 10FFFF.
use Prim.Native.Nat.{ℕ, ◌≤◌, ◌<◌}
use mathlib.Core.Path.{◌≡◌, refl, sym, ap, ◌∙◌}
use mathlib.Core.Logic.{◌⊎◌, inl, inr, ⊎_elim}
use mathlib.Core.Bool.{Bool, true, false, cond}
use mathlib.Core.List.{[]}
use mathlib.Core.Option.{Option, none, some}
use native.Mathlib.Omega.{arith}
use native.Mathlib.Decide.{dec_lt}
use lib.Dec.{ltb}
use borrow.Author.Tests.{le-ltb}
use Rattle.types.specs.declared.Fault.{Fault}
use Rattle.types.specs.declared.Fault.TheVariants.{Unrepresentable, NonCharacter}
use Rattle.forms.specs.Form.{Form, encode}
use Rattle.forms.specs.Forms.{no_character, or_else, fss_utf, utf_ebcdic, utf16, ucs4, turned_away, strictly}
use Rattle.forms.specs.Conversion.{unheld_by}
use Rattle.laws.proofs.FormLaws.{Laws}
use Rattle.laws.proofs.Carried.{encodable}
use Rattle.laws.proofs.Narrowed.{turned_away_lem, let_pass, turned_or-not, strict_same}

-- besides what no form carries
pub record Excludes (G : Form) : Type 0 where
  -- a form excludes nothing up to 10FFFF
  pub holds : (v : ℕ) → v ≤ 0x10FFFF → no_character v ≡ none → G.excluded v ≡ none
  -- and nothing but by 6
  pub others : (v : ℕ) → no_character v ≡ none → unheld_by (G.excluded v) ≡ Unrepresentable

-- a form that excludes the surrogates alone
surrogates_only : (G : Form) → ((v : ℕ) → G.excluded v ≡ no_character v) → Excludes G
surrogates_only G same = record { holds = λ v h free. same v ∙ free; others = λ v free. ap unheld_by (same v ∙ free) }

pub fss_utf_excludes : Excludes fss_utf
fss_utf_excludes = surrogates_only _ (λ v. refl)

pub utf_ebcdic_excludes : Excludes utf_ebcdic
utf_ebcdic_excludes = surrogates_only _ (λ v. refl)

pub utf16_excludes : Excludes utf16
utf16_excludes = record { holds = λ v h free. rw (free, le-ltb 0x10FFFF v h); others = λ v free. rw free (either (ltb 0x10FFFF v)) }
  where
    either : (b : Bool) → unheld_by (cond b (some Unrepresentable) none) ≡ Unrepresentable
    either true = refl
    either false = refl

pub ucs4_excludes : Excludes ucs4
ucs4_excludes = surrogates_only _ (λ v. refl)

module _ (G : Form) (excludes : Excludes G) (v : ℕ) (free : no_character v ≡ none) where
  by_12 : 0xFFFE ≤ v → v < 0x10000 → unheld_by ((strictly G).excluded v) ≡ NonCharacter
  by_12 h k = rw (excludes.holds v (omega arith) free, turned_away_lem v h k)

  by_6 : (0xFFFE ≤ v → 0x10000 ≤ v) → unheld_by ((strictly G).excluded v) ≡ Unrepresentable
  by_6 o = rw (let_pass v o) (go (G.excluded v) (excludes.others v free))
    where
      go : (o : Option Fault) → unheld_by o ≡ Unrepresentable → unheld_by (or_else o none) ≡ Unrepresentable
      go none e = e
      go (some f) e = e

  -- so it is the same in every target
  pub unheld_alike : unheld_by (turned_away v) ≡ unheld_by ((strictly G).excluded v)
  unheld_alike =
      ⊎_elim (λ w. ap unheld_by (turned_away_lem v w.0 w.1) ∙ sym (by_12 w.0 w.1)) (λ o. ap unheld_by (let_pass v o) ∙ sym (by_6 o)) (turned_or-not v)

  pub unheld_by_lem :
      Laws G → v < 0x80000000 → encode (strictly G) v ≡ [] → let f = unheld_by ((strictly G).excluded v) in
      ((f ≡ NonCharacter) × (0xFFFE ≤ v) × (v ≤ 0xFFFF)) ⊎ ((f ≡ Unrepresentable) × (0x10FFFF < v) × (encode G v ≡ []))
  unheld_by_lem laws small e =
      ⊎_elim (λ w. inl (by_12 w.0 w.1, w.0, omega (arith, w.1))) (λ o. let n = sym (strict_same G v o) ∙ e in inr (by_6 o, above n (dec_lt 0x10FFFF v), n)) (turned_or-not v)
    where
      above : encode G v ≡ [] → Dec (0x10FFFF < v) → 0x10FFFF < v
      above n (yes h) = h
      above n (no h) = absurd (encodable G laws v small (excludes.holds v (omega arith) free) n)
