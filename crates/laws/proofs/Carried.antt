-- Which values have a legal encoding: those below 80000000 that the form does not exclude. What no form carries has none in any.
use Prim.Native.Nat.{ℕ, ◌≤◌, ◌<◌}
use mathlib.Core.Path.{◌≡◌, refl, sym, ◌∙◌}
use mathlib.Core.Logic.{◌≢◌}
use mathlib.Core.Bool.{false}
use mathlib.Core.List.{List, [], ◌∷◌}
use mathlib.Core.Option.{Option, none, some}
use native.Mathlib.Omega.{arith}
use native.Mathlib.Decide.{dec_lt}
use Rattle.types.specs.declared.Fault.{Fault}
use Rattle.types.specs.declared.Fault.TheVariants.{Surrogate}
use Rattle.forms.specs.Form.{Form, sequence, unless, encode}
use Rattle.forms.specs.Forms.{is_surrogate, no_character, ucs4}
use Rattle.laws.proofs.FormLaws.{Laws}
use Rattle.laws.proofs.Rows.{within_in, within_below, within_above}
use Rattle.laws.proofs.FourForms.{ucs4_laws}

some-none : {f : Fault} → some f ≢ none
some-none e = let z : ◌≡◌ {A = ℕ} 0 1 = cc in omega arith

-- what no form carries is the surrogates
pub surrogate : (v : ℕ) → 0xD800 ≤ v → v < 0xE000 → no_character v ≡ some Surrogate
surrogate v h k = rw (within_in 0xD800 0xDFFF v h (omega arith))

pub free_below : (v : ℕ) → v < 0xD800 → no_character v ≡ none
free_below v h = rw (within_below 0xD800 0xDFFF v h)

pub free_above : (v : ℕ) → 0xE000 ≤ v → no_character v ≡ none
free_above v h = rw (within_above 0xD800 0xDFFF v (omega arith))

pub not_surrogate : (v : ℕ) → (0xD800 ≤ v → 0xE000 ≤ v) → is_surrogate v ≡ false
not_surrogate v o = go (dec_lt v 0xD800)
  where
    go : Dec (v < 0xD800) → is_surrogate v ≡ false
    go (yes h) = within_below 0xD800 0xDFFF v h
    go (no h) = let k = o (omega arith) in within_above 0xD800 0xDFFF v (omega arith)

pub free_outside : (v : ℕ) → (0xD800 ≤ v → 0xE000 ≤ v) → no_character v ≡ none
free_outside v o = rw (not_surrogate v o)

pub outside : (v : ℕ) → no_character v ≡ none → 0xD800 ≤ v → 0xE000 ≤ v
outside v e h = go (dec_lt v 0xE000)
  where
    go : Dec (v < 0xE000) → 0xE000 ≤ v
    go (yes k) = absurd (some-none (sym (surrogate v h k) ∙ e))
    go (no k) = omega arith

unless-none : (o : Option Fault) (e : List ℕ) → unless o e ≢ [] → o ≡ none
unless-none none e n = refl
unless-none (some f) e n = absurd (n refl)

pub not-excluded : (F : Form) (v : ℕ) → encode F v ≢ [] → F.excluded v ≡ none
not-excluded F v n = unless-none (F.excluded v) (F.shortest v) n

module _ (F : Form) (laws : Laws F) (v : ℕ) where
  pub encodable : v < 0x80000000 → F.excluded v ≡ none → encode F v ≢ []
  encodable h x = rw x (laws.carries v h x)

  module _ (n : encode F v ≢ []) where
    pub encodable_small : v < 0x80000000
    encodable_small = go (encode F v) refl
      where
        go : (e : List ℕ) → encode F v ≡ e → v < 0x80000000
        go [] e = absurd (n e)
        go (u ∷ t) e = laws.small (sequence u t) v (laws.legal v (sequence u t) e)

    pub encodable_free : no_character v ≡ none
    encodable_free = go (no_character v) refl
      where
        go : (o : Option Fault) → no_character v ≡ o → no_character v ≡ none
        go none e = e
        go (some f) e = absurd (some-none (sym (laws.shared v f e) ∙ not-excluded F v n))

    -- a character's value in one form is one in UCS-4
    pub is_character : encode ucs4 v ≢ []
    is_character e = absurd (ucs4_laws.carries v encodable_small encodable_free (rw encodable_free at e))
