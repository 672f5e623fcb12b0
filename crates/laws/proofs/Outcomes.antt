-- Outcomes told apart, and what came before one.
use Prim.Native.Nat.{ℕ}
use mathlib.Core.Path.{◌≡◌, refl}
use mathlib.Core.Logic.{◌≢◌}
use mathlib.Core.List.{List, [], ◌∷◌, ◌++◌}
use native.Mathlib.Omega.{arith}
use Rattle.types.specs.declared.Refusal.{Refusal}
use Rattle.forms.specs.Conversion.{Outcome, converted, refused, prepend, put}

pub outcomes_differ : {A : Type 0} {es : List ℕ} {r : Refusal} → refused r ≡ converted es → A
outcomes_differ e = absurd (let z : ◌≡◌ {A = ℕ} 0 1 = cc in omega arith)

pub refused-same : {q r : Refusal} → refused q ≡ refused r → q ≡ r
refused-same e = cc

pub converted-same : {d e : List ℕ} → converted d ≡ converted e → d ≡ e
converted-same e = cc

pub prepend-converted : (e es : List ℕ) (o : Outcome) → prepend e o ≡ converted es → (fs : List ℕ) × (o ≡ converted fs) × (es ≡ e ++ fs)
prepend-converted e es (converted fs) h = (fs, refl, cc)
prepend-converted e es (refused r) h = absurd (let z : ◌≡◌ {A = ℕ} 0 1 = cc in omega arith)

-- what is put is no empty encoding, or it is a refusal
pub put_some : (e : List ℕ) (r : Refusal) (o : Outcome) → e ≢ [] → put e r o ≡ prepend e o
put_some [] r o n = absurd (n refl)
put_some (u ∷ e) r o n = refl

pub put-converted : (e es : List ℕ) (r : Refusal) (o : Outcome) → put e r o ≡ converted es → (e ≢ []) × (prepend e o ≡ converted es)
put-converted [] es r o h = absurd (let z : ◌≡◌ {A = ℕ} 0 1 = cc in omega arith)
put-converted (u ∷ e) es r o h = ((λ n. let z : ◌≡◌ {A = ℕ} 0 1 = cc in omega arith), h)
