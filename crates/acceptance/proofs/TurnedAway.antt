-- What strict conversion writes in a form: the values of its legal encodings, but for FFFE and FFFF.
use Prim.Native.Nat.{ℕ, ◌≤◌, ◌<◌}
use mathlib.Core.Path.{◌≡◌, sym, ap, ◌∙◌}
use mathlib.Core.Logic.{◌≢◌, ◌⊎◌, inl, inr, ⊎_elim}
use mathlib.Core.Bool.{true}
use mathlib.Core.List.{List, [], ◌∷◌}
use native.Mathlib.Omega.{arith}
use native.Mathlib.Decide.{dec_lt}
use Rattle.types.specs.declared.Fault.TheVariants.{Unrepresentable, NonCharacter}
use Rattle.forms.specs.Form.{Form, encode, AllEncodable}
use Rattle.forms.specs.Forms.{is_non_character, turned_away, strictly}
use Rattle.forms.specs.Conversion.{unheld_by}
use Rattle.laws.proofs.Narrowed.{wide_encodable, turned_or-not, strict_none, strict_same}
use Rattle.acceptance.specs.FaultNumbers.{TurnedAway}
use Rattle.acceptance.specs.Condition2.{NoneTurnedAway}

is_turned : (v : ℕ) → TurnedAway v → is_non_character v ≡ true
is_turned v (inl e) = ap is_non_character e
is_turned v (inr e) = ap is_non_character e

pub turned_of : (v : ℕ) → 0xFFFE ≤ v → v ≤ 0xFFFF → TurnedAway v
turned_of v h k = go (dec_lt v 0xFFFF)
  where
    go : Dec (v < 0xFFFF) → TurnedAway v
    go (yes l) = inl (omega arith)
    go (no l) = inr (omega arith)

pub not_turned : {v : ℕ} → (0xFFFE ≤ v → 0x10000 ≤ v) → TurnedAway v → ⊥
not_turned o (inl e) = omega (arith, o (omega arith))
not_turned o (inr e) = omega (arith, o (omega arith))

pub none_written : (G : Form) (v : ℕ) → TurnedAway v → encode (strictly G) v ≡ []
none_written G v t = strict_none G v (is_turned v t)

pub written : (G : Form) (vs : List ℕ) → AllEncodable (strictly G) vs → AllEncodable G vs × NoneTurnedAway vs
written G [] a = (tt, tt)
written G (v ∷ vs) a = let r = written G vs a.1 in ((wide_encodable turned_away G v a.0, r.0), ((λ t. a.0 (none_written G v t)), r.1))

pub all-written : (G : Form) (vs : List ℕ) → AllEncodable G vs → NoneTurnedAway vs → AllEncodable (strictly G) vs
all-written G [] a n = tt
all-written G (v ∷ vs) a n =
    (⊎_elim (λ w e. n.0 (turned_of v w.0 (omega (arith, w.1)))) (λ o e. a.0 (sym (strict_same G v o) ∙ e)) (turned_or-not v), all-written G vs a.1 n.1)

-- the fault of a character that is not written, as `Pair` has it
abbrev pub Unheld : Form → Form → Type 0
Unheld F G =
    (v : ℕ) → encode F v ≢ [] → encode (strictly G) v ≡ [] → let f = unheld_by ((strictly G).excluded v) in
    ((f ≡ NonCharacter) × (0xFFFE ≤ v) × (v ≤ 0xFFFF)) ⊎ ((f ≡ Unrepresentable) × (0x10FFFF < v) × (encode G v ≡ []))
