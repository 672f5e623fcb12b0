-- The units of a UCS-4 text that comes to a result are its values.
use Prim.Native.Nat.{ℕ, ◌+◌, ◌≤◌, ◌<◌}
use mathlib.Core.Path.{◌≡◌, refl}
use mathlib.Core.Logic.{◌≢◌}
use mathlib.Core.Bool.{Bool, true, false}
use mathlib.Core.List.{List, []}
use native.Mathlib.Omega.{arith}
use native.Mathlib.Decide.{dec_lt}
use lib.ListN.{length, get_or}
use Rattle.types.specs.declared.Fault.{Fault}
use Rattle.types.specs.declared.Fault.TheVariants.{InvalidUnit, Surrogate}
use Rattle.forms.specs.Form.{Form, encode, encode_all, span}
use Rattle.forms.specs.Forms.{is_surrogate, ucs4}
use Rattle.laws.proofs.FourForms.{ucs4_laws}
use Rattle.laws.proofs.Carried.{not-excluded, encodable_small}
use Rattle.laws.proofs.Progress.{CharacterAt, MarkAt}
use Rattle.laws.proofs.Runs.{Run, Convertible, convertible_run, convertible_mark}
use Rattle.laws.proofs.Values.{part, Encodable, Room, singles_run, singles_encodable, singles_room}
use Rattle.items.proofs.WholeUnits.{ucs4-character, ucs4_surrogate, ucs4-mark}

pub unit-character : (s : List ℕ) (p : ℕ) → p < length s → encode ucs4 (get_or s p 0) ≢ [] → CharacterAt ucs4 s p (get_or s p 0) (span p 1)
unit-character s p h n =
    let v = get_or s p 0 in
    record { inside = h; is = ucs4-character s p (encodable_small ucs4 ucs4_laws v n) (not-excluded ucs4 v n) }

-- a unit that is no mark is a character
pub unit-unmarked : (s : List ℕ) (p : ℕ) → p < length s → ((f : Fault) → MarkAt ucs4 s p f (span p 1) → ⊥) → CharacterAt ucs4 s p (get_or s p 0) (span p 1)
unit-unmarked s p h no_mark = go (dec_lt (get_or s p 0) 0x80000000) (is_surrogate (get_or s p 0)) refl
  where
    go : Dec (get_or s p 0 < 0x80000000) → (b : Bool) → is_surrogate (get_or s p 0) ≡ b → CharacterAt ucs4 s p (get_or s p 0) (span p 1)
    go (yes l) false e = record { inside = h; is = ucs4-character s p l (rw e) }
    go (yes l) true e = absurd (no_mark Surrogate (record { inside = h; is = ucs4_surrogate s p l (rw e) }))
    go (no l) b e = absurd (no_mark InvalidUnit (record { inside = h; is = ucs4-mark s p (omega arith) }))

module _ {G : Form} {s : List ℕ} {at n m : ℕ} (c : Convertible ucs4 G s at n m) (k : ℕ) (inside : at + k ≤ length s) where
  -- behind some of its units stands a character
  next : (j : ℕ) → j < k → Run ucs4 G s at j (encode_all G (part s at j)) → CharacterAt ucs4 s (at + j) (get_or s (at + j) 0) (span (at + j) 1)
  next j h r = unit-unmarked s (at + j) (omega arith) (λ f w. convertible_mark (convertible_run c r).1 w)

  pub units_run : Run ucs4 G s at k (encode_all G (part s at k))
  units_run = singles_run c inside next k (omega arith)

  pub units_encodable : Encodable G s at k
  units_encodable = singles_encodable c inside next

  pub units-room : Room G s at k n m
  units-room = singles_room c inside next
