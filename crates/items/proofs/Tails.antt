-- The loop that joins a lead's trailing units: what it keeps, and how a turn changes it.
use Prim.Native.Nat.{ℕ, zero, suc, ◌+◌, ◌*◌, ◌-◌, ◌^◌, ◌≤◌, ◌<◌}
use mathlib.Core.Path.{◌≡◌, refl, sym, ap, ◌∙◌}
use mathlib.Core.Bool.{false}
use mathlib.Core.List.{List, [], ◌∷◌}
use native.Mathlib.Omega.{arith}
use native.Mathlib.Nat.{pow-zero, pow-succ', mul_assoc, add-mul, one-mul, mul-le-mul_right, le_trans, one-le-pow, le-mul_of_pos_right}
use native.Mathlib.Numerals.{add-one}
use lib.ListN.{length, get_or, drop, drop_of_length-le}
use lib.Seq.{drop-cons}
use Rattle.forms.specs.Form.{trailing, is_trailing, taken}
use Rattle.forms.specs.Layout.{Layout, role_of, number, form_of}
use Rattle.laws.proofs.Digits.{IsDigit}
use Rattle.laws.proofs.LayoutLaws.{trailing_digit}
use Rattle.tables.specs.ByteForms.{byte_form, layout_of, plain_of, role_seen}
use Rattle.tables.specs.declared.ByteForm.{ByteForm}
use Rattle.tables.specs.declared.ByteRole.{ByteRole}
use Rattle.tables.specs.declared.ByteRole.TheVariants.{Trailing}
use Rattle.items.specs.Tail.{TailIs}
use Rattle.tables.proofs.Agreement.{plain_role}
use Rattle.tables.proofs.ByteLayouts.{fits, radix_positive}
use Rattle.items.proofs.Plain.{plain_text, plain_length, plain_at, role-trailing, role_other}

power_suc : (a R m : ℕ) → (a + 1) * R ^ suc m ≡ (a + 1) * R * R ^ m
power_suc a R m = ap (λ (x : ℕ). (a + 1) * x) (pow-succ' R m) ∙ sym (mul_assoc (a + 1) R (R ^ m))

-- one more digit keeps the room that the rest asks
room_more : (R a d m B : ℕ) → d < R → (a + 1) * R ^ suc m ≤ B → (a * R + d + 1) * R ^ m ≤ B
room_more R a d m B h k =
    let g : a * R + d + 1 ≤ (a + 1) * R = rw (add-mul a 1 R, one-mul R) (omega arith) in
    le_trans (mul-le-mul_right (R ^ m) g) (rw (power_suc a R m) at k)

-- and fits itself
digit_fits : (R a m B : ℕ) → 0 < R → (a + 1) * R ^ suc m ≤ B → a * R + R ≤ B
digit_fits R a m B h k =
    let g : (a + 1) * R ≡ a * R + R = add-mul a 1 R ∙ ap (λ (x : ℕ). a * R + x) (one-mul R) in
    rw (← g) (le_trans (le-mul_of_pos_right ((a + 1) * R) (one-le-pow m R h)) (rw (power_suc a R m) at k))

module _ (L : Layout) (s : List ℕ) (from asked lead : ℕ) where
  abbrev taken_from : ℕ → ℕ → List ℕ
  taken_from k at = taken (form_of L) k (drop at s)

  -- the free bits v joined with those of t
  abbrev joined_with : ℕ → List ℕ → ℕ
  joined_with v t = v * L.radix ^ length t + number L.low L.radix t

  -- `count` units are joined; what is left to take completes both the count and the value
  pub record Joining (count at value : ℕ) : Type 0 where
    pub place : at ≡ from + count
    pub within : count ≤ asked
    pub inside : at ≤ length s
    pub counted : length (taken (form_of L) asked (drop from s)) ≡ count + length (taken (form_of L) (asked - count) (drop at s))
    pub joins : joined_with value (taken (form_of L) (asked - count) (drop at s)) ≡ joined_with lead (taken (form_of L) asked (drop from s))
    pub room : (value + 1) * L.radix ^ (asked - count) ≤ 2 ^ 31

  pub begins : from ≤ length s → (lead + 1) * L.radix ^ asked ≤ 2 ^ 31 → Joining 0 from lead
  begins h r =
      let e : asked - 0 ≡ asked = omega arith in
      record { place = omega arith; within = omega arith; inside = h; counted = rw e (omega arith); joins = rw e; room = rw e r }

  one_less : (count : ℕ) → count < asked → asked - count ≡ suc (asked - (count + 1))
  one_less count h = omega arith

  takes_one : (count at : ℕ) → count < asked → at < length s → role_of L (get_or s at 0) ≡ trailing
      → taken_from (asked - count) at ≡ get_or s at 0 ∷ taken_from (asked - (count + 1)) (at + 1)
  takes_one count at h i r = rw (one_less count h, drop-cons s at 0 i, r, add-one at)

  joins_one : (R v d n P T : ℕ) → T ≡ R * P → v * T + (d * P + n) ≡ (v * R + d) * P + n
  joins_one R v d n P T e = rw e (omega arith)

  module _ (count at value : ℕ) (j : Joining count at value) where
    pub fits_one : 0 < L.radix → count < asked → value * L.radix + L.radix ≤ 2 ^ 31
    fits_one p h = digit_fits L.radix value (asked - (count + 1)) (2 ^ 31) p (rw (one_less count h) at j.room)

    pub joins_more :
        count < asked → at < length s → role_of L (get_or s at 0) ≡ trailing → get_or s at 0 - L.low < L.radix
        → Joining (count + 1) (at + 1) (value * L.radix + (get_or s at 0 - L.low))
    joins_more h i r d =
        let t = takes_one count at h i r in
        let rest = taken_from (asked - (count + 1)) (at + 1) in
        record {
          place = omega arith;
          within = omega arith;
          inside = omega arith;
          counted = omega (arith, j.counted, ap length t);
          joins =
              sym (joins_one L.radix value (get_or s at 0 - L.low) (number L.low L.radix rest) (L.radix ^ length rest) (L.radix ^ suc (length rest)) (pow-succ' L.radix (length rest)))
              ∙ sym (ap (joined_with value) t)
              ∙ j.joins;
          room = room_more L.radix value (get_or s at 0 - L.low) (asked - (count + 1)) (2 ^ 31) d (rw (one_less count h) at j.room);
        }

    stops : taken_from (asked - count) at ≡ [] → TailIs L (drop from s) asked lead count value
    stops z =
        let n : count ≡ length (taken (form_of L) asked (drop from s)) = omega (arith, j.counted, ap length z) in
        let v : value ≡ joined_with value (taken_from (asked - count) at) = rw (z, pow-zero L.radix) (omega arith) in
        record { counted = n; joined = v ∙ j.joins ∙ rw (← n) }

    taken_none : (k : ℕ) → taken (form_of L) k [] ≡ []
    taken_none zero = refl
    taken_none (suc k) = refl

    other_none : (k u : ℕ) (us : List ℕ) → is_trailing (role_of L u) ≡ false → taken (form_of L) k (u ∷ us) ≡ []
    other_none zero u us e = refl
    other_none (suc k) u us e = rw e

    pub stops_at-end : length s ≤ at → TailIs L (drop from s) asked lead count value
    stops_at-end h = stops (rw (drop_of_length-le s h) (taken_none (asked - count)))

    pub stops_at_other : at < length s → is_trailing (role_of L (get_or s at 0)) ≡ false → TailIs L (drop from s) asked lead count value
    stops_at_other h e = stops (rw (drop-cons s at 0 h) (other_none (asked - count) (get_or s at 0) (drop (suc at) s) e))

    pub stops_at-asked : asked ≤ count → TailIs L (drop from s) asked lead count value
    stops_at-asked h =
        let e : asked - count ≡ 0 = omega arith in
        stops (rw e)

-- the same of a byte form's text, as the code reads it
module _ (f : ByteForm) (s : List ℕ) (from asked lead : ℕ) where
  abbrev pub JoiningBytes : ℕ → ℕ → ℕ → Type 0
  JoiningBytes count at value = Joining (layout_of f) (plain_text f s) from asked lead count at value

  abbrev pub TailOf : ℕ → ℕ → Type 0
  TailOf count value = TailIs (layout_of f) (drop from (plain_text f s)) asked lead count value

  pub bytes_begin : from ≤ length s → (lead + 1) * (layout_of f).radix ^ asked ≤ 2 ^ 31 → JoiningBytes 0 from lead
  bytes_begin h r = begins (layout_of f) (plain_text f s) from asked lead (rw (plain_length f s) h) r

  module _ (count at value : ℕ) (j : JoiningBytes count at value) where
    pub bytes_inside : at ≤ length s
    bytes_inside = rw (plain_length f s) at j.inside

    pub bytes_fit : (r : ℕ) → r ≡ (layout_of f).radix → count < asked → value * r + r ≤ 2 ^ 31
    bytes_fit r e h = rw e (fits_one (layout_of f) (plain_text f s) from asked lead count at value j (radix_positive f) h)

    pub bytes_end : length s ≤ at → TailOf count value
    bytes_end h = stops_at-end (layout_of f) (plain_text f s) from asked lead count at value j (rw (plain_length f s) h)

    pub bytes_asked : asked ≤ count → TailOf count value
    bytes_asked h = stops_at-asked (layout_of f) (plain_text f s) from asked lead count at value j h

    module _ (h : at < length s) (b : ByteRole) (e : b ≡ role_seen ((byte_form f).role (get_or s at 0))) where
      pub bytes_other : (b ≡ Trailing → ⊥) → TailOf count value
      bytes_other q =
          stops_at_other (layout_of f) (plain_text f s) from asked lead count at value j (rw (plain_length f s) h)
          (rw (plain_at f s at) (role_other f (get_or s at 0) b e q))

      trails : b ≡ Trailing → role_of (layout_of f) (plain_of f (get_or s at 0)) ≡ trailing
      trails q = sym (plain_role f (get_or s at 0)) ∙ role-trailing f (get_or s at 0) b e q

      pub bytes_digit : b ≡ Trailing → IsDigit (layout_of f).low (layout_of f).radix (plain_of f (get_or s at 0))
      bytes_digit q = trailing_digit (layout_of f) (fits f) (plain_of f (get_or s at 0)) (trails q)

      pub bytes_more :
          b ≡ Trailing → count < asked → (r x : ℕ) → r ≡ (layout_of f).radix → x ≡ plain_of f (get_or s at 0) - (layout_of f).low
          → JoiningBytes (count + 1) (at + 1) (value * r + x)
      bytes_more q k r x er ex =
          rw (er, ex, ← plain_at f s at)
          (joins_more (layout_of f) (plain_text f s) from asked lead count at value j k (rw (plain_length f s) h)
          (rw (plain_at f s at) (trails q)) (rw (plain_at f s at) (omega (arith, bytes_digit q))))
