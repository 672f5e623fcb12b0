-- The search backwards over bytes: what its loop keeps, how a trailing byte carries it on, and what it comes to; and the two answers for any form.
use Prim.Native.Nat.{ℕ, zero, suc, ◌+◌, ◌-◌, ◌≤◌, ◌<◌}
use mathlib.Core.Path.{◌≡◌, refl, sym, ap, ◌∙◌}
use mathlib.Core.List.{List}
use native.Mathlib.Omega.{arith}
use native.Mathlib.Numerals.{add-one}
use borrow.Author.Tests.{le-leb, lt-leb}
use lib.ListN.{length, get_or, take, drop}
use Rattle.types.specs.declared.Fault.TheVariants.{OffsetOutOfRange}
use Rattle.types.specs.declared.Item.{Item}
use Rattle.types.specs.declared.Refusal.{Refusal}
use Rattle.forms.specs.Fault.{limit, refusal}
use Rattle.forms.specs.Form.{Role, Form}
use Rattle.forms.specs.Finder.{FindsItem}
use Rattle.laws.specs.Finder.{units_before, nearest}
use Rattle.laws.proofs.Distances.{distance_at, distance_back, part_nearest}
use Rattle.laws.proofs.Finder.{Near, out_of_range}
use Rattle.laws.proofs.Numbers.{finds_item}
use Rattle.items.specs.ItemAt.{item_at}
use Rattle.tables.specs.ByteForms.{role_seen}
use Rattle.tables.specs.declared.ByteRole.{ByteRole}
use Rattle.tables.specs.declared.ByteRole.TheVariants.{Lead, Trailing, Invalid}
use Rattle.tables.proofs.Agreement.{role_is}
use Rattle.std.specs.Prelude.{Ok, Err}

-- a unit by its role: trailing, a lead that takes the units passed, or another
seen-trailing : (o : Role) (j d : ℕ) (r : ByteRole) → r ≡ role_seen o → r ≡ Trailing → distance_at o j d ≡ d
seen-trailing o j d r e q = rw (role_is o r Trailing e q)

seen_takes : (o : Role) (j d n : ℕ) (r : ByteRole) → r ≡ role_seen o → r ≡ Lead n → j < n → distance_at o j d ≡ j
seen_takes o j d n r e q h = rw (role_is o r (Lead n) e q, le-leb j (n - 1) (omega arith))

seen_leaves : (o : Role) (j d n : ℕ) (r : ByteRole) → r ≡ role_seen o → r ≡ Lead n → n ≤ j → distance_at o j d ≡ 0
seen_leaves o zero d n r e q h = rw (role_is o r (Lead n) e q, le-leb 0 (n - 1) (omega arith))
seen_leaves o (suc j) d n r e q h = rw (role_is o r (Lead n) e q, lt-leb (suc j) (n - 1) (omega arith))

seen-invalid : (o : Role) (j d : ℕ) (r : ByteRole) → r ≡ role_seen o → r ≡ Invalid → distance_at o j d ≡ 0
seen-invalid o j d r e q = rw (role_is o r Invalid e q)

-- so many trailing bytes were passed, and the bytes before `at` tell the rest
pub record Seeking (F : Form) (s : List ℕ) (passed at : ℕ) : Type 0 where
  pub counted : passed + at ≡ length s
  pub told : distance_back F 0 (units_before (length s) s) ≡ distance_back F passed (units_before at s)

pub seeking_begin : {F : Form} {s : List ℕ} → Seeking F s 0 (length s)
seeking_begin = record { counted = omega arith; told = refl }

pub seeking_end : {F : Form} {s : List ℕ} {passed at : ℕ} → Seeking F s passed at → at ≤ 0 → 0 ≡ distance_back F 0 (units_before (length s) s)
seeking_end {F} {s} {passed} {at} k h = let z : at ≡ 0 = omega arith in sym (k.told ∙ ap (λ (x : ℕ). distance_back F passed (units_before x s)) z)

module _ {F : Form} {s : List ℕ} {passed at : ℕ} (k : Seeking F s passed at) (h : 0 < at) (r : ByteRole) (e : r ≡ role_seen (F.role (get_or s (at - 1) 0))) where
  -- what the bytes before the next one tell
  abbrev rest : ℕ
  rest = distance_back F (suc passed) (units_before (at - 1) s)

  next : distance_back F 0 (units_before (length s) s) ≡ distance_at (F.role (get_or s (at - 1) 0)) passed rest
  next = let q : at ≡ suc (at - 1) = omega arith in k.told ∙ ap (λ (x : ℕ). distance_back F passed (units_before x s)) q

  pub seeking_more : r ≡ Trailing → {m : ℕ} → m ≡ passed + 1 → Seeking F s m (at - 1)
  seeking_more q {m} l =
      let j : suc passed ≡ m = omega arith in
      record {
        counted = omega (arith, k.counted);
        told =
            next
            ∙ seen-trailing (F.role (get_or s (at - 1) 0)) passed rest r e q
            ∙ ap (λ (x : ℕ). distance_back F x (units_before (at - 1) s)) j;
      }

  pub seeking_takes : (n : ℕ) → r ≡ Lead n → passed < n → passed ≡ distance_back F 0 (units_before (length s) s)
  seeking_takes n q l = sym (next ∙ seen_takes (F.role (get_or s (at - 1) 0)) passed rest n r e q l)

  pub seeking_leaves : (n : ℕ) → r ≡ Lead n → n ≤ passed → 0 ≡ distance_back F 0 (units_before (length s) s)
  seeking_leaves n q l = sym (next ∙ seen_leaves (F.role (get_or s (at - 1) 0)) passed rest n r e q l)

  pub seeking_stops : r ≡ Invalid → 0 ≡ distance_back F 0 (units_before (length s) s)
  seeking_stops q = sym (next ∙ seen-invalid (F.role (get_or s (at - 1) 0)) passed rest r e q)

-- as many bytes as were asked for, up to a place, are the nearest there
pub nearest_part :
    (s : List ℕ) (p from n : ℕ) → p < length s → from ≡ p + 1 - n
    → let t = take (p + 1 - from) (drop from s) in units_before (length t) t ≡ nearest n (suc p) s
nearest_part s p from n h b = rw b (part_nearest n (p + 1) s (omega arith) ∙ ap (λ (x : ℕ). nearest n x s) (add-one p))

-- the refusal with the asked offset, past the text
pub beyond_at :
    {F : Form} {s : List ℕ} {p at : ℕ} {r : Refusal} → r ≡ refusal OffsetOutOfRange at → at ≡ p → length s ≤ limit → length s ≤ p → FindsItem F s p (Err r)
beyond_at {F} {s} {p} {at} {r} h e w l = finds_item (out_of_range F s p (h ∙ ap (refusal OffsetOutOfRange) e) w l)

-- the item read at the start that was found
pub finds_at : {F : Form} {s : List ℕ} {p d at : ℕ} {i : Item} → Near F s p d → at ≡ p - d → i ≡ item_at F s at → FindsItem F s p (Ok i)
finds_at {F} {s} {p} {d} {at} {i} k e h = finds_item (k.answer i (h ∙ ap (λ (x : ℕ). item_at F s x) e))
