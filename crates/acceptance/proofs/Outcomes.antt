-- What the numbers of a conversion's answer tell of its outcome.
use Prim.Native.Nat.{ℕ, ◌<◌, ◌≤◌}
use mathlib.Core.Path.{◌≡◌, refl, sym, ap, ◌∙◌, subst}
use mathlib.Core.Logic.{◌≢◌, ◌↔◌, ◌⊎◌, inl, inr}
use mathlib.Core.List.{List, ◌∷◌}
use native.Mathlib.Omega.{arith}
use native.Mathlib.Decide.{ℕ_discrete}
use lib.ListN.{length, length-append}
use Rattle.types.specs.declared.Fault.{Fault}
use Rattle.types.specs.declared.Fault.TheVariants.{SourceTooLong}
use Rattle.types.specs.declared.Refusal.{Refusal}
use Rattle.forms.specs.Fault.{number_of, limit, refusal}
use Rattle.forms.specs.Form.{Form, items, encode_all}
use Rattle.forms.specs.Forms.{strictly}
use Rattle.forms.specs.Conversion.{Outcome, converted, refused, answer_of}
use Rattle.laws.specs.Exactness.{OwnFault, FirstFault as FirstItem}
use Rattle.laws.proofs.Exactness.{items_refused, other_number}
use Rattle.c_answers.specs.declared.JkConversion.{JkConversion}
use Rattle.c_answers.specs.Answer.{conversion_answer}
use Rattle.acceptance.specs.FaultNumbers.{Among, strict_faults}
use Rattle.acceptance.specs.Condition1.{RefusalPlace}
use Rattle.acceptance.specs.Condition2.{FirstFault, Exactly}
use Rattle.acceptance.proofs.Numbers.{same-fault, not_none, not-among}
use Rattle.acceptance.proofs.Each.{Known}
use Rattle.acceptance.proofs.TurnedAway.{Unheld}
use Rattle.acceptance.proofs.FirstFaults.{refuses_among, first-fault, refused-there}

pub no_fault : (x : Outcome) (r : JkConversion) → r ≡ conversion_answer (answer_of x) → r.fault ≡ 0 → (es : List ℕ) × (x ≡ converted es) × (r.units ≡ length es)
no_fault (converted es) r e h = (es, refl, ap (λ (b : JkConversion). b.units) e)
no_fault (refused q) r e h = not_none q.fault (sym (ap (λ (b : JkConversion). b.fault) e) ∙ h)

-- a fault, and the refusal behind its number
pub record Behind (x : Outcome) (r : JkConversion) : Type 0 where
  pub refusal_is : Refusal
  pub outcome_is : x ≡ refused refusal_is
  pub number : number_of refusal_is.fault ≡ r.fault
  pub place : refusal_is.offset ≡ r.offset
  pub units : r.units ≡ 0

pub refused_with : (x : Outcome) (r : JkConversion) → r ≡ conversion_answer (answer_of x) → r.fault ≢ 0 → Behind x r
refused_with (converted es) r e n = absurd (n (ap (λ (b : JkConversion). b.fault) e))
refused_with (refused q) r e n =
    record {
      refusal_is = q;
      outcome_is = refl;
      number = sym (ap (λ (b : JkConversion). b.fault) e);
      place = sym (ap (λ (b : JkConversion). b.offset) e);
      units = ap (λ (b : JkConversion). b.units) e;
    }

no_place : (x : Outcome) (r : JkConversion) → r ≡ conversion_answer (answer_of x) → r.fault ≡ 0 → r.offset ≡ 0
no_place (converted es) r e h = ap (λ (b : JkConversion). b.offset) e
no_place (refused q) r e h = not_none q.fault (sym (ap (λ (b : JkConversion). b.fault) e) ∙ h)

module _ (x : Outcome) (r : JkConversion) (e : r ≡ conversion_answer (answer_of x)) where
  -- the refusal of a number that is that of f
  pub behind : (f : Fault) → r.fault ≡ number_of f → x ≡ refused (refusal f r.offset)
  behind f h =
      let w = refused_with x r e (λ z. not_none f (sym h ∙ z)) in
      let q = w.refusal_is in
      w.outcome_is
      ∙ ap (λ (g : Fault). refused (refusal g q.offset)) (same-fault q.fault f (w.number ∙ h))
      ∙ ap (λ (p : ℕ). refused (refusal f p)) w.place

  pub number_of_lem : (y : Outcome) → x ≡ y → r ≡ conversion_answer (answer_of y)
  number_of_lem y h = e ∙ ap (λ (z : Outcome). conversion_answer (answer_of z)) h

  module _ (F G : Form) (known : Known F) (unheld : Unheld F G) (s : List ℕ)
      (when_1 : (p : ℕ) → x ≡ refused (refusal SourceTooLong p) ↔ ((limit < length s) × (p ≡ 0)))
      (when-item : (q : Refusal) → OwnFault q.fault → x ≡ refused q ↔ ((length s ≤ limit) × FirstItem (strictly G) (items F s) q))
    where
      -- the first item at fault
      pub item_of : r.fault ≢ 0 → r.fault ≢ 1 → r.fault ≢ 7 → FirstFault F G s r.offset r.fault
      item_of n a b =
          let w = refused_with x r e n in
          let q = w.refusal_is in
          let y = (when-item q (other_number q.fault (λ z. a (sym w.number ∙ z)) (λ z. b (sym w.number ∙ z)))).0 w.outcome_is in
          moved q.offset r.offset (number_of q.fault) r.fault w.place w.number
          (first-fault F known.laws G unheld known.own s q y.0 ((items_refused (strictly G) (items F s) q).1 y.1))
        where
          moved : (p q k l : ℕ) → p ≡ q → k ≡ l → FirstFault F G s p k → FirstFault F G s q l
          moved p q k l a b f = subst (λ (y : ℕ). FirstFault F G s y l) a (subst (λ (y : ℕ). FirstFault F G s p y) b f)

      given-there : (q k : ℕ) → FirstFault F G s q k → (r.fault ≡ k) × (r.offset ≡ q) × Among k strict_faults
      given-there q k f =
          let y = refused-there F known.laws G unheld s q k f in
          let a = refuses_among F known.laws G unheld f.unit f.others k f.refused in
          let own = other_number y.0.fault (λ z. not-among k 1 strict_faults refl a (sym y.2 ∙ z)) (λ z. not-among k 7 strict_faults refl a (sym y.2 ∙ z)) in
          let w = number_of_lem (refused y.0) ((when-item y.0 own).1 (f.short, (items_refused (strictly G) (items F s) y.0).0 y.1)) in
          (ap (λ (b : JkConversion). b.fault) w ∙ y.2, ap (λ (b : JkConversion). b.offset) w ∙ y.3, a)

      pub exactly : Exactly F G s r
      exactly =
          record {
            fault_1 = (
              (λ h. ((when_1 r.offset).0 (behind SourceTooLong h)).0),
              (λ h. ap (λ (b : JkConversion). b.fault) (number_of_lem (refused (refusal SourceTooLong 0)) ((when_1 0).1 (h, refl)))),
            );
            item-fault = λ q k. ((λ w. item_is q k w.0 w.1 w.2), given-there q k);
          }
        where
          item_is : (q k : ℕ) → r.fault ≡ k → r.offset ≡ q → Among k strict_faults → FirstFault F G s q k
          item_is q k a b m =
              subst (λ (y : ℕ). FirstFault F G s y k) b
              (subst (λ (y : ℕ). FirstFault F G s r.offset y) a
              (item_of
              (λ z. not-among k 0 strict_faults refl m (sym a ∙ z))
              (λ z. not-among k 1 strict_faults refl m (sym a ∙ z))
              (λ z. not-among k 7 strict_faults refl m (sym a ∙ z))))

      inside-text : (q k : ℕ) → FirstFault F G s q k → q < length s
      inside-text q k f = omega (arith, f.place, ap length f.text, length-append (encode_all F f.values) (f.unit ∷ f.others))

      pub refusal-place : (r.fault ≡ 7 → r.offset ≡ 0) → RefusalPlace s r
      refusal-place at_7 =
          record {
            no_fault = no_place x r e;
            no_item = none;
            item = λ n a b. inside-text r.offset r.fault (item_of n a b);
            no_units = λ n. (refused_with x r e n).units;
          }
        where
          none : (r.fault ≡ 1) ⊎ (r.fault ≡ 7) → r.offset ≡ 0
          none (inl h) = ((when_1 r.offset).0 (behind SourceTooLong h)).1
          none (inr h) = at_7 h

      -- 0, 1, 7 or the fault of an item
      pub number_is : (r.fault ≡ 0) ⊎ ((r.fault ≡ 1) ⊎ ((r.fault ≡ 7) ⊎ Among r.fault strict_faults))
      number_is = go (ℕ_discrete r.fault 0) (ℕ_discrete r.fault 1) (ℕ_discrete r.fault 7)
        where
          go : Dec (r.fault ≡ 0) → Dec (r.fault ≡ 1) → Dec (r.fault ≡ 7) → (r.fault ≡ 0) ⊎ ((r.fault ≡ 1) ⊎ ((r.fault ≡ 7) ⊎ Among r.fault strict_faults))
          go (yes a) b c = inl a
          go (no a) (yes b) c = inr (inl b)
          go (no a) (no b) (yes c) = inr (inr (inl c))
          go (no a) (no b) (no c) =
              let f = item_of a b c in
              inr (inr (inr (refuses_among F known.laws G unheld f.unit f.others r.fault f.refused)))
