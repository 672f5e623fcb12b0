-- When an item is a mark, and of which fault.
use Prim.Native.Nat.{ℕ, suc, ◌≤◌, ◌<◌}
use mathlib.Core.Path.{◌≡◌, refl, sym, ap, ◌∙◌}
use mathlib.Core.Logic.{◌≢◌}
use mathlib.Core.Bool.{Bool, true, false, cond}
use mathlib.Core.List.{List, [], ◌∷◌}
use mathlib.Core.Option.{none, some}
use native.Mathlib.Omega.{arith}
use lib.Dec.{eqb}
use borrow.Author.Tests.{eq-eqb, eqb-true, eqb-false, ne_eqb, le-ltb, lt-ltb, ltb-true, ltb-false}
use lib.ListN.{length}
use Rattle.types.specs.declared.Fault.{Fault}
use Rattle.types.specs.declared.Fault.TheVariants.{MissingTrailing, StrayTrailing, InvalidUnit, Overlong, Surrogate}
use Rattle.forms.specs.Fault.{number_of}
use Rattle.forms.specs.Form.{Role, lead, trailing, invalid, Sequence, Form, asked, taken, first_of, character, mark, is_shorter, overlong, carried, full_content, content_as, content}
use Rattle.forms.specs.Forms.{is_surrogate, no_character}
use Rattle.laws.specs.LayoutTable.{Full}
use Rattle.laws.proofs.FormLaws.{Laws}
use Rattle.laws.proofs.Rows.{within_true}
use Rattle.laws.proofs.Carried.{surrogate}
use Rattle.laws.proofs.Sequences.{taken-most, taken-trailing}
use Rattle.acceptance.specs.FaultNumbers.{Among, mark_faults, Marks, too_few, stray, no_role, too_long, no_character_lem}
use Rattle.acceptance.proofs.Numbers.{among}

-- of the values of full sequences a form excludes what no form carries, and each has a shortest sequence
pub record OwnMarks (F : Form) : Type 0 where
  pub excludes : (c : Sequence) → Full F c → F.excluded (F.value c) ≡ no_character (F.value c)
  pub spells : (c : Sequence) → Full F c → F.shortest (F.value c) ≢ []

abbrev pub MarkOf : Form → ℕ → List ℕ → ℕ → Type 0
MarkOf F u us k = (f : Fault) × (content F (first_of F u us) ≡ mark f) × (k ≡ number_of f)

same-mark : {f g : Fault} → mark f ≡ mark g → f ≡ g
same-mark e = cc

no_mark : {A : Type 0} {v : ℕ} {f : Fault} → character v ≡ mark f → A
no_mark e = absurd (let z : ◌≡◌ {A = ℕ} 0 1 = cc in omega arith)

shorter : (e t : List ℕ) → is_shorter e t ≡ true → (e ≢ []) × (length e < suc (length t))
shorter [] t h = absurd (let z : ◌≡◌ {A = ℕ} 0 1 = cc in omega arith)
shorter (u ∷ e) t h = ((λ n. let z : ◌≡◌ {A = ℕ} 0 1 = cc in omega arith), omega (arith, ltb-true (length e) (length t) h))

is_shorter_lem : (e t : List ℕ) → e ≢ [] → length e < suc (length t) → is_shorter e t ≡ true
is_shorter_lem [] t n h = absurd (n refl)
is_shorter_lem (u ∷ e) t n h = lt-ltb (length e) (length t) (omega arith)

not_shorter : (e t : List ℕ) → e ≢ [] → is_shorter e t ≡ false → suc (length t) ≤ length e
not_shorter [] t n h = absurd (n refl)
not_shorter (u ∷ e) t n h = omega (arith, ltb-false (length e) (length t) h)

is_not_shorter : (e t : List ℕ) → suc (length t) ≤ length e → is_shorter e t ≡ false
is_not_shorter [] t h = absurd (omega arith)
is_not_shorter (u ∷ e) t h = le-ltb (length e) (length t) (omega arith)

module _ (F : Form) (u : ℕ) (us : List ℕ) where
  abbrev c : Sequence
  c = first_of F u us

  rest_is : (n : ℕ) → F.role u ≡ lead n → length c.rest ≡ length (taken F n us)
  rest_is n e = ap (λ (o : Role). length (taken F (asked o) us)) e

  pub marks_of : OwnMarks F → (f : Fault) → content F c ≡ mark f → Marks F u us (number_of f)
  marks_of own f h = by_role (F.role u) refl h
    where
      by_surrogate : (n : ℕ) → F.role u ≡ lead n → length c.rest ≡ n → overlong F c ≡ false → Full F c → (b : Bool) → is_surrogate (F.value c) ≡ b
          → carried (F.value c) (cond b (some Surrogate) none) ≡ mark f → Marks F u us (number_of f)
      by_surrogate n e l o full true i h =
          let w = within_true 0xD800 0xDFFF (F.value c) i in
          no_character_lem (sym (ap number_of (same-mark h))) n e (sym (rest_is n e) ∙ l)
          (omega (arith, not_shorter (F.shortest (F.value c)) c.rest (own.spells c full) o)) w.0 w.1
      by_surrogate n e l o full false i h = no_mark h

      by_value : (n : ℕ) → F.role u ≡ lead n → length c.rest ≡ n → (b : Bool) → overlong F c ≡ b
          → cond b (mark Overlong) (carried (F.value c) (F.excluded (F.value c))) ≡ mark f → Marks F u us (number_of f)
      by_value n e l true o h =
          let w = shorter (F.shortest (F.value c)) c.rest o in
          too_long (sym (ap number_of (same-mark h))) n e (sym (rest_is n e) ∙ l) w.0 (omega (arith, w.1))
      by_value n e l false o h =
          let full : Full F c = record { leads = e ∙ ap lead (sym l); trail = taken-trailing F (asked (F.role u)) us } in
          by_surrogate n e l o full (is_surrogate (F.value c)) refl (sym (ap (carried (F.value c)) (own.excludes c full)) ∙ h)

      by_length : (n : ℕ) → F.role u ≡ lead n → (b : Bool) → eqb (length c.rest) n ≡ b → cond b (full_content F c) (mark MissingTrailing) ≡ mark f → Marks F u us (number_of f)
      by_length n e true l h = by_value n e (eqb-true (length c.rest) n l) (overlong F c) refl h
      by_length n e false l h =
          too_few
          (sym (ap number_of (same-mark h)))
          n
          e
          (fewer (λ z. eqb-false (length c.rest) n l (rest_is n e ∙ z)) (taken-most F n us))
        where
          fewer : {m : ℕ} → (m ≡ n → ⊥) → m ≤ n → m < n
          fewer d a = omega (arith, d)

      by_role : (o : Role) → F.role u ≡ o → content_as F o c ≡ mark f → Marks F u us (number_of f)
      by_role (lead n) e h = by_length n e (eqb (length c.rest) n) refl h
      by_role trailing e h = stray (sym (ap number_of (same-mark h))) e
      by_role invalid e h = no_role (sym (ap number_of (same-mark h))) e

  pub mark_of : Laws F → (k : ℕ) → Marks F u us k → MarkOf F u us k
  mark_of laws k (too_few e n l h) =
      (MissingTrailing, ap (λ (o : Role). content_as F o c) l ∙ rw (ne_eqb (length c.rest) n (λ z. omega (arith, rest_is n l))), e)
  mark_of laws k (stray e l) = (StrayTrailing, ap (λ (o : Role). content_as F o c) l, e)
  mark_of laws k (no_role e l) = (InvalidUnit, ap (λ (o : Role). content_as F o c) l, e)
  mark_of laws k (too_long e n l w s h) =
      let q = rest_is n l ∙ w in (
        Overlong,
        ap (λ (o : Role). content_as F o c) l
            ∙ ap (λ (b : Bool). cond b (full_content F c) (mark MissingTrailing)) (eq-eqb (length c.rest) n q)
            ∙ ap
            (λ (b : Bool). cond b (mark Overlong) (carried (F.value c) (F.excluded (F.value c))))
            (is_shorter_lem (F.shortest (F.value c)) c.rest s (omega arith)),
        e,
      )
  mark_of laws k (no_character_lem e n l w s a b) =
      let q = rest_is n l ∙ w in (
        Surrogate,
        ap (λ (o : Role). content_as F o c) l
            ∙ ap (λ (b : Bool). cond b (full_content F c) (mark MissingTrailing)) (eq-eqb (length c.rest) n q)
            ∙ ap (λ (b : Bool). cond b (mark Overlong) (carried (F.value c) (F.excluded (F.value c)))) (is_not_shorter (F.shortest (F.value c)) c.rest (omega arith))
            ∙ ap (carried (F.value c)) (laws.shared (F.value c) Surrogate (surrogate (F.value c) a (omega arith))),
        e,
      )

  pub mark-among : (k : ℕ) → Marks F u us k → Among k mark_faults
  mark-among k (too_few e n l h) = among k 2 mark_faults refl e
  mark-among k (stray e l) = among k 3 mark_faults refl e
  mark-among k (no_role e l) = among k 4 mark_faults refl e
  mark-among k (too_long e n l w s h) = among k 5 mark_faults refl e
  mark-among k (no_character_lem e n l w s a b) = among k 10 mark_faults refl e
