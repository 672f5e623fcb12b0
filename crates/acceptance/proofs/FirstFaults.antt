-- A refusal for an item: good characters stand before it, and its fault is that of what stands there.
use Prim.Native.Nat.{ℕ, zero, suc, ◌+◌, ◌≤◌, ◌<◌}
use mathlib.Core.Path.{◌≡◌, refl, sym, ap, ◌∙◌}
use mathlib.Core.Logic.{◌≢◌, ◌⊎◌, inl, inr, ⊎_elim}
use mathlib.Core.List.{List, [], ◌∷◌, ◌++◌, append_assoc}
use native.Mathlib.Omega.{arith}
use lib.ListN.{length, drop, length-append, length-drop}
use Rattle.types.specs.declared.Refusal.{Refusal}
use Rattle.forms.specs.Fault.{number_of, refusal}
use Rattle.forms.specs.Form.{Sequence, size, Form, first_of, sequences_after, sequences, Content, character, mark, content, span, with_span, item_of, items_from, items, encode, encode_all, AllEncodable, OccursAt}
use Rattle.forms.specs.Forms.{strictly}
use Rattle.forms.specs.Conversion.{Outcome, converted, refused, encoding, unheld_by, refusal_at, prepend, put, convert_items}
use Rattle.laws.proofs.FormLaws.{Laws}
use Rattle.laws.proofs.Sequences.{sequences-after}
use Rattle.laws.proofs.Characters.{characters_from, read-characters}
use Rattle.laws.specs.Exactness.{AllHeld}
use Rattle.laws.proofs.Exactness.{items_refused}
use Rattle.laws.proofs.Outcomes.{outcomes_differ, refused-same}
use Rattle.acceptance.specs.FaultNumbers.{Among, mark_faults, strict_faults, Refuses, marked, turned_away_lem, unheld}
use Rattle.acceptance.specs.Condition2.{FirstFault}
use Rattle.laws.proofs.Narrowed.{strict_same}
use Rattle.acceptance.proofs.Numbers.{among, all_in_lem}
use Rattle.acceptance.proofs.TurnedAway.{Unheld, turned_of, not_turned, none_written, written, all-written}
use Rattle.acceptance.proofs.Marking.{OwnMarks, MarkOf, marks_of, mark_of, mark-among}
use Rattle.acceptance.proofs.Standing.{encoding_is, stands, reads_there}

-- what is shown of units that a conversion refuses by k
abbrev Shown : Form → Form → ℕ → List ℕ → ℕ → Type 0
Shown F G u us k = MarkOf F u us k ⊎ ((v : ℕ) × (content F (first_of F u us) ≡ character v) × (encode G v ≡ []) × (k ≡ number_of (unheld_by (G.excluded v))))

-- where the text is the rest of one, from p on
record FaultFrom (F G : Form) (p : ℕ) (s : List ℕ) (r : Refusal) : Type 0 where
  pub values : List ℕ
  pub unit : ℕ
  pub others : List ℕ
  pub text : s ≡ encode_all F values ++ (unit ∷ others)
  pub from : AllEncodable F values
  pub to : AllEncodable G values
  pub place : r.offset ≡ p + length (encode_all F values)
  pub shown : Shown F G unit others (number_of r.fault)

module _ (F : Form) (laws : Laws F) (G : Form) where
  prepend-refused : (e : List ℕ) (o : Outcome) (r : Refusal) → prepend e o ≡ refused r → o ≡ refused r
  prepend-refused e (converted es) r h = outcomes_differ (sym h)
  prepend-refused e (refused q) r h = ap refused (refused-same h)

  module _ (u : ℕ) (us : List ℕ) (p : ℕ) (r : Refusal) where
    abbrev c : Sequence
    c = first_of F u us

    abbrev later : List ℕ
    later = drop (length c.rest) us

    here : Shown F G u us (number_of r.fault) → r.offset ≡ p → FaultFrom F G p (u ∷ us) r
    here f e = record { values = []; unit = u; others = us; text = refl; from = tt; to = tt; place = omega (arith, e); shown = f }

    behind : (v : ℕ) → content F c ≡ character v → encode G v ≢ [] → FaultFrom F G (p + size c) later r → FaultFrom F G p (u ∷ us) r
    behind v e x w =
        let l = encoding_is F laws u us v e in
        let z : length (encode F v) ≡ size c = ap length l in
        record {
          values = v ∷ w.values;
          unit = w.unit;
          others = w.others;
          text =
              stands F laws u us v e
              ∙ ap (λ (y : List ℕ). encode F v ++ y) w.text
              ∙ sym (append_assoc (encode F v) (encode_all F w.values) (w.unit ∷ w.others));
          from = ((λ n. let b : ◌≡◌ {A = ℕ} 0 1 = cc in omega arith), w.from);
          to = (x, w.to);
          place = omega (arith, w.place, z, length-append (encode F v) (encode_all F w.values));
          shown = w.shown;
        }

    by_encoding :
        (v : ℕ) → content F c ≡ character v → (e : List ℕ) → encode G v ≡ e → (o : Outcome)
        → put e (refusal (unheld_by (G.excluded v)) p) o ≡ refused r → (o ≡ refused r → FaultFrom F G (p + size c) later r) → FaultFrom F G p (u ∷ us) r
    by_encoding v t [] e o h k =
        let q : refusal (unheld_by (G.excluded v)) p ≡ r = refused-same h in
        here
        (inr (v, t, e, sym (ap (λ (x : Refusal). number_of x.fault) q)))
        (sym (ap (λ (x : Refusal). x.offset) q))
    by_encoding v t (w ∷ e) g o h k =
        behind v t (λ n. let b : ◌≡◌ {A = ℕ} 0 1 = cc in omega arith) (k (prepend-refused (w ∷ e) o r h))

    by_content :
        (t : Content) → content F c ≡ t → (o : Outcome) → put (encoding G (with_span t (span p (size c)))) (refusal_at G.excluded (with_span t (span p (size c)))) o ≡ refused r
        → (o ≡ refused r → FaultFrom F G (p + size c) later r) → FaultFrom F G p (u ∷ us) r
    by_content (character v) t o h k = by_encoding v t (encode G v) refl o h k
    by_content (mark f) t o h k =
        let q : refusal f p ≡ r = refused-same h in
        here
        (inl (f, t, sym (ap (λ (x : Refusal). number_of x.fault) q)))
        (sym (ap (λ (x : Refusal). x.offset) q))

  fault-from : (n : ℕ) (s : List ℕ) (p : ℕ) (r : Refusal) → length s < n → convert_items G (items_from F p (sequences F s)) ≡ refused r → FaultFrom F G p s r
  fault-from zero s p r l h = absurd (omega arith)
  fault-from (suc n) [] p r l h = outcomes_differ (sym h)
  fault-from (suc n) (u ∷ us) p r l h =
      let c = first_of F u us in
      let k = length c.rest in
      by_content
      u
      us
      p
      r
      (content F c)
      refl
      (convert_items G (items_from F (p + size c) (sequences_after F us k)))
      h
      (λ e. fault-from n (drop k us) (p + size c) r (omega (arith, length-drop k us)) (rw (sequences-after F us k) at e))

-- to the target of strict conversion
module _ (F : Form) (laws : Laws F) (G : Form) (unheld_by_lem : Unheld F G) where
  abbrev H : Form
  H = strictly G

  -- what is shown is what the paper says
  refuses : OwnMarks F → (u : ℕ) (us : List ℕ) (k : ℕ) → Shown F H u us k → Refuses F G u us k
  refuses own u us k (inl x) = marked (rw x.2 (marks_of F u us own x.0 x.1))
  refuses own u us k (inr x) =
      let v = x.0 in
      let l = encoding_is F laws u us v x.1 in
      let has : encode F v ≢ [] = λ n. let b : ◌≡◌ {A = ℕ} 0 1 = cc in omega arith in
      let o : OccursAt F (u ∷ us) 0 v = record { has = has; after = drop (length (first_of F u us).rest) us; begins = stands F laws u us v x.1 } in
      ⊎_elim (λ w. turned_away_lem (x.3 ∙ ap number_of w.0) v o (turned_of v w.1 w.2)) (λ w. unheld (x.3 ∙ ap number_of w.0) v o w.1 w.2) (unheld_by_lem v has x.2)

  shown_so : (u : ℕ) (us : List ℕ) (k : ℕ) → Refuses F G u us k → Shown F H u us k
  shown_so u us k (marked m) = inl (mark_of F u us laws k m)
  shown_so u us k (turned_away_lem e v o t) =
      let n = none_written G v t in
      inr (v, reads_there F laws u us v o.after o.has o.begins, n, e ∙ ⊎_elim (λ w. sym (ap number_of w.0)) (λ w. absurd (not_turned (λ l. omega (arith, w.1)) t)) (unheld_by_lem v o.has n))
  shown_so u us k (unheld e v o h n) =
      let m : encode H v ≡ [] = strict_same G v (λ l. omega arith) ∙ n in
      inr (v, reads_there F laws u us v o.after o.has o.begins, m, e ∙ ⊎_elim (λ w. absurd (omega (arith, w.2))) (λ w. sym (ap number_of w.0)) (unheld_by_lem v o.has m))

  pub refuses_among : (u : ℕ) (us : List ℕ) (k : ℕ) → Refuses F G u us k → Among k strict_faults
  refuses_among u us k (marked m) = all_in_lem k mark_faults strict_faults refl (mark-among F u us k m)
  refuses_among u us k (turned_away_lem e v o t) = among k 12 strict_faults refl e
  refuses_among u us k (unheld e v o h n) = among k 6 strict_faults refl e

  pub first-fault : OwnMarks F → (s : List ℕ) (r : Refusal) → length s ≤ 65536 → convert_items H (items F s) ≡ refused r → FirstFault F G s r.offset (number_of r.fault)
  first-fault own s r l h =
      let w = fault-from F laws H (suc (length s)) s 0 r (omega arith) h in
      let x = written G w.values w.to in
      record {
        values = w.values;
        unit = w.unit;
        others = w.others;
        short = l;
        text = w.text;
        from = w.from;
        to = x.0;
        passed = x.1;
        place = w.place ∙ omega arith;
        refused = refuses own w.unit w.others (number_of r.fault) w.shown;
      }

  -- and where good characters stand before a fault, it is given
  characters-held : (vs : List ℕ) (p : ℕ) → AllEncodable H vs → AllHeld H (characters_from F p vs)
  characters-held [] p a = tt
  characters-held (v ∷ vs) p a = (a.0, characters-held vs (p + length (encode F v)) a.1)

  pub refused-there :
      (s : List ℕ) (q k : ℕ) → FirstFault F G s q k
      → (x : Refusal) × (convert_items H (items F s) ≡ refused x) × (number_of x.fault ≡ k) × (x.offset ≡ q)
  refused-there s q k w = go (shown_so w.unit w.others k w.refused)
    where
      p : ℕ
      p = 0 + length (encode_all F w.values)

      c : Sequence
      c = first_of F w.unit w.others

      parts : items F s ≡ characters_from F 0 w.values ++ items_from F p (sequences F (w.unit ∷ w.others))
      parts =
          ap (items F) w.text
          ∙ read-characters F laws w.values 0 (w.unit ∷ w.others) w.from

      given : (r : Refusal) → encoding H (item_of F p c) ≡ [] → r ≡ refusal_at H.excluded (item_of F p c) → convert_items H (items F s) ≡ refused r
      given r u e =
          (items_refused H (items F s) r).1
          (record {
            before = characters_from F 0 w.values;
            item = item_of F p c;
            after = items_from F (p + size c) (sequences_after F w.others (length c.rest));
            parts = parts;
            earlier = characters-held w.values 0 (all-written G w.values w.to w.passed);
            unheld = u;
            given = e;
          })

      shown : (t : Content) → content F c ≡ t → item_of F p c ≡ with_span t (span p (size c))
      shown t e = ap (λ (x : Content). with_span x (span p (size c))) e

      go :
          Shown F H w.unit w.others k
          → (x : Refusal) × (convert_items H (items F s) ≡ refused x) × (number_of x.fault ≡ k) × (x.offset ≡ q)
      go (inl x) =
          let e = shown (mark x.0) x.1 in
          (refusal x.0 p, given (refusal x.0 p) (ap (encoding H) e) (sym (ap (refusal_at H.excluded) e)), sym x.2, omega (arith, w.place))
      go (inr x) =
          let e = shown (character x.0) x.1 in (
            refusal (unheld_by (H.excluded x.0)) p,
            given (refusal (unheld_by (H.excluded x.0)) p) (ap (encoding H) e ∙ x.2) (sym (ap (refusal_at H.excluded) e)),
            sym x.3,
            omega (arith, w.place),
          )
