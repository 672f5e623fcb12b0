-- Condition 2 follows from the promises of converters, measures and readers.
use Prim.Native.Nat.{ℕ, suc, ◌≤◌, ◌<◌}
use mathlib.Core.Path.{◌≡◌, refl, sym, ap, ◌∙◌, subst}
use mathlib.Core.List.{List, [], ◌∷◌, ◌++◌}
use native.Mathlib.Omega.{arith}
use native.Mathlib.Decide.{dec_lt}
use borrow.Author.Tests.{le-ltb, lt-ltb}
use lib.ListN.{length, get_or, take, drop, drop_of_length-le}
use lib.Seq.{take_at, drop_at, drop-cons}
use Rattle.types.specs.declared.Fault.TheVariants.{BufferTooShort}
use Rattle.forms.specs.Fault.{refusal}
use Rattle.forms.specs.Form.{size, Form, first_of, Content, character, mark, content, span, with_span, items, encode, encode_all, OccursAt}
use Rattle.forms.specs.Conversion.{Outcome, converted, refused, outcome, in_room, strict, answer_of, cells_of, Converts}
use Rattle.laws.specs.Exactness.{encodings}
use Rattle.laws.specs.TwelvePairs.{Pair}
use Rattle.laws.proofs.Characters.{accepted}
use Rattle.laws.proofs.Answers.{in_room_lem, within-items}
use Rattle.laws.proofs.Numbers.{converts as promise}
use Rattle.laws.proofs.TwelvePairs.{fss_utf-utf_ebcdic, fss_utf-utf16, fss_utf-ucs4, utf_ebcdic-fss_utf, utf_ebcdic-utf16, utf_ebcdic-ucs4, utf16-fss_utf, utf16-utf_ebcdic, utf16-ucs4, ucs4-fss_utf, ucs4-utf_ebcdic, ucs4-utf16}
use Rattle.reader.specs.Step.{cursor, step_over, step_at}
use Rattle.reader.proofs.Walking.{step_over_lem}
use Rattle.c_answers.specs.declared.JkConversion.{JkConversion}
use Rattle.c_answers.specs.declared.JkItem.{JkItem}
use Rattle.c_answers.specs.Answer.{jk_item, shown_item, item_answer, conversion_answer}
use Rattle.c_answers.specs.Promises.{ConvertsInC, MeasuresInC}
use Rattle.acceptance.specs.FaultNumbers.{Marks}
use Rattle.acceptance.specs.Condition2.{ReadAt, Accepted, Gives, Converted, Measured, AtMost, Room}
use Rattle.acceptance.proofs.TurnedAway.{written, all-written}
use Rattle.acceptance.proofs.Marking.{marks_of, mark_of}
use Rattle.acceptance.proofs.Each.{Known}
use Rattle.acceptance.proofs.Standing.{encoding_is, stands, reads_there}
use Rattle.acceptance.proofs.Outcomes.{no_fault, behind, number_of_lem, exactly}
use Rattle.std.specs.Prelude.{Result, Ok}
use Rattle.types.specs.declared.Refusal.{Refusal}

-- the promise of the call in Rattle behind that of an export
pub in_rattle : {F G : Form} {s d : List ℕ} {r : JkConversion} {o : List ℕ} → ConvertsInC F G s d r o → Converts F G s d (answer_of (strict F G s (length d))) o
in_rattle c = promise refl c.cells

module _ (F G : Form) (most : ℕ → ℕ) (pair : Pair F G most) (known : Known F) where
  -- an outcome that is no refusal is of an accepted text
  spelled : (s es : List ℕ) → outcome F G s ≡ converted es → (vs : List ℕ) × Accepted F G vs s × (es ≡ encode_all G vs)
  spelled s es e =
      let a = accepted F known.laws G s es (within-items F G s es e) in
      let w = written G a.values a.to in
      (a.values, record { short = (((pair.lengths s).result es).0 e).0; text = a.source; from = a.from; to = w.0; passed = w.1 }, a.result)

  outcome_of : (s vs : List ℕ) → Accepted F G vs s → outcome F G s ≡ converted (encode_all G vs)
  outcome_of s vs w = ap (λ (x : List ℕ). outcome F G x) w.text ∙ pair.accepts vs w.from (all-written G vs w.to w.passed) (rw w.text at w.short)

  module _ (s d : List ℕ) (r : JkConversion) (o : List ℕ) (c : ConvertsInC F G s d r o) where
    abbrev x : Outcome
    x = strict F G s (length d)

    gives : (vs : List ℕ) → x ≡ converted (encode_all G vs) → Gives G vs d r o
    gives vs e =
        let es = encode_all G vs in
        let w = number_of_lem x r c.answer (converted es) e in
        let a : r.units ≡ length es = ap (λ (b : JkConversion). b.units) w in
        let b : o ≡ es ++ drop (length es) d = c.cells ∙ ap (λ (y : Outcome). cells_of y d) e in
        record {
          no_fault = ap (λ (b : JkConversion). b.fault) w;
          units = a;
          front = ap (take r.units) b ∙ take_at es (drop (length es) d) r.units (sym a);
          rest = ap (drop r.units) b ∙ drop_at es (drop (length es) d) r.units (sym a) ∙ ap (λ (k : ℕ). drop k d) (sym a);
        }

    result : r.fault ≡ 0 → (vs : List ℕ) × Accepted F G vs s × Gives G vs d r o
    result h =
        let u = no_fault x r c.answer h in
        let w = spelled s u.0 (in_room_lem (length d) (outcome F G s) u.0 u.1).0 in
        (w.0, w.1, gives w.0 (u.1 ∙ ap converted w.2))

    given : (vs : List ℕ) → Accepted F G vs s → length (encode_all G vs) ≤ length d → Gives G vs d r o
    given vs w k = gives vs (ap (in_room (length d)) (outcome_of s vs w) ∙ rw (le-ltb (length d) (length (encode_all G vs)) k))

    pub when_7 : r.fault ≡ 7 → ((vs : List ℕ) × Accepted F G vs s × (length d < length (encode_all G vs))) × (r.offset ≡ 0)
    when_7 h =
        let z = ((pair.answers s (length d)).fault_7 r.offset).0 (behind x r c.answer BufferTooShort h) in
        let es = encodings G (items F s) in
        let y = spelled s es (((pair.lengths s).result es).1 (z.0, z.1, refl)) in
        ((y.0, y.1, rw y.2 at z.2), z.3)

    -- the call in Rattle behind the numbers of a result
    converts : r.fault ≡ 0 → Converts F G s d (Ok r.units) o
    converts h =
        let u = no_fault x r c.answer h in
        subst (λ (y : Result ℕ Refusal). Converts F G s d y o) (ap answer_of u.1 ∙ ap Ok (sym u.2)) (in_rattle c)

    back :
        r.fault ≡ 0 → r.units ≤ 65536
        → (b : List ℕ) (q : JkConversion) (p : List ℕ) → ConvertsInC G F (take r.units o) b q p → length s ≤ length b
        → (q.fault ≡ 0) × (q.units ≡ length s) × (p ≡ s ++ drop (length s) b)
    back h k b q p e l =
        let z = pair.back s d r.units o (converts h) k b (answer_of (strict G F (take r.units o) (length b))) p (in_rattle e) l in
        let w : q ≡ conversion_answer (Ok (length s)) = e.answer ∙ ap conversion_answer z.0 in
        (ap (λ (y : JkConversion). y.fault) w, ap (λ (y : JkConversion). y.units) w, z.1)

    pub conversion : Converted F G s d r o
    conversion =
        record {
          exactly = exactly x r c.answer F G known pair.unheld s (pair.answers s (length d)).fault_1 (pair.answers s (length d)).item-fault;
          fault_7 = (
            (λ h. (when_7 h).0),
            (λ w.
                ap (λ (b : JkConversion). b.fault)
                (number_of_lem x r c.answer (refused (refusal BufferTooShort 0))
                (ap (in_room (length d)) (outcome_of s w.0 w.1) ∙ rw (lt-ltb (length d) (length (encode_all G w.0)) w.2)))),
          );
          result = result;
          given = given;
          back = back;
        }

  pub measure : (s : List ℕ) (r : JkConversion) → MeasuresInC F G s r → Measured F G s r
  measure s r m =
      record {
        exactly = exactly (outcome F G s) r m.answer F G known pair.unheld s (pair.lengths s).fault_1 (pair.lengths s).item-fault;
        result =
            λ h.
            let u = no_fault (outcome F G s) r m.answer h in
            let w = spelled s u.0 u.1 in
            (w.0, w.1);
        given =
            λ vs w.
            let e = number_of_lem (outcome F G s) r m.answer (converted (encode_all G vs)) (outcome_of s vs w) in
            (ap (λ (x : JkConversion). x.fault) e, ap (λ (x : JkConversion). x.units) e);
      }

at_most : (F G : Form) (most : ℕ → ℕ) → Pair F G most → AtMost F G most
at_most F G most pair =
    record {
      written =
          λ s d r o c h.
          let u = no_fault (strict F G s (length d)) r c.answer h in
          pair.room.written s d r.units o (subst (λ (y : Result ℕ Refusal). Converts F G s d y o) (ap answer_of u.1 ∙ ap Ok (sym u.2)) (in_rattle c));
      measured = λ s r m h. let u = no_fault (outcome F G s) r m.answer h in pair.room.measured s r.units (ap answer_of u.1 ∙ ap Ok (sym u.2));
    }

pub room_suffices : Room
room_suffices =
    record {
      fss_utf_to_utf_ebcdic = at_most _ _ _ fss_utf-utf_ebcdic;
      utf_ebcdic_to_fss_utf = at_most _ _ _ utf_ebcdic-fss_utf;
      utf_16_to_fss_utf = at_most _ _ _ utf16-fss_utf;
      utf_16_to_utf_ebcdic = at_most _ _ _ utf16-utf_ebcdic;
      utf_16_to_ucs_4 = at_most _ _ _ utf16-ucs4;
      ucs_4_to_fss_utf = at_most _ _ _ ucs4-fss_utf;
      ucs_4_to_utf_ebcdic = at_most _ _ _ ucs4-utf_ebcdic;
      ucs_4_to_utf_16 = at_most _ _ _ ucs4-utf16;
      fss_utf_to_utf_16 = at_most _ _ _ fss_utf-utf16;
      fss_utf_to_ucs_4 = at_most _ _ _ fss_utf-ucs4;
      utf_ebcdic_to_utf_16 = at_most _ _ _ utf_ebcdic-utf16;
      utf_ebcdic_to_ucs_4 = at_most _ _ _ utf_ebcdic-ucs4;
    }

-- reading at a place
module _ (F : Form) (known : Known F) (s : List ℕ) (q : ℕ) (r : JkItem) (e : r ≡ item_answer (step_at F s (cursor q))) (w : length s ≤ 65536) where
  -- what is shown there
  pub shows : q ≤ length s → (l : List ℕ) → drop q s ≡ l → r ≡ item_answer (Ok (step_over F (cursor q) l))
  shows h l d = e ∙ ap item_answer (step_over_lem F s (cursor q) w h ∙ ap (λ (x : List ℕ). Ok (step_over F (cursor q) x)) d)

  module _ (u : ℕ) (us : List ℕ) (d : drop q s ≡ u ∷ us) where
    within : q ≤ length s
    within = go (dec_lt (length s) q)
      where
        go : Dec (length s < q) → q ≤ length s
        go (yes h) =
            let l : length s ≤ q = omega arith in
            let z : [] ≡ u ∷ us = sym (drop_of_length-le s l) ∙ d in
            absurd (let y : ◌≡◌ {A = ℕ} 0 1 = cc in omega arith)
        go (no h) = omega arith

    show : (t : Content) → content F (first_of F u us) ≡ t → r ≡ shown_item (with_span t (span q (size (first_of F u us))))
    show t y = shows within (u ∷ us) d ∙ ap (λ (x : Content). shown_item (with_span x (span q (size (first_of F u us))))) y

    character_is : (v : ℕ) → r.kind ≡ 1 → r.value ≡ v → (t : Content) → content F (first_of F u us) ≡ t → content F (first_of F u us) ≡ character v
    character_is v k z (mark f) y = absurd (omega (arith, ap (λ (b : JkItem). b.kind) (show (mark f) y)))
    character_is v k z (character x) y = y ∙ ap character (sym (ap (λ (b : JkItem). b.value) (show (character x) y)) ∙ z)

    mark_is : (k : ℕ) → r.kind ≡ 2 → r.fault ≡ k → (t : Content) → content F (first_of F u us) ≡ t → Marks F u us k
    mark_is k h z (character x) y = absurd (omega (arith, ap (λ (b : JkItem). b.kind) (show (character x) y)))
    mark_is k h z (mark f) y =
        subst (λ (n : ℕ). Marks F u us n) (sym (ap (λ (b : JkItem). b.fault) (show (mark f) y)) ∙ z) (marks_of F u us known.own f y)

    shown-mark : (k : ℕ) → Marks F u us k → (r.kind ≡ 2) × (r.fault ≡ k)
    shown-mark k m =
        let z = mark_of F u us known.laws k m in
        let y = show (mark z.0) z.1 in
        (ap (λ (b : JkItem). b.kind) y, ap (λ (b : JkItem). b.fault) y ∙ sym z.2)

    occurs_so : (v : ℕ) → r.kind ≡ 1 → r.value ≡ v → OccursAt F s q v
    occurs_so v k z =
        let y = character_is v k z (content F (first_of F u us)) refl in
        let l = encoding_is F known.laws u us v y in
        record {
          has = λ n. let b : ◌≡◌ {A = ℕ} 0 1 = cc in omega arith;
          after = drop (length (first_of F u us).rest) us;
          begins = d ∙ stands F known.laws u us v y;
        }

    shown-character : (v : ℕ) → OccursAt F s q v → (r.kind ≡ 1) × (r.value ≡ v) × (r.length ≡ length (encode F v))
    shown-character v o =
        let y = reads_there F known.laws u us v o.after o.has (sym d ∙ o.begins) in
        let z = show (character v) y in (
          ap (λ (b : JkItem). b.kind) z,
          ap (λ (b : JkItem). b.value) z,
          ap (λ (b : JkItem). b.length) z ∙ sym (ap length (encoding_is F known.laws u us v y)),
        )

  pub beyond : length s < q → r ≡ jk_item 3 9 0 q 0
  beyond h = e ∙ rw (le-ltb 65536 (length s) w, lt-ltb (length s) q h)

  pub at-end : length s ≡ q → r ≡ jk_item 0 0 0 q 0
  at-end h = let l : length s ≤ q = omega arith in shows (omega arith) [] (drop_of_length-le s l)

  -- a character is nowhere but inside
  no_character_lem : length s ≤ q → r.kind ≡ 1 → Dec (length s < q) → ⊥
  no_character_lem h k (yes l) = omega (arith, ap (λ (b : JkItem). b.kind) (beyond l))
  no_character_lem h k (no l) = omega (arith, ap (λ (b : JkItem). b.kind) (at-end (omega arith)))

  nothing : (v : ℕ) → length s ≤ q → OccursAt F s q v → ⊥
  nothing v h o = o.has (empty (encode F v) o.after (sym (drop_of_length-le s h) ∙ o.begins))
    where
      empty : (a b : List ℕ) → ◌≡◌ {A = List ℕ} [] (a ++ b) → a ≡ []
      empty [] b h = refl
      empty (y ∷ a) b h = absurd (let z : ◌≡◌ {A = ℕ} 0 1 = cc in omega arith)

  occurs : (v : ℕ) → r.kind ≡ 1 → r.value ≡ v → OccursAt F s q v
  occurs v k z = go (dec_lt q (length s))
    where
      go : Dec (q < length s) → OccursAt F s q v
      go (yes h) = occurs_so (get_or s q 0) (drop (suc q) s) (drop-cons s q 0 h) v k z
      go (no h) = absurd (no_character_lem (omega arith) k (dec_lt (length s) q))

  pub shown : (v : ℕ) → OccursAt F s q v → (r.kind ≡ 1) × (r.value ≡ v) × (r.length ≡ length (encode F v))
  shown v o = go (dec_lt q (length s))
    where
      go : Dec (q < length s) → (r.kind ≡ 1) × (r.value ≡ v) × (r.length ≡ length (encode F v))
      go (yes h) = shown-character (get_or s q 0) (drop (suc q) s) (drop-cons s q 0 h) v o
      go (no h) = absurd (nothing v (omega arith) o)

pub read : (F : Form) → Known F → (s : List ℕ) (q : ℕ) (r : JkItem) → r ≡ item_answer (step_at F s (cursor q)) → ReadAt F s q r
read F known s q r e =
    record {
      character = λ w v. ((λ x. occurs F known s q r e w v x.0 x.1), (λ o. let y = shown F known s q r e w v o in (y.0, y.1)));
      long = λ w k. (shown F known s q r e w r.value (occurs F known s q r e w r.value k refl)).2;
      mark =
          λ w u us d k. (
            (λ x. mark_is F known s q r e w u us d k x.0 x.1 (content F (first_of F u us)) refl),
            shown-mark F known s q r e w u us d k,
          );
    }
