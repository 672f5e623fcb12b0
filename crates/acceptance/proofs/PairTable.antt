-- The numbers by which the conversions of each pair refuse an item.
use Prim.Native.Nat.{ℕ, ◌≤◌, ◌<◌}
use mathlib.Core.Path.{◌≡◌, refl, sym, ap, ◌∙◌}
use mathlib.Core.Logic.{◌≢◌, ◌⊎◌, inl, inr}
use mathlib.Core.Bool.{true}
use mathlib.Core.List.{List, [], ◌∷◌, ◌++◌}
use native.Mathlib.Omega.{arith}
use lib.ListN.{length}
use Rattle.types.specs.declared.Fault.{Fault}
use Rattle.types.specs.declared.Fault.TheVariants.{Unrepresentable, NonCharacter}
use Rattle.forms.specs.Fault.{number_of, refusal}
use Rattle.forms.specs.Form.{Form, encode, encode_all}
use Rattle.forms.specs.Forms.{fss_utf, utf_ebcdic, utf16, ucs4}
use Rattle.forms.specs.Conversion.{Outcome, refused, outcome, in_room, answer_of}
use Rattle.laws.specs.TwelvePairs.{Pair}
use Rattle.laws.proofs.TwelvePairs.{fss_utf-utf_ebcdic, fss_utf-utf16, fss_utf-ucs4, utf_ebcdic-fss_utf, utf_ebcdic-utf16, utf_ebcdic-ucs4, utf16-fss_utf, utf16-utf_ebcdic, utf16-ucs4, ucs4-fss_utf, ucs4-utf_ebcdic, ucs4-utf16}
use Rattle.c_answers.specs.declared.JkConversion.{JkConversion}
use Rattle.c_answers.specs.Answer.{conversion_answer}
use Rattle.acceptance.specs.FaultNumbers.{Among, strict_faults, Refuses, marked, turned_away_lem, unheld, NoSurrogate, Below, Refusals, PairTable}
use Rattle.acceptance.specs.Condition2.{FirstFault, Exactly}
use Rattle.acceptance.proofs.Numbers.{has, among, all_in, all_in_lem}
use Rattle.acceptance.proofs.FaultNumbers.{values-held, Row}
use Rattle.acceptance.proofs.Each.{Known}
use Rattle.acceptance.proofs.Condition1.{conversion_call, measure_call}
use Rattle.acceptance.proofs.Condition2.{conversion, measure}
use Rattle.acceptance.proofs.FaultTable.{Marked, Source, fss_utf-source, utf_ebcdic-source, utf16-source, ucs4-source}

below_at : (w : ℕ) (xs : List ℕ) (u : ℕ) (us : List ℕ) → Below w (xs ++ (u ∷ us)) → u < w
below_at w [] u us b = b.0
below_at w (x ∷ xs) u us b = below_at w xs u us b.1

-- a text that a conversion from F to G refuses by a number
record Refused (F G : Form) (w k : ℕ) : Type 0 where
  pub text : List ℕ
  pub below : Below w text
  pub fault : Fault
  pub number : number_of fault ≡ k
  pub turned : outcome F G text ≡ refused (refusal fault 0)

-- a source F whose marks have the faults ms, and a target G that refuses by 12, and by 6 where ks has it
module _ (F G : Form) (most : ℕ → ℕ) (pair : Pair F G most) (known_so : Known F) (w : ℕ) (ms ks : List ℕ)
    (row : Row F w ms)
    (both : all_in ms ks ≡ true)
    (twelve : Among 12 ks)
    (six : (v : ℕ) → encode F v ≢ [] → encode G v ≡ [] → Among 6 ks)
    (given : (k : ℕ) → Among k ks → Refused F G w k)
  where
    of_item : (u : ℕ) (us : List ℕ) (k : ℕ) → u < w → Refuses F G u us k → Among k ks
    of_item u us k h (marked m) = all_in_lem k ms ks both (row u us k h m)
    of_item u us k h (turned_away_lem e v o t) = rw e twelve
    of_item u us k h (unheld e v o b n) = rw e (six v o.has n)

    of_first : (s : List ℕ) (q k : ℕ) → Below w s → FirstFault F G s q k → Among k ks
    of_first s q k b f = of_item f.unit f.others k (below_at w (encode_all F f.values) f.unit f.others (rw f.text at b)) f.refused

    refusals : Refusals F G w ks
    refusals =
        record {
          converted = λ s d r o b c. go s r b (conversion F G most pair known_so s d r o c).exactly (conversion_call F G most pair known_so s d r o c).numbered;
          measured = λ s r b m. less s r b (measure F G most pair known_so s r m).exactly (measure_call F G most pair known_so s r m).numbered;
          each =
              λ k a.
              let g = given k a in (
                g.text,
                g.below,
                (λ d r o c. number k g (in_room (length d)) r c.answer refl),
                (λ r m. number k g (λ (x : Outcome). x) r m.answer refl),
              );
        }
      where
        number :
            (k : ℕ) (g : Refused F G w k) (f : Outcome → Outcome) (r : JkConversion) → r ≡ conversion_answer (answer_of (f (outcome F G g.text)))
            → f (refused (refusal g.fault 0)) ≡ refused (refusal g.fault 0) → r.fault ≡ k
        number k g f r e n = ap (λ (b : JkConversion). b.fault) (e ∙ ap (λ (x : Outcome). conversion_answer (answer_of x)) (ap f g.turned ∙ n)) ∙ g.number

        item : (s : List ℕ) (r : _) → Below w s → Exactly F G s r → Among r.fault strict_faults → Among r.fault ks
        item s r b x a = of_first s r.offset r.fault b ((x.item-fault r.offset r.fault).0 (refl, refl, a))

        go : (s : List ℕ) (r : _) → Below w s → Exactly F G s r → Among r.fault (0 ∷ 1 ∷ 7 ∷ strict_faults) → Among r.fault (0 ∷ 1 ∷ 7 ∷ ks)
        go s r b x (inl a) = inl a
        go s r b x (inr (inl a)) = inr (inl a)
        go s r b x (inr (inr (inl a))) = inr (inr (inl a))
        go s r b x (inr (inr (inr a))) = inr (inr (inr (item s r b x a)))

        less : (s : List ℕ) (r : _) → Below w s → Exactly F G s r → Among r.fault (0 ∷ 1 ∷ strict_faults) → Among r.fault (0 ∷ 1 ∷ ks)
        less s r b x (inl a) = inl a
        less s r b x (inr (inl a)) = inr (inl a)
        less s r b x (inr (inr a)) = inr (inr (item s r b x a))

numbered : {F G : Form} {w k n : ℕ} → Refused F G w n → k ≡ n → Refused F G w k
numbered g e = record { text = g.text; below = g.below; fault = g.fault; number = g.number ∙ sym e; turned = g.turned }

by_mark : {F : Form} (G : Form) {w k : ℕ} → Marked F w k → Refused F G w k
by_mark G m = record { text = m.text; below = m.below; fault = m.fault; number = m.number; turned = m.turned G }

either : (k : ℕ) (ms ns : List ℕ) → Among k (ms ++ ns) → Among k ms ⊎ Among k ns
either k [] ns a = inr a
either k (m ∷ ms) ns (inl e) = inl (inl e)
either k (m ∷ ms) ns (inr a) = go (either k ms ns a)
  where
    go : Among k ms ⊎ Among k ns → Among k (m ∷ ms) ⊎ Among k ns
    go (inl b) = inl (inr b)
    go (inr b) = inr b

-- a target that holds every value: the faults of the source's marks, 12, and no others
to_any :
    {F G : Form} {most : ℕ → ℕ} {w : ℕ} {ms : List ℕ} (ks : List ℕ) → Source F w ms → Pair F G most → ((v : ℕ) → (v ≤ 0x7FFFFFFF) × NoSurrogate v → encode G v ≢ [])
    → Refused F G w 12 → all_in ms ks ≡ true → has 12 ks ≡ true → all_in ks (ms ++ (12 ∷ [])) ≡ true → Refusals F G w ks
to_any {F} {G} {most} {w} {ms} ks a p holds non all twelve none-else =
    refusals F G most p a.known_so w ms ks a.row all (among 12 12 ks twelve refl) (λ v n e. absurd (holds v (a.values v n) e))
    (λ k m. go k (either k ms (12 ∷ []) (all_in_lem k ks (ms ++ (12 ∷ [])) none-else m)))
  where
    go : (k : ℕ) → Among k ms ⊎ Among k (12 ∷ []) → Refused F G w k
    go k (inl m) = by_mark G (a.marked_by k m)
    go k (inr (inl e)) = numbered non e
    go k (inr (inr x'')) = elim x'' [ ]

-- one that does not: 6 besides
to-utf16 :
    {F : Form} {most : ℕ → ℕ} {w : ℕ} {ms : List ℕ} (ks : List ℕ) → Source F w ms → Pair F utf16 most → Refused F utf16 w 12 → Refused F utf16 w 6 → all_in ms ks ≡ true
    → has 12 ks ≡ true → has 6 ks ≡ true → all_in ks (ms ++ (12 ∷ 6 ∷ [])) ≡ true → Refusals F utf16 w ks
to-utf16 {F} {most} {w} {ms} ks a p non large all twelve six none-else =
    refusals F utf16 most p a.known_so w ms ks a.row all (among 12 12 ks twelve refl) (λ v n e. among 6 6 ks six refl)
    (λ k m. go k (either k ms (12 ∷ 6 ∷ []) (all_in_lem k ks (ms ++ (12 ∷ 6 ∷ [])) none-else m)))
  where
    go : (k : ℕ) → Among k ms ⊎ Among k (12 ∷ 6 ∷ []) → Refused F utf16 w k
    go k (inl m) = by_mark utf16 (a.marked_by k m)
    go k (inr (inl e)) = numbered non e
    go k (inr (inr (inl e))) = numbered large e
    go k (inr (inr (inr x3))) = elim x3 [ ]

-- FFFF, of each form
fss_utf_non : (G : Form) → outcome fss_utf G (0xEF ∷ 0xBF ∷ 0xBF ∷ []) ≡ refused (refusal NonCharacter 0) → Refused fss_utf G 0x100 12
fss_utf_non G e =
    record { text = 0xEF ∷ 0xBF ∷ 0xBF ∷ []; below = (omega arith, (omega arith, (omega arith, tt))); fault = NonCharacter; number = refl; turned = e }

utf_ebcdic_non : (G : Form) → outcome utf_ebcdic G (0xB3 ∷ 0xFE ∷ 0xFE ∷ 0xFE ∷ []) ≡ refused (refusal NonCharacter 0) → Refused utf_ebcdic G 0x100 12
utf_ebcdic_non G e =
    record {
      text = 0xB3 ∷ 0xFE ∷ 0xFE ∷ 0xFE ∷ [];
      below = (omega arith, (omega arith, (omega arith, (omega arith, tt))));
      fault = NonCharacter;
      number = refl;
      turned = e;
    }

utf16_non : (G : Form) → outcome utf16 G (0xFFFF ∷ []) ≡ refused (refusal NonCharacter 0) → Refused utf16 G 0x10000 12
utf16_non G e = record { text = 0xFFFF ∷ []; below = (omega arith, tt); fault = NonCharacter; number = refl; turned = e }

ucs4_non : (G : Form) → outcome ucs4 G (0xFFFF ∷ []) ≡ refused (refusal NonCharacter 0) → Refused ucs4 G 0x100000000 12
ucs4_non G e = record { text = 0xFFFF ∷ []; below = (omega arith, tt); fault = NonCharacter; number = refl; turned = e }

-- 110000, of each form that has it
fss_utf_large : Refused fss_utf utf16 0x100 6
fss_utf_large =
    record {
      text = 0xF4 ∷ 0x90 ∷ 0x80 ∷ 0x80 ∷ [];
      below = (omega arith, (omega arith, (omega arith, (omega arith, tt))));
      fault = Unrepresentable;
      number = refl;
      turned = refl;
    }

utf_ebcdic_large : Refused utf_ebcdic utf16 0x100 6
utf_ebcdic_large =
    record {
      text = encode utf_ebcdic 0x110000;
      below = (omega arith, (omega arith, (omega arith, (omega arith, (omega arith, tt)))));
      fault = Unrepresentable;
      number = refl;
      turned = refl;
    }

ucs4_large : Refused ucs4 utf16 0x100000000 6
ucs4_large = record { text = 0x110000 ∷ []; below = (omega arith, tt); fault = Unrepresentable; number = refl; turned = refl }

pub pair_table : PairTable
pair_table =
    record {
      fss_utf_to_utf_ebcdic = to_any _ fss_utf-source fss_utf-utf_ebcdic (λ v. (values-held.utf_ebcdic_lem v).1) (fss_utf_non _ refl) refl refl refl;
      fss_utf_to_utf_16 = to-utf16 _ fss_utf-source fss_utf-utf16 (fss_utf_non _ refl) fss_utf_large refl refl refl refl;
      fss_utf_to_ucs_4 = to_any _ fss_utf-source fss_utf-ucs4 (λ v. (values-held.ucs_4 v).1) (fss_utf_non _ refl) refl refl refl;
      utf_ebcdic_to_fss_utf = to_any _ utf_ebcdic-source utf_ebcdic-fss_utf (λ v. (values-held.fss_utf_lem v).1) (utf_ebcdic_non _ refl) refl refl refl;
      utf_ebcdic_to_utf_16 = to-utf16 _ utf_ebcdic-source utf_ebcdic-utf16 (utf_ebcdic_non _ refl) utf_ebcdic_large refl refl refl refl;
      utf_ebcdic_to_ucs_4 = to_any _ utf_ebcdic-source utf_ebcdic-ucs4 (λ v. (values-held.ucs_4 v).1) (utf_ebcdic_non _ refl) refl refl refl;
      utf_16_to_fss_utf = to_any _ utf16-source utf16-fss_utf (λ v. (values-held.fss_utf_lem v).1) (utf16_non _ refl) refl refl refl;
      utf_16_to_utf_ebcdic = to_any _ utf16-source utf16-utf_ebcdic (λ v. (values-held.utf_ebcdic_lem v).1) (utf16_non _ refl) refl refl refl;
      utf_16_to_ucs_4 = to_any _ utf16-source utf16-ucs4 (λ v. (values-held.ucs_4 v).1) (utf16_non _ refl) refl refl refl;
      ucs_4_to_fss_utf = to_any _ ucs4-source ucs4-fss_utf (λ v. (values-held.fss_utf_lem v).1) (ucs4_non _ refl) refl refl refl;
      ucs_4_to_utf_ebcdic = to_any _ ucs4-source ucs4-utf_ebcdic (λ v. (values-held.utf_ebcdic_lem v).1) (ucs4_non _ refl) refl refl refl;
      ucs_4_to_utf_16 = to-utf16 _ ucs4-source ucs4-utf16 (ucs4_non _ refl) ucs4_large refl refl refl refl;
    }
