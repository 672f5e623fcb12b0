-- Which faults the marks of each form have, as its one-item reader gives them, with a text for each.
use Prim.Native.Nat.{ℕ, zero, suc, ◌≤◌, ◌<◌}
use mathlib.Core.Path.{◌≡◌, refl, sym, ap, ◌∙◌}
use mathlib.Core.Logic.{◌≢◌, inl, inr}
use mathlib.Core.Bool.{true}
use mathlib.Core.List.{List, [], ◌∷◌}
use native.Mathlib.Omega.{arith}
use native.Mathlib.Decide.{dec_lt}
use lib.ListN.{length, get_or, drop}
use lib.Seq.{drop-cons}
use Rattle.types.specs.declared.Fault.{Fault}
use Rattle.types.specs.declared.Fault.TheVariants.{MissingTrailing, StrayTrailing, InvalidUnit, Overlong, Surrogate}
use Rattle.forms.specs.Fault.{number_of, refusal}
use Rattle.forms.specs.Form.{Form, encode}
use Rattle.forms.specs.Forms.{fss_utf, utf_ebcdic, utf16, ucs4}
use Rattle.forms.specs.Conversion.{refused, outcome}
use Rattle.reader.specs.Step.{cursor, step_at}
use Rattle.c_answers.specs.declared.JkItem.{JkItem}
use Rattle.c_answers.specs.Answer.{jk_item, item_answer}
use Rattle.acceptance.specs.FaultNumbers.{Among, NoSurrogate, Below, Faults, FaultTable}
use Rattle.acceptance.proofs.Numbers.{all_in, all_in_lem}
use Rattle.acceptance.proofs.FaultNumbers.{values-held, Row, fss_utf-row, utf_ebcdic-row, utf16-row, ucs4-row}
use Rattle.acceptance.proofs.Each.{Known, known}
use Rattle.acceptance.proofs.Condition1.{reader_call}
use Rattle.acceptance.proofs.Condition2.{read}

-- a text that begins with a mark of a fault: how it is read, and refused
pub record Marked (F : Form) (w k : ℕ) : Type 0 where
  pub text : List ℕ
  pub below : Below w text
  pub fault : Fault
  pub number : number_of fault ≡ k
  pub long : ℕ
  pub shown : item_answer (step_at F text (cursor 0)) ≡ jk_item 2 (number_of fault) 0 0 long
  pub turned : (G : Form) → outcome F G text ≡ refused (refusal fault 0)

fss_utf-marked : (k : ℕ) → Among k (2 ∷ 3 ∷ 4 ∷ 5 ∷ 10 ∷ []) → Marked fss_utf 0x100 k
fss_utf-marked k (inl e) =
    record { text = 0xC2 ∷ []; below = (omega arith, tt); fault = MissingTrailing; number = sym e; long = 1; shown = refl; turned = λ G. refl }
fss_utf-marked k (inr (inl e)) =
    record { text = 0x80 ∷ []; below = (omega arith, tt); fault = StrayTrailing; number = sym e; long = 1; shown = refl; turned = λ G. refl }
fss_utf-marked k (inr (inr (inl e))) =
    record { text = 0xFE ∷ []; below = (omega arith, tt); fault = InvalidUnit; number = sym e; long = 1; shown = refl; turned = λ G. refl }
fss_utf-marked k (inr (inr (inr (inl e)))) =
    record { text = 0xC0 ∷ 0x80 ∷ []; below = (omega arith, (omega arith, tt)); fault = Overlong; number = sym e; long = 2; shown = refl; turned = λ G. refl }
fss_utf-marked k (inr (inr (inr (inr (inl e))))) =
    record {
      text = 0xED ∷ 0xA0 ∷ 0x80 ∷ [];
      below = (omega arith, (omega arith, (omega arith, tt)));
      fault = Surrogate;
      number = sym e;
      long = 3;
      shown = refl;
      turned = λ G. refl;
    }
fss_utf-marked k (inr (inr (inr (inr (inr x5))))) = elim x5 [ ]

utf_ebcdic-marked : (k : ℕ) → Among k (2 ∷ 3 ∷ 5 ∷ 10 ∷ []) → Marked utf_ebcdic 0x100 k
utf_ebcdic-marked k (inl e) =
    record { text = 0x42 ∷ []; below = (omega arith, tt); fault = MissingTrailing; number = sym e; long = 1; shown = refl; turned = λ G. refl }
utf_ebcdic-marked k (inr (inl e)) =
    record { text = 0x80 ∷ []; below = (omega arith, tt); fault = StrayTrailing; number = sym e; long = 1; shown = refl; turned = λ G. refl }
utf_ebcdic-marked k (inr (inr (inl e))) =
    record { text = 0x42 ∷ 0x80 ∷ []; below = (omega arith, (omega arith, tt)); fault = Overlong; number = sym e; long = 2; shown = refl; turned = λ G. refl }
utf_ebcdic-marked k (inr (inr (inr (inl e)))) =
    record {
      text = 0xB3 ∷ 0xDD ∷ 0x80 ∷ 0x80 ∷ [];
      below = (omega arith, (omega arith, (omega arith, (omega arith, tt))));
      fault = Surrogate;
      number = sym e;
      long = 4;
      shown = refl;
      turned = λ G. refl;
    }
utf_ebcdic-marked k (inr (inr (inr (inr x4)))) = elim x4 [ ]

utf16-marked : (k : ℕ) → Among k (2 ∷ 3 ∷ []) → Marked utf16 0x10000 k
utf16-marked k (inl e) =
    record { text = 0xD800 ∷ []; below = (omega arith, tt); fault = MissingTrailing; number = sym e; long = 1; shown = refl; turned = λ G. refl }
utf16-marked k (inr (inl e)) =
    record { text = 0xDC00 ∷ []; below = (omega arith, tt); fault = StrayTrailing; number = sym e; long = 1; shown = refl; turned = λ G. refl }
utf16-marked k (inr (inr x'')) = elim x'' [ ]

ucs4-marked : (k : ℕ) → Among k (4 ∷ 10 ∷ []) → Marked ucs4 0x100000000 k
ucs4-marked k (inl e) =
    record { text = 0x80000000 ∷ []; below = (omega arith, tt); fault = InvalidUnit; number = sym e; long = 1; shown = refl; turned = λ G. refl }
ucs4-marked k (inr (inl e)) =
    record { text = 0xD800 ∷ []; below = (omega arith, tt); fault = Surrogate; number = sym e; long = 1; shown = refl; turned = λ G. refl }
ucs4-marked k (inr (inr x'')) = elim x'' [ ]

-- a form as a source, with the faults of its marks
pub record Source (F : Form) (w : ℕ) (ms : List ℕ) : Type 0 where
  pub known_so : Known F
  pub row : Row F w ms
  pub marked_by : (k : ℕ) → Among k ms → Marked F w k
  pub values : (v : ℕ) → encode F v ≢ [] → (v ≤ 0x7FFFFFFF) × NoSurrogate v

pub fss_utf-source : Source fss_utf 0x100 (2 ∷ 3 ∷ 4 ∷ 5 ∷ 10 ∷ [])
fss_utf-source = record { known_so = known.fss_utf_lem; row = fss_utf-row; marked_by = fss_utf-marked; values = λ v. (values-held.fss_utf_lem v).0 }

pub utf_ebcdic-source : Source utf_ebcdic 0x100 (2 ∷ 3 ∷ 5 ∷ 10 ∷ [])
utf_ebcdic-source = record { known_so = known.utf_ebcdic_lem; row = utf_ebcdic-row; marked_by = utf_ebcdic-marked; values = λ v. (values-held.utf_ebcdic_lem v).0 }

pub utf16-source : Source utf16 0x10000 (2 ∷ 3 ∷ [])
utf16-source = record { known_so = known.utf_16; row = utf16-row; marked_by = utf16-marked; values = λ v n. let w = (values-held.utf_16 v).0 n in (omega (arith, w.0), w.1) }

pub ucs4-source : Source ucs4 0x100000000 (4 ∷ 10 ∷ [])
ucs4-source = record { known_so = known.ucs_4; row = ucs4-row; marked_by = ucs4-marked; values = λ v. (values-held.ucs_4 v).0 }

below_there : (w : ℕ) (s : List ℕ) (q : ℕ) → Below w s → q < length s → get_or s q 0 < w
below_there w [] q b h = absurd (omega arith)
below_there w (u ∷ us) zero b h = b.0
below_there w (u ∷ us) (suc q) b h = below_there w us q b.1 (omega arith)

-- the table has the same numbers
faults : {F : Form} {w : ℕ} {ms : List ℕ} (ks : List ℕ) → Source F w ms → all_in ms ks ≡ true → all_in ks ms ≡ true → Faults F w ks
faults {F} {w} {ms} ks a all none-else =
    record {
      only = λ s q r b e k. go s q r b e k (dec_lt 65536 (length s)) (dec_lt (length s) q) (dec_lt q (length s));
      each =
          λ k i.
          let m = a.marked_by k (all_in_lem k ks ms none-else i) in
          (m.text, m.below, (λ r e. (ap (λ (b : JkItem). b.kind) (e ∙ m.shown), ap (λ (b : JkItem). b.fault) (e ∙ m.shown) ∙ m.number)));
    }
  where
    kind_of : {r t : JkItem} → r.kind ≡ 2 → r ≡ t → t.kind ≡ 2
    kind_of k e = sym (ap (λ (b : JkItem). b.kind) e) ∙ k

    go : (s : List ℕ) (q : ℕ) (r : JkItem) → Below w s → r ≡ item_answer (step_at F s (cursor q)) → r.kind ≡ 2 → Dec (65536 < length s) → Dec (length s < q) → Dec (q < length s) → Among r.fault ks
    go s q r b e k (yes h) j l = absurd (omega (arith, kind_of k ((reader_call F a.known_so s q r e).over h)))
    go s q r b e k (no h) (yes j) l = absurd (omega (arith, kind_of k ((reader_call F a.known_so s q r e).beyond (omega arith) j)))
    go s q r b e k (no h) (no j) (no l) = absurd (omega (arith, kind_of k ((reader_call F a.known_so s q r e).end (omega arith) (omega arith))))
    go s q r b e k (no h) (no j) (yes l) =
        let u = get_or s q 0 in
        let us = drop (suc q) s in
        all_in_lem r.fault ms ks all
        (a.row u us r.fault (below_there w s q b l) (((read F a.known_so s q r e).mark (omega arith) u us (drop-cons s q 0 l) r.fault).0 (k, refl)))

pub fault_table : FaultTable
fault_table =
    record {
      fss_utf_lem = faults _ fss_utf-source refl refl;
      utf_ebcdic_lem = faults _ utf_ebcdic-source refl refl;
      utf_16 = faults _ utf16-source refl refl;
      ucs_4 = faults _ ucs4-source refl refl;
    }
