-- "for each form", "for each of the twelve ordered pairs of forms", and every call there.
--
-- A call is lent a text s and buffers d, e, or asked at a place q; it answers the numbers r and leaves o, p. All that is known of it is its
-- contract.
use Rattle.std.specs.Prelude.{ℕ, ◌≡◌, List}
use Rattle.forms.specs.Form.{Form}
use Rattle.forms.specs.Forms.{fss_utf, utf_ebcdic, utf16, ucs4}
use Rattle.forms.specs.Finder.{item_covering}
use Rattle.reader.specs.Step.{cursor, step_at}
use Rattle.c_answers.specs.declared.JkConversion.{JkConversion}
use Rattle.c_answers.specs.declared.JkDecoding.{JkDecoding}
use Rattle.c_answers.specs.declared.JkItem.{JkItem}
use Rattle.c_answers.specs.Answer.{item_answer, found_answer}
use Rattle.c_answers.specs.Promises.{ConvertsInC, MeasuresInC, DecodesLossyInC}

pub record EachForm (P : Form → Type 0) : Type 0 where
  pub fss_utf_lem : P fss_utf
  pub utf_ebcdic_lem : P utf_ebcdic
  pub utf_16 : P utf16
  pub ucs_4 : P ucs4

pub record EachPair (P : Form → Form → Type 0) : Type 0 where
  pub fss_utf_to_utf_ebcdic : P fss_utf utf_ebcdic
  pub fss_utf_to_utf_16 : P fss_utf utf16
  pub fss_utf_to_ucs_4 : P fss_utf ucs4
  pub utf_ebcdic_to_fss_utf : P utf_ebcdic fss_utf
  pub utf_ebcdic_to_utf_16 : P utf_ebcdic utf16
  pub utf_ebcdic_to_ucs_4 : P utf_ebcdic ucs4
  pub utf_16_to_fss_utf : P utf16 fss_utf
  pub utf_16_to_utf_ebcdic : P utf16 utf_ebcdic
  pub utf_16_to_ucs_4 : P utf16 ucs4
  pub ucs_4_to_fss_utf : P ucs4 fss_utf
  pub ucs_4_to_utf_ebcdic : P ucs4 utf_ebcdic
  pub ucs_4_to_utf_16 : P ucs4 utf16

-- every call of a strict converter
abbrev pub ConverterCalls : (Form → Form → List ℕ → List ℕ → JkConversion → List ℕ → Type 0) → Type 0
ConverterCalls P = EachPair (λ F G. (s d : List ℕ) (r : JkConversion) (o : List ℕ) → ConvertsInC F G s d r o → P F G s d r o)

-- of its measure
abbrev pub MeasureCalls : (Form → Form → List ℕ → JkConversion → Type 0) → Type 0
MeasureCalls P = EachPair (λ F G. (s : List ℕ) (r : JkConversion) → MeasuresInC F G s r → P F G s r)

-- of a mended reading
abbrev pub DecodingCalls : (Form → List ℕ → List ℕ → List ℕ → JkDecoding → List ℕ → List ℕ → Type 0) → Type 0
DecodingCalls P = EachForm (λ F. (s d e : List ℕ) (r : JkDecoding) (o p : List ℕ) → DecodesLossyInC F s d e r o p → P F s d e r o p)

-- of a one-item reader
abbrev pub ReaderCalls : (Form → List ℕ → ℕ → JkItem → Type 0) → Type 0
ReaderCalls P = EachForm (λ F. (s : List ℕ) (q : ℕ) (r : JkItem) → r ≡ item_answer (step_at F s (cursor q)) → P F s q r)

-- of a finder
abbrev pub FinderCalls : (Form → List ℕ → ℕ → JkItem → Type 0) → Type 0
FinderCalls P = EachForm (λ F. (s : List ℕ) (q : ℕ) (r : JkItem) → r ≡ found_answer (item_covering F s q) → P F s q r)
