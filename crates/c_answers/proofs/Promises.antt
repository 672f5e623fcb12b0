-- What the calls behind the exports promise, as C sees their answers.
use Prim.Native.Nat.{ℕ}
use mathlib.Core.Path.{◌≡◌, sym, ap, ◌∙◌}
use mathlib.Core.List.{List}
use Rattle.forms.specs.Form.{Form}
use Rattle.forms.specs.Conversion.{Measures, Converts}
use Rattle.demand3.specs.Demand3.{DecodesLossy}
use Rattle.c_answers.specs.declared.JkConversion.{JkConversion}
use Rattle.c_answers.specs.declared.JkDecoding.{JkDecoding}
use Rattle.c_answers.specs.Answer.{conversion_answer, decoding_answer}
use Rattle.c_answers.specs.Promises.{MeasuresInC, ConvertsInC, DecodesLossyInC}
use Rattle.std.specs.Prelude.{Result}
use Rattle.types.specs.declared.Refusal.{Refusal}
use Rattle.types.specs.declared.Counts.{Counts}

-- each promise settles the answer, and every cell of the buffers
pub measured_settled : {F G : Form} {s : List ℕ} {q r : JkConversion} → MeasuresInC F G s q → MeasuresInC F G s r → q ≡ r
measured_settled a b = a.answer ∙ sym b.answer

pub settled_in_c :
    {F G : Form} {s d : List ℕ} {q r : JkConversion} {o p : List ℕ} → ConvertsInC F G s d q o → ConvertsInC F G s d r p → (q ≡ r) × (o ≡ p)
settled_in_c a b = (a.answer ∙ sym b.answer, a.cells ∙ sym b.cells)

pub decoded_settled :
    {F : Form} {s d e : List ℕ} {q r : JkDecoding} {o p x y : List ℕ} → DecodesLossyInC F s d e q o p → DecodesLossyInC F s d e r x y
    → (q ≡ r) × (o ≡ x) × (p ≡ y)
decoded_settled {q = q} {r = r} a b = (
  a.numbers ∙ ap decoding_answer (a.promised.answer ∙ sym b.promised.answer) ∙ sym b.numbers,
  a.promised.values ∙ sym b.promised.values,
  a.promised.starts ∙ sym b.promised.starts,
)

-- what the calls behind the exports promise is what the exports do
pub measures_in_c : {F G : Form} {s : List ℕ} {a : Result ℕ Refusal} {r : JkConversion} → r ≡ conversion_answer a → Measures F G s a → MeasuresInC F G s r
measures_in_c e m = record { answer = e ∙ ap conversion_answer m.answer }

pub converts_in_c :
    {F G : Form} {s d : List ℕ} {a : Result ℕ Refusal} {r : JkConversion} {o : List ℕ} → r ≡ conversion_answer a → Converts F G s d a o → ConvertsInC F G s d r o
converts_in_c e c = record { answer = e ∙ ap conversion_answer c.answer; cells = c.cells }

pub decodes_in_c :
    {F : Form} {s d e : List ℕ} {a : Result Counts Refusal} {r : JkDecoding} {o p : List ℕ} → r ≡ decoding_answer a → DecodesLossy F s d e a o p → DecodesLossyInC F s d e r o p
decodes_in_c {a = a} {r = r} e c = record { decoding = a; promised = c; numbers = e }
