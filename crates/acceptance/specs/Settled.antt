-- Document 01, "What acceptance proves": "Each public call's statement settles the result, the fault and its place, and every cell of the
-- lent buffers, for all inputs." Two answers to one call that keep its promise are the same. (The readers' and finders' promises are
-- equations already.)
use Rattle.std.specs.Prelude.{ℕ, ◌≡◌, List, Result}
use Rattle.forms.specs.Form.{Form}
use Rattle.forms.specs.Conversion.{Converts, Measures}
use Rattle.demand3.specs.Demand3.{DecodesLossy}
use Rattle.c_answers.specs.declared.JkConversion.{JkConversion}
use Rattle.c_answers.specs.declared.JkDecoding.{JkDecoding}
use Rattle.c_answers.specs.Answer.{conversion_answer, decoding_answer}
use Rattle.c_answers.specs.Promises.{ConvertsInC, MeasuresInC, DecodesLossyInC}
use Rattle.types.specs.declared.Refusal.{Refusal}
use Rattle.types.specs.declared.Counts.{Counts}

pub record SettledPair (F G : Form) : Type 0 where
  pub converts_in_c : (s d : List ℕ) (q r : JkConversion) (o p : List ℕ) → ConvertsInC F G s d q o → ConvertsInC F G s d r p → (q ≡ r) × (o ≡ p)
  pub measures_in_c : (s : List ℕ) (q r : JkConversion) → MeasuresInC F G s q → MeasuresInC F G s r → q ≡ r
  pub converts : (s d : List ℕ) (q r : Result ℕ Refusal) (o p : List ℕ) → Converts F G s d q o → Converts F G s d r p → (q ≡ r) × (o ≡ p)
  pub measures : (s : List ℕ) (q r : Result ℕ Refusal) → Measures F G s q → Measures F G s r → q ≡ r
  -- the calls in Rattle promise the same of the numbers of their answers
  pub converts_alike : (s d : List ℕ) (r : Result ℕ Refusal) (o : List ℕ) → Converts F G s d r o → ConvertsInC F G s d (conversion_answer r) o
  pub measures_alike : (s : List ℕ) (r : Result ℕ Refusal) → Measures F G s r → MeasuresInC F G s (conversion_answer r)

pub record SettledForm (F : Form) : Type 0 where
  pub decodes_in_c :
      (s d e : List ℕ) (q r : JkDecoding) (o p x y : List ℕ) → DecodesLossyInC F s d e q o p → DecodesLossyInC F s d e r x y
      → (q ≡ r) × (o ≡ x) × (p ≡ y)
  pub decodes :
      (s d e : List ℕ) (q r : Result Counts Refusal) (o p x y : List ℕ) → DecodesLossy F s d e q o p → DecodesLossy F s d e r x y
      → (q ≡ r) × (o ≡ x) × (p ≡ y)
  pub decodes_alike : (s d e : List ℕ) (r : Result Counts Refusal) (o p : List ℕ) → DecodesLossy F s d e r o p → DecodesLossyInC F s d e (decoding_answer r) o p
