-- What measures, converters and lossy decodings promise to C: what `forms` and `demand3` say of them, with the answer as numbers.
use Rattle.std.specs.Prelude.{ℕ, ◌≡◌, List, length, Result}
use Rattle.forms.specs.Form.{Form}
use Rattle.forms.specs.Conversion.{outcome, strict, answer_of, cells_of}
use Rattle.demand3.specs.Demand3.{DecodesLossy}
use Rattle.c_answers.specs.declared.JkConversion.{JkConversion}
use Rattle.c_answers.specs.declared.JkDecoding.{JkDecoding}
use Rattle.c_answers.specs.Answer.{conversion_answer, decoding_answer}
use Rattle.types.specs.declared.Refusal.{Refusal}
use Rattle.types.specs.declared.Counts.{Counts}

-- what a measure promises to C: its answer r
pub record MeasuresInC (F G : Form) (s : List ℕ) (r : JkConversion) : Type 0 where
  pub answer : r ≡ conversion_answer (answer_of (outcome F G s))

-- what a converter promises to C: its answer r, and that the result buffer d became o
pub record ConvertsInC (F G : Form) (s d : List ℕ) (r : JkConversion) (o : List ℕ) : Type 0 where
  pub answer : r ≡ conversion_answer (answer_of (strict F G s (length d)))
  pub cells : o ≡ cells_of (strict F G s (length d)) d

-- what a lossy decoding promises to C: r has the numbers of a decoding that keeps the promise of the buffers d and e, which became o and p
pub record DecodesLossyInC (F : Form) (s d e : List ℕ) (r : JkDecoding) (o p : List ℕ) : Type 0 where
  pub decoding : Result Counts Refusal
  pub promised : DecodesLossy F s d e decoding o p
  pub numbers : r ≡ decoding_answer decoding
