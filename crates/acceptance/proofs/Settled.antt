-- Each promise settles the answer, and every cell of the lent buffers.
use mathlib.Core.Path.{refl, sym, ◌∙◌}
use Rattle.forms.specs.Form.{Form}
use Rattle.demand3.proofs.LossyCalls.{settled}
use Rattle.c_answers.proofs.Promises.{measured_settled, settled_in_c, decoded_settled, measures_in_c, converts_in_c, decodes_in_c}
use Rattle.acceptance.specs.Settled.{SettledPair, SettledForm}

pub settled_pair : (F G : Form) → SettledPair F G
settled_pair F G =
    record {
      converts_in_c = λ s d q r o p a b. settled_in_c a b;
      measures_in_c = λ s q r a b. measured_settled a b;
      converts = λ s d q r o p a b. (a.answer ∙ sym b.answer, a.cells ∙ sym b.cells);
      measures = λ s q r a b. a.answer ∙ sym b.answer;
      converts_alike = λ s d r o c. converts_in_c refl c;
      measures_alike = λ s r m. measures_in_c refl m;
    }

pub settled_form : (F : Form) → SettledForm F
settled_form F =
    record {
      decodes_in_c = λ s d e q r o p x y a b. decoded_settled a b;
      decodes = λ s d e q r o p x y a b. let z = settled F s d e q r o p x y a b in (z.0, z.2, z.3);
      decodes_alike = λ s d e r o p c. decodes_in_c refl c;
    }
