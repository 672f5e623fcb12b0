-- Document 01, "What acceptance proves": "These dummies have to be shut out". 41 and 42 are two good characters of every form.
-- "Invented counts of items, marks or units are shut out because they equal the lengths of the defined lists": see `Returned`, `Gives` and
-- `Measured` of condition 2.
use Rattle.std.specs.Prelude.{ℕ, ◌≤◌, ◌≡◌, ◌≢◌, List, [], ◌∷◌, length, take}
use Rattle.forms.specs.Form.{Form, encode, encode_all, AllEncodable}
use Rattle.reader.specs.Step.{cursor, step_at}
use Rattle.c_answers.specs.declared.JkConversion.{JkConversion}
use Rattle.c_answers.specs.declared.JkDecoding.{JkDecoding}
use Rattle.c_answers.specs.declared.JkItem.{JkItem}
use Rattle.c_answers.specs.Answer.{item_answer}
use Rattle.c_answers.specs.Promises.{ConvertsInC}

pub record NoDummyConverter (F G : Form) : Type 0 where
  -- "a converter that refuses everything"
  pub not-all-refused : (d : List ℕ) (r : JkConversion) (o : List ℕ) → ConvertsInC F G (encode F 0x41) d r o → 1 ≤ length d → (r.fault ≡ 0) × (r.units ≡ 1)
  -- "or gives one fixed result"
  pub not-one-result :
      (d : List ℕ) (q r : JkConversion) (o p : List ℕ) → ConvertsInC F G (encode F 0x41) d q o → ConvertsInC F G (encode F 0x42) d r p
      → 1 ≤ length d → o ≢ p
  -- "or returns a count and writes nothing"
  pub not_nothing_written :
      (d : List ℕ) (r : JkConversion) (o : List ℕ) → ConvertsInC F G (encode F 0x41) d r o → 1 ≤ length d → take 1 d ≢ encode G 0x41 → o ≢ d

-- "a reader whose first step takes the whole text while the later ones idle"
abbrev pub NoDummyReader : Form → Type 0
NoDummyReader F =
    (q r : JkItem) → let s = encode_all F (0x41 ∷ 0x42 ∷ []) in
    q ≡ item_answer (step_at F s (cursor 0)) → r ≡ item_answer (step_at F s (cursor 1))
    → (q.value ≡ 0x41) × (q.length ≡ 1) × (r.value ≡ 0x42) × (r.length ≡ 1)

-- "Demand 3 speaks of demand 2's characters, so an empty reading breaks it."
abbrev pub NotEmpty : Form → List ℕ → List ℕ → List ℕ → JkDecoding → List ℕ → List ℕ → Type 0
NotEmpty F s d e r o p =
    (vs : List ℕ) → s ≡ encode_all F vs → AllEncodable F vs → length s ≤ 65536 → length vs ≤ length d → length vs ≤ length e
    → (r.items ≡ length vs) × (r.marks ≡ 0) × (take (length vs) o ≡ vs)
