-- When a lossy decoding gives each of its answers: "It refuses by 1 and 7 only".
use Rattle.std.specs.Prelude.{ℕ, ◌≤◌, ◌<◌, ◌≡◌, ◌↔◌, ◌⊎◌, List, length}
use Rattle.types.specs.declared.Fault.TheVariants.{SourceTooLong, BufferTooShort}
use Rattle.types.specs.declared.Item.{Item}
use Rattle.types.specs.declared.Refusal.{Refusal}
use Rattle.forms.specs.Fault.{limit, refusal}
use Rattle.forms.specs.Form.{Form, items}
use Rattle.forms.specs.Lossy.{decoded, refused, lossy}

-- 1, then 7 where either buffer is short, and no other refusal
pub record ExactLossy (F : Form) (s : List ℕ) (m n : ℕ) : Type 0 where
  pub fault_1 : (p : ℕ) → lossy F s m n ≡ refused (refusal SourceTooLong p) ↔ ((limit < length s) × (p ≡ 0))
  pub fault_7 :
      (p : ℕ) → lossy F s m n ≡ refused (refusal BufferTooShort p)
      ↔ ((length s ≤ limit) × ((m < length (items F s)) ⊎ (n < length (items F s))) × (p ≡ 0))
  pub no_other : (r : Refusal) → lossy F s m n ≡ refused r → (r ≡ refusal SourceTooLong 0) ⊎ (r ≡ refusal BufferTooShort 0)
  pub result :
      (is : List Item) → lossy F s m n ≡ decoded is
      ↔ ((length s ≤ limit) × (length (items F s) ≤ m) × (length (items F s) ≤ n) × (is ≡ items F s))
