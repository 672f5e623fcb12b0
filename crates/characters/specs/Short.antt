-- What a reader of common characters promises.
use Rattle.std.specs.Prelude.{ℕ, List, Option, IfSome}
use Rattle.forms.specs.Form.{Form, span}
use Rattle.laws.proofs.Progress.{CharacterAt}
use Rattle.characters.specs.declared.Character.{Character}

-- the character stands at an offset, with so many units, where there is one
abbrev pub ShortAt : Form → List ℕ → ℕ → Option Character → Type 0
ShortAt F s at o = IfSome o (λ c. CharacterAt F s at c.value (span at c.length))
