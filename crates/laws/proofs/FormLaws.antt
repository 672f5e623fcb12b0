-- What a form owes: the laws from which the round trip, the lossy decoding and the start of an item follow for every form.
use Prim.Native.Nat.{ℕ, ◌<◌}
use mathlib.Core.Path.{◌≡◌}
use mathlib.Core.Logic.{◌≢◌}
use mathlib.Core.List.{[]}
use mathlib.Core.Option.{none, some}
use Rattle.types.specs.declared.Fault.{Fault}
use Rattle.forms.specs.Form.{lead, Sequence, units, Form, character, full_content, encode}
use Rattle.forms.specs.Forms.{no_character}
use Rattle.laws.specs.LayoutTable.{Full}

-- a full sequence with the content of a character
pub record Reads (F : Form) (c : Sequence) (v : ℕ) : Type 0 where
  pub full : Full F c
  pub shows : full_content F c ≡ character v

pub record Laws (F : Form) : Type 0 where
  -- the legal encoding of a value reads as that value
  pub legal : (v : ℕ) (c : Sequence) → encode F v ≡ units c → Reads F c v
  -- what reads as a character is that value's legal encoding
  pub only : (c : Sequence) (v : ℕ) → Reads F c v → encode F v ≡ units c
  -- and its value lies below 80000000
  pub small : (c : Sequence) (v : ℕ) → Reads F c v → v < 0x80000000
  -- a value below 80000000 that the form does not exclude has an encoding
  pub carries : (v : ℕ) → v < 0x80000000 → F.excluded v ≡ none → F.shortest v ≢ []
  -- what no form carries, this one does not
  pub shared : (v : ℕ) (f : Fault) → no_character v ≡ some f → F.excluded v ≡ some f
  -- no lead reaches the longest item
  pub reach : (u k : ℕ) → F.role u ≡ lead k → k < F.longest
