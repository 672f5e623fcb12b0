-- Reading on from a cursor: how far a step moves, and the items of so many steps, until End.
use Rattle.std.specs.Prelude.{ℕ, zero, suc, ◌+◌, ◌≤◌, ◌<◌, List, [], ◌∷◌, length, Result, Ok, Err}
use Rattle.types.specs.declared.Item.{Item}
use Rattle.types.specs.declared.Item.TheVariants.{Character, Mark}
use Rattle.types.specs.declared.Refusal.{Refusal}
use Rattle.forms.specs.Form.{Form, span}
use Rattle.reader.specs.Step.{cursor, step_at}
use Rattle.reader.specs.declared.Cursor.{Cursor}
use Rattle.reader.specs.declared.Step.{Step}
use Rattle.reader.specs.declared.Step.TheVariants.{Next, End}

-- "Each step that isn't End moves on by at least one unit", by at most the longest item, and stays within the text
pub record Moves (F : Form) (s : List ℕ) (c d : Cursor) : Type 0 where
  pub on : c.offset < d.offset
  pub reach : d.offset ≤ c.offset + F.longest
  pub within : d.offset ≤ length s

abbrev pub or_end : Result Step Refusal → (Item → Cursor → List Item) → List Item
or_end (Ok (Next i c)) f = f i c
or_end (Ok (End c)) f = []
or_end (Err r) f = []

abbrev pub steps_from : Form → List ℕ → ℕ → Cursor → List Item
steps_from F s zero c = []
steps_from F s (suc n) c = or_end (step_at F s c) (λ i d. i ∷ steps_from F s n d)

-- an item, a step, p units further on
abbrev pub moved_item : ℕ → Item → Item
moved_item p (Character v q) = Character v (span (p + q.offset) q.length)
moved_item p (Mark f q) = Mark f (span (p + q.offset) q.length)

abbrev pub moved_step : ℕ → Result Step Refusal → Result Step Refusal
moved_step p (Ok (Next i c)) = Ok (Next (moved_item p i) (cursor (p + c.offset)))
moved_step p (Ok (End c)) = Ok (End (cursor (p + c.offset)))
moved_step p (Err r) = Err r
