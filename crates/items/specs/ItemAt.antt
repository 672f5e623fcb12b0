-- The item at an offset inside a text: "Reading at a place reads as though the text began there."
use Rattle.std.specs.Prelude.{ℕ, ◌+◌, List, get_or, drop}
use Rattle.types.specs.declared.Item.{Item}
use Rattle.forms.specs.Form.{Form, first_of, item_of}

abbrev pub item_at : Form → List ℕ → ℕ → Item
item_at F s p = item_of F p (first_of F (get_or s p 0) (drop (p + 1) s))
