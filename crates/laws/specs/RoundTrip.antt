-- There and back: condition 2 of the tender, of two calls.
use Rattle.std.specs.Prelude.{ℕ, ◌≤◌, ◌≡◌, List, ◌++◌, length, take, drop, Result, Ok}
use Rattle.forms.specs.Fault.{limit}
use Rattle.forms.specs.Form.{Form}
use Rattle.forms.specs.Conversion.{Converts}
use Rattle.types.specs.declared.Refusal.{Refusal}

-- of the calls: the front of the first result buffer, where it is short enough to be read again and the room suffices, comes back as the text
abbrev pub RoundTrip : Form → Form → Type 0
RoundTrip F G =
    (s d : List ℕ) (n : ℕ) (o : List ℕ) → Converts F G s d (Ok n) o → n ≤ limit
    → (b : List ℕ) (r : Result ℕ Refusal) (p : List ℕ) → Converts G F (take n o) b r p → length s ≤ length b
    → (r ≡ Ok (length s)) × (p ≡ s ++ drop (length s) b)
