-- What a lead takes: inner, for the byte forms.
use Rattle.std.specs.Prelude.{ℕ, ◌+◌, ◌*◌, ◌^◌, ◌≡◌, List, length}
use Rattle.forms.specs.Form.{taken}
use Rattle.forms.specs.Layout.{Layout, form_of, number}

-- the units that a lead takes from us: how many they are, and its free bits joined with theirs
pub record TailIs (L : Layout) (us : List ℕ) (asked lead count value : ℕ) : Type 0 where
  pub counted : count ≡ length (taken (form_of L) asked us)
  pub joined : value ≡ lead * L.radix ^ count + number L.low L.radix (taken (form_of L) asked us)
