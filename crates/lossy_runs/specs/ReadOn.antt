-- Items that a lossy decoding reads in one step, inner: what a function that reads them asks and promises.
use Rattle.std.specs.Prelude.{ℕ, zero, suc, ◌+◌, ◌≤◌, ◌≡◌, List, [], ◌∷◌, ◌++◌, map, length, take}
use Rattle.types.specs.declared.Item.{Item}
use Rattle.forms.specs.Fault.{limit}
use Rattle.forms.specs.Form.{Form}
use Rattle.forms.specs.Buffer.{with_units}
use Rattle.forms.specs.Lossy.{value_of, offset_of, marks}
use Rattle.laws.proofs.Items.{items_onward}

-- it may ask: the items from `at` on have room in buffers of m and n cells, from cell c on
pub record Room (F : Form) (s : List ℕ) (at c m n : ℕ) : Type 0 where
  pub short : length s ≤ limit
  pub within : at ≤ length s
  pub values : c + length (items_onward F s at) ≤ m
  pub starts : c + length (items_onward F s at) ≤ n

-- the units from `at` to `to` are the items `done`
pub record Between (F : Form) (s : List ℕ) (at to : ℕ) (done : List Item) : Type 0 where
  pub inside : to ≤ length s
  pub onward : items_onward F s at ≡ done ++ items_onward F s to
  pub few : at + length done ≤ to

-- it promises: the items from `at` to `to`, no mark among them, went into the cells from c to b, so that d and e became o and p
pub record ReadOn (F : Form) (s : List ℕ) (at to : ℕ) (d e : List ℕ) (c b : ℕ) (o p : List ℕ) : Type 0 where
  pub done : List Item
  pub read : Between F s at to done
  pub counted : b ≡ c + length done
  pub unmarked : marks done ≡ 0
  pub values : o ≡ with_units d c (map value_of done)
  pub starts : p ≡ with_units e c (map offset_of done)
  pub same-values : length o ≡ length d
  pub same-starts : length p ≡ length e

-- k offsets from `at` on
abbrev pub offsets_from : ℕ → ℕ → List ℕ
offsets_from at zero = []
offsets_from at (suc k) = at ∷ offsets_from (suc at) k

-- k units from `at` on are characters by themselves, and the first k cells of b their values
pub record Singles (F : Form) (s : List ℕ) (at k : ℕ) (b : List ℕ) : Type 0 where
  pub done : List Item
  pub read : Between F s at (at + k) done
  pub counted : length done ≡ k
  pub values : map value_of done ≡ take k b
  pub starts : map offset_of done ≡ offsets_from at k
  pub unmarked : marks done ≡ 0
