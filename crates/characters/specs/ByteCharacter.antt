-- inner: the bytes of a character of either byte form, each as the byte of the layout that it stands for.
use Rattle.std.specs.Prelude.{◌≡◌, ℕ, ◌+◌, ◌<◌, ◌≤◌, List, length, slice_index}
use Rattle.forms.specs.Layout.{row_at}
use Rattle.tables.specs.ByteForms.{layout_of, plain_of}
use Rattle.tables.specs.declared.ByteForm.{ByteForm}

-- a lead of k trailing bytes stands at an offset, with k bytes behind it
pub record LeadOf (f : ByteForm) (s : List ℕ) (at k : ℕ) : Type 0 where
  pub inside : at + k < length s
  pub from : (row_at (layout_of f) k).first ≤ plain_of f (slice_index s at)
  pub to : plain_of f (slice_index s at) ≤ (row_at (layout_of f) k).last

-- a byte less the first trailing one, which is its free bits where it trails, and no digit where it does not
pub record FreeBitsOf (f : ByteForm) (b a : ℕ) : Type 0 where
  pub small : a < 256
  pub trails : a < (layout_of f).radix → plain_of f b ≡ a + (layout_of f).low
