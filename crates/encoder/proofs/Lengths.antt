-- How many bytes a value's encoding has, where it has the most.
use Prim.Native.Nat.{ℕ, ◌≤◌}
use mathlib.Core.Path.{◌≡◌, sym}
use mathlib.Core.Logic.{◌≢◌}
use mathlib.Core.List.{[]}
use native.Mathlib.Omega.{arith}
use lib.ListN.{length}
use Rattle.forms.specs.Form.{encode}
use Rattle.forms.specs.Layout.{lowest_of}
use Rattle.tables.specs.ByteForms.{byte_form, layout_of}
use Rattle.tables.specs.declared.ByteForm.{ByteForm}
use Rattle.tables.specs.declared.ByteForm.TheVariants.{FssUtf, UtfEbcdic}
use Rattle.tables.proofs.ByteLayouts.{small, encode-length}

pub rows : (f : ByteForm) → (6 ≤ length (layout_of f).rows) × (length (layout_of f).rows ≤ 7)
rows FssUtf = (omega arith, omega arith)
rows UtfEbcdic = (omega arith, omega arith)

-- what no six bytes hold has seven
pub seven_bytes : (f : ByteForm) (v : ℕ) → encode (byte_form f) v ≢ [] → lowest_of (layout_of f) 6 ≤ v → 7 ≡ length (encode (byte_form f) v)
seven_bytes FssUtf v s l = absurd (omega (arith, small FssUtf v s))
seven_bytes UtfEbcdic v s l = sym (encode-length UtfEbcdic v s 6 (omega arith) l (small UtfEbcdic v s))
