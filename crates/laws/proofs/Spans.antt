-- Where an item stands and how long it is: at least one unit, at most the longest item, within the text.
use Prim.Native.Nat.{ℕ, suc, ◌≤◌, ◌<◌}
use mathlib.Core.Path.{◌≡◌, refl}
use mathlib.Core.List.{List}
use native.Mathlib.Omega.{arith}
use lib.ListN.{length}
use Rattle.types.specs.declared.Span.{Span}
use Rattle.forms.specs.Form.{Role, lead, trailing, invalid, Sequence, size, Form, asked, first_of, Content, character, mark, content, span, with_span, span_of, item_of}
use Rattle.laws.proofs.Sequences.{taken-length, taken-most}
use Rattle.laws.proofs.FormLaws.{Laws}

with_span_lem : (t : Content) (p : Span) → span_of (with_span t p) ≡ p
with_span_lem (character v) p = refl
with_span_lem (mark f) p = refl

pub item-span : (F : Form) (p : ℕ) (c : Sequence) → span_of (item_of F p c) ≡ span p (size c)
item-span F p c = with_span_lem (content F c) (span p (size c))

-- the first item of a text lies within it
pub size-within : (F : Form) (u : ℕ) (us : List ℕ) → size (first_of F u us) ≤ suc (length us)
size-within F u us = omega (arith, taken-length F (asked (F.role u)) us)

pub asked-longest : (F : Form) → Laws F → 0 < F.longest → (u : ℕ) (o : Role) → F.role u ≡ o → asked o < F.longest
asked-longest F l p u (lead k) e = l.reach u k e
asked-longest F l p u trailing e = p
asked-longest F l p u invalid e = p

-- and has at most as many units as the longest
pub size-longest : (F : Form) → Laws F → 0 < F.longest → (u : ℕ) (us : List ℕ) → size (first_of F u us) ≤ F.longest
size-longest F l p u us = omega (arith, taken-most F (asked (F.role u)) us, asked-longest F l p u (F.role u) refl)
