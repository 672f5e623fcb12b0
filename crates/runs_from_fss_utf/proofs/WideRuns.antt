-- The loop that writes character by character, into a buffer whose units are told as numbers: one more character of one unit.
use Prim.Native.Nat.{ℕ, ◌+◌, ◌<◌}
use mathlib.Core.Path.{◌≡◌}
use mathlib.Core.List.{List, [], ◌∷◌}
use lib.ListN.{length, set}
use Rattle.types.specs.declared.Span.{Span}
use Rattle.forms.specs.Form.{Form, encode}
use Rattle.forms.specs.Forms.{fss_utf}
use Rattle.laws.proofs.Progress.{CharacterAt}
use Rattle.laws.proofs.Runs.{WritingRun, writing_run_unit}

module _ {G : Form} {s d o : List ℕ} {at n k u : ℕ} (w : WritingRun fss_utf G s at n d k u o) {v : ℕ} {q : Span} (c : CharacterAt fss_utf s (at + k) v q) (e : encode G v ≡ v ∷ []) where
  pub unit_room : {m : ℕ} → length o ≡ m → n + u < m
  unit_room h = rw h at (writing_run_unit w c e).0

  pub unit_more : {p : List ℕ} {x : ℕ} → p ≡ set o (n + u) x → x ≡ v → WritingRun fss_utf G s at n d (k + q.length) (u + 1) p
  unit_more h i = rw (h, i) (writing_run_unit w c e).1
