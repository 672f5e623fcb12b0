-- Characters that are written one by one behind blocks of ASCII.
use Prim.Native.Nat.{ℕ, ◌+◌, ◌≤◌}
use native.Mathlib.Omega.{arith}
use mathlib.Core.List.{List}
use lib.ListN.{length}
use Rattle.forms.specs.Form.{Form}
use Rattle.laws.proofs.Runs.{Convertible, Wrote, CopyingRun, wrote_convertible, wrote_join}

module _ {F G : Form} {s d o : List ℕ} {at n k : ℕ} (c : Convertible F G s at n (length d)) (w : CopyingRun F G s at n d k o) where
  pub left : Convertible F G s (at + k) (n + k) (length o)
  left = rw w.same (wrote_convertible c w.wrote).1

  module _ {l u : ℕ} {p : List ℕ} (r : Wrote F G s (at + k) l u o (n + k) p) where
    pub both : Wrote F G s at (k + l) (k + u) d n p
    both = wrote_join w.room w.wrote r

    pub both_fit : n + (k + u) ≤ length d
    both_fit = omega (arith, (wrote_convertible left r).0, w.same)
