-- A unit of a slice, by its place in the whole text.
use Prim.Native.Nat.{ℕ, ◌+◌, ◌-◌, ◌<◌}
use mathlib.Core.Path.{◌≡◌}
use mathlib.Core.List.{List}
use lib.ListN.{length, get_or, take, drop}
use Rattle.std.proofs.Common.{arith}
use Rattle.std.proofs.lemmas.Grind.{common_steps}

pub unit_at : (s : List ℕ) (at count k : ℕ) → k < length (take (at + count - at) (drop at s)) → get_or (take (at + count - at) (drop at s)) k 0 ≡ get_or s (at + k) 0
unit_at s at count k h = grind (arith, common_steps)
