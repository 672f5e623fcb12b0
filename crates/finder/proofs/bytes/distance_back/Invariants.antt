use Prim.Native.Nat.{◌-◌}
use lib.ListN.{length}
use Rattle.tables.specs.ByteForms.{byte_form}
use Rattle.finder.proofs.Seeking.{Seeking}
use Rattle.finder.proofs.bytes.distance_back.Given as goal

abbrev pub invariant-loop-at : goal.invariant-loop-at
invariant-loop-at l = Seeking (byte_form l.form) l.near (length l.near - l.at) l.at
