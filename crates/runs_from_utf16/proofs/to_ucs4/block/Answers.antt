use native.Mathlib.Omega.{arith}
use Rattle.runs_from_utf16.proofs.Singles.{widened_room, widened_wrote}
use Rattle.runs_from_utf16.proofs.to_ucs4.block.Goals as goal

pub widen-requires : goal.widen-requires
widen-requires c = let p = c.requires in
    (p.0, widened_room p.1 p.0 c.type_inv.src (c.surrogates.ensures c.if-surrogates.false))

pub returns : goal.returns
returns c = let p = c.requires in
    (widened_wrote p.1 p.0 c.type_inv.src (c.surrogates.ensures c.if-surrogates.false) c.widen.ensures, omega arith)
