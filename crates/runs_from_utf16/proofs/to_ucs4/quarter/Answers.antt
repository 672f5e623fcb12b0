use native.Mathlib.Omega.{arith}
use Rattle.runs_from_utf16.proofs.Singles.{widened_room, widened_wrote}
use Rattle.runs_from_utf16.proofs.to_ucs4.quarter.Goals as goal

pub widen-requires : goal.widen-requires
widen-requires c = let p = c.requires in
    (p.1, widened_room p.2 p.1 c.type_inv.src (c.surrogates.ensures c.if-surrogates.false))

pub returns : goal.returns
returns c = let p = c.requires in
    (widened_wrote p.2 p.1 c.type_inv.src (c.surrogates.ensures c.if-surrogates.false) c.widen.ensures, omega arith)
