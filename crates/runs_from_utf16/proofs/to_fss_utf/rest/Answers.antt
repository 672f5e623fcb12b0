use native.Mathlib.Omega.{arith}
use Rattle.laws.proofs.Blocks.{AtMost, at-most_looser}
use Rattle.runs_from_utf16.proofs.Singles.{ascii_room, ascii_wrote}
use Rattle.runs_from_utf16.proofs.to_fss_utf.rest.Goals as goal

pub copy-requires : goal.copy-requires
copy-requires c =
    let ascii : (let z = c.args in AtMost z.src.now z.at z.count 0x7F) =
    at-most_looser 0x7F c.joined.ensures (omega (arith, c.if-joined-lt128.true)) in
    let p = c.requires in
    let a = ascii in
    (p.0, ascii_room p.1 p.0 c.type_inv.src a, a)

pub returns-then-joined-lt128 : goal.returns-then-joined-lt128
returns-then-joined-lt128 c =
    let ascii : (let z = c.args in AtMost z.src.now z.at z.count 0x7F) =
    at-most_looser 0x7F c.joined.ensures (omega (arith, c.if-joined-lt128.true)) in
    let p = c.requires in
    (ascii_wrote p.1 p.0 c.type_inv.src ascii c.copy.ensures, omega arith)
