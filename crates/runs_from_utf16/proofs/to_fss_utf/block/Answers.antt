use native.Mathlib.Omega.{arith}
use lib.ListN.{replicate}
use Rattle.laws.proofs.Blocks.{AtMost, at-most_looser, no_surrogates}
use Rattle.runs_from_utf16.proofs.Singles.{ascii_room, ascii_wrote, plain_encodable, plain_room, plain_wrote, local_encodable, local-room, local_wrote}
use Rattle.runs_from_utf16.proofs.to_fss_utf.block.Goals as goal

pub copy-requires : goal.copy-requires
copy-requires c =
    let ascii : (let z = c.args in AtMost z.src.now z.at z.count 0x7F) =
    at-most_looser 0x7F c.joined-most.ensures (omega (arith, c.if-most-lt128.true)) in
    let p = c.requires in
    let a = ascii in
    (p.1, ascii_room p.2 p.1 c.type_inv.src a, a)

pub returns-then-most-lt128 : goal.returns-then-most-lt128
returns-then-most-lt128 c =
    let ascii : (let z = c.args in AtMost z.src.now z.at z.count 0x7F) =
    at-most_looser 0x7F c.joined-most.ensures (omega (arith, c.if-most-lt128.true)) in
    let p = c.requires in
    (ascii_wrote p.2 p.1 c.type_inv.src ascii c.copy.ensures, omega arith)

pub twos-end-requires : goal.twos-end-requires
twos-end-requires c =
    let short : (let z = c.args in AtMost z.src.now z.at z.count 0x7FF) =
    at-most_looser 0x7FF c.joined-most.ensures (omega (arith, c.if-most-lt2048.true)) in
    let p = c.requires in
    let a = short in
    (plain_encodable p.2 p.1 c.type_inv.src (no_surrogates a (omega arith)), plain_room p.2 p.1 c.type_inv.src (no_surrogates a (omega arith)), a)

pub returns-then-most-lt2048 : goal.returns-then-most-lt2048
returns-then-most-lt2048 c =
    let short : (let z = c.args in AtMost z.src.now z.at z.count 0x7FF) =
    at-most_looser 0x7FF c.joined-most.ensures (omega (arith, c.if-most-lt2048.true)) in
    let p = c.requires in
    (plain_wrote p.2 p.1 c.type_inv.src (no_surrogates short (omega arith)) c.twos-end.ensures, omega arith)

pub write_all-end-requires : goal.write_all-end-requires
write_all-end-requires c = let p = c.requires in (
  local_encodable p.2 p.1 c.type_inv.src (c.surrogates.ensures c.if-surrogates.false) (replicate 128 0) c.widen.ensures,
  local-room p.2 p.1 c.type_inv.src (c.surrogates.ensures c.if-surrogates.false) (replicate 128 0) c.widen.ensures,
)

pub returns : goal.returns
returns c = let p = c.requires in
    (local_wrote p.2 p.1 c.type_inv.src (c.surrogates.ensures c.if-surrogates.false) (replicate 128 0) c.widen.ensures c.write_all-end.ensures, omega arith)
