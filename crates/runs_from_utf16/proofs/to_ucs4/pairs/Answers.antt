use Prim.Native.Nat.{ℕ, ◌+◌, ◌<◌}
use mathlib.Core.Path.{◌≡◌, ap, ◌∙◌}
use native.Mathlib.Omega.{arith}
use lib.ListN.{length as long}
use Rattle.laws.proofs.FourForms.{utf16_laws}
use Rattle.laws.proofs.Progress.{character-value}
use Rattle.laws.proofs.Values.{written_wrote}
use Rattle.runs_from_utf16.proofs.Midway.{Midway, counted_for, midway_none, midway_room, midway_high, midway_more, midway_stands, midway_last-room, midway_all, midway_passed}
use Rattle.runs_from_utf16.proofs.to_ucs4.pairs.Goals as goal

pub loop-k-init : goal.loop-k-init
loop-k-init c = (omega arith, midway_none (omega (arith, c.requires.1)))

pub value-requires : goal.value-requires
value-requires c =
    let near : c.args.at + c.loop-k.k + 1 < long c.args.src.now =
    omega (arith, c.loop-k-test.true, c.last_of-last.ensures.inside, c.requires.1) in
    (λ e. midway_high c.requires.2 c.loop-k.invariant.1 near e)

pub bounds-dst-end : goal.bounds-dst-end
bounds-dst-end c =
    let near : c.args.at + c.loop-k.k + 1 < long c.args.src.now =
    omega (arith, c.loop-k-test.true, c.last_of-last.ensures.inside, c.requires.1) in
    let room : c.loop-k.end < long c.loop-k.dst =
    midway_room c.requires.2 c.loop-k.invariant.1 near in
    room

pub loop-k-preserved : goal.loop-k-preserved
loop-k-preserved c =
    let near : c.args.at + c.loop-k.k + 1 < long c.args.src.now =
    omega (arith, c.loop-k-test.true, c.last_of-last.ensures.inside, c.requires.1) in
    let l = c.loop-k in
    let v = c.value.ensures in
    (omega (arith, c.loop-k-test.true), midway_more c.requires.2 l.invariant.1 c.type_inv.src near v.0 v.1 (ap (λ (n : ℕ). l.end + n) (rw c.low.ensures at (c.from-end.ensures ∙ counted_for _))))

pub decode-next-requires : goal.decode-next-requires
decode-next-requires c =
    let ended : (let z = c.args in Midway z.src.now z.at z.written z.dst.now c.last_of-last.result c.loop-k.end c.loop-k.dst) =
    let e : c.loop-k.k ≡ c.last_of-last.result = omega (arith, c.loop-k-test.false, c.loop-k.invariant.0) in
    rw e at c.loop-k.invariant.1 in
    midway_stands c.requires.2 ended c.requires.1 c.last_of-last.ensures

pub write-end-requires : goal.write-end-requires
write-end-requires c =
    let ended : (let z = c.args in Midway z.src.now z.at z.written z.dst.now c.last_of-last.result c.loop-k.end c.loop-k.dst) =
    let e : c.loop-k.k ≡ c.last_of-last.result = omega (arith, c.loop-k-test.false, c.loop-k.invariant.0) in
    rw e at c.loop-k.invariant.1 in
    let d = c.decode-next.ensures in
    (character-value utf16_laws d, midway_last-room c.requires.2 ended c.requires.1 c.last_of-last.ensures d)

pub returns : goal.returns
returns c =
    let ended : (let z = c.args in Midway z.src.now z.at z.written z.dst.now c.last_of-last.result c.loop-k.end c.loop-k.dst) =
    let e : c.loop-k.k ≡ c.last_of-last.result = omega (arith, c.loop-k-test.false, c.loop-k.invariant.0) in
    rw e at c.loop-k.invariant.1 in
    let w = c.write-end.ensures in
    let all = midway_all c.requires.2 ended c.requires.1 c.last_of-last.ensures c.decode-next.ensures w.0 w.1 in
    (written_wrote all, midway_passed c.requires.2 ended c.requires.1 c.last_of-last.ensures c.decode-next.ensures)
