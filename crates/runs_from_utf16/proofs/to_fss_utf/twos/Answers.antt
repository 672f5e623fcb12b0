use Prim.Native.Nat.{◌+◌, ◌-◌, ◌*◌, ◌/◌, ◌<◌}
use mathlib.Core.Path.{◌≡◌}
use native.Mathlib.Omega.{arith}
use Rattle.forms.specs.Forms.{fss_utf}
use Rattle.laws.proofs.Spare.{Overrun, overrun_last-room, overrun_last}
use Rattle.encoder.proofs.Overruns.{twos_below, twos_room, twos_more}
use Rattle.runs_from_utf16.proofs.to_fss_utf.twos.Goals as goal

pub overrun-end-requires : goal.overrun-end-requires
overrun-end-requires c = let p = c.requires in
    let h : 4 * c.loop-turn.turn + c.loop-part.part + 1 < c.args.count = omega (arith, c.loop-turn-test.true, c.loop-part-test.true) in
    (rw c.from.ensures (twos_below p.0 p.1 p.2 c.loop-part.invariant.1 h), twos_room p.0 p.1 p.2 c.loop-part.invariant.1 h)

pub loop-part-preserved : goal.loop-part-preserved
loop-part-preserved c = let p = c.requires in
    let t = c.loop-turn.turn in
    let r = c.loop-part.part in
    let h : 4 * t + r + 1 < c.args.count = omega (arith, c.loop-turn-test.true, c.loop-part-test.true) in
    let next : 4 * t + r + 1 ≡ 4 * t + (r + 1) = omega arith in
    let e = c.from.ensures in
    let w = c.overrun-end.ensures in
    (omega (arith, h), rw next at (twos_more p.0 p.1 p.2 c.loop-part.invariant.1 h (rw e at w.0) (rw e at w.1)))

pub loop-turn-preserved : goal.loop-turn-preserved
loop-turn-preserved c = let l = c.loop-part in
    let next : 4 * c.loop-turn.turn + l.part ≡ 4 * (c.loop-turn.turn + 1) = omega (arith, c.loop-part-test.false, l.auto.part-end) in
    (omega (arith, l.invariant.0, next), rw next at l.invariant.1)

pub loop-k-init : goal.loop-k-init
loop-k-init c = let l = c.loop-turn in
    let whole : 4 * l.turn ≡ (c.args.count - 1) / 4 * 4 = omega (arith, c.loop-turn-test.false, l.auto.turn-end) in
    (omega (arith, l.invariant.0, whole), rw whole at l.invariant.1)

pub overrun-end-requires-in-loop-k : goal.overrun-end-requires-in-loop-k
overrun-end-requires-in-loop-k c = let p = c.requires in
    let h : c.loop-k.k + 1 < c.args.count = omega (arith, c.loop-k-test.true) in
    (rw c.from-in-loop-k.ensures (twos_below p.0 p.1 p.2 c.loop-k.invariant.1 h), twos_room p.0 p.1 p.2 c.loop-k.invariant.1 h)

pub loop-k-preserved : goal.loop-k-preserved
loop-k-preserved c = let p = c.requires in
    let t = c.loop-k-test.true in
    let h : c.loop-k.k + 1 < c.args.count = omega (arith, t) in
    let e = c.from-in-loop-k.ensures in
    let w = c.overrun-end-in-loop-k.ensures in
    (omega (arith, t), twos_more p.0 p.1 p.2 c.loop-k.invariant.1 h (rw e at w.0) (rw e at w.1))

pub write-requires : goal.write-requires
write-requires c =
    let last : (let z = c.args in (0 < z.count) × Overrun fss_utf z.src.now z.at (z.count - 1) z.dst.now z.written c.loop-k.end c.loop-k.dst) =
    let l = c.loop-k in
    let e : l.k ≡ c.args.count - 1 = omega (arith, c.loop-k-test.false, l.invariant.0) in
    (omega (arith, l.invariant.0), rw e at l.invariant.1) in
    rw c.from-2.ensures (c.requires.0.each (c.args.count - 1) (omega (arith, last.0)), overrun_last-room c.requires.0 c.requires.1 last.1 (omega (arith, last.0)))

pub returns : goal.returns
returns c =
    let last : (let z = c.args in (0 < z.count) × Overrun fss_utf z.src.now z.at (z.count - 1) z.dst.now z.written c.loop-k.end c.loop-k.dst) =
    let l = c.loop-k in
    let e : l.k ≡ c.args.count - 1 = omega (arith, c.loop-k-test.false, l.invariant.0) in
    (omega (arith, l.invariant.0), rw e at l.invariant.1) in
    let e = c.from-2.ensures in
    let w = c.write.ensures in
    overrun_last c.requires.0 c.requires.1 last.1 (omega (arith, last.0)) (omega (arith, last.0)) (rw e at w.0) (rw e at w.1)
