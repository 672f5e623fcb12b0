use Prim.Native.Nat.{◌+◌}
use mathlib.Core.Path.{sym, ◌∙◌}
use Rattle.laws.proofs.Blocks.{at-most-or, held_more, copied_more}
use Rattle.measure_runs.proofs.UtfEbcdicExchanging.{exchanged-at, ascii_wrote}
use native.Mathlib.Omega.{arith}
use Rattle.runs_from_utf_ebcdic.proofs.to_units.copy8.Goals as goal

pub loop-i-preserved : goal.loop-i-preserved
loop-i-preserved g c =
    let l = c.loop-i in
    let e = c.from-value.ensures ∙ c.get.ensures in
    (omega arith, at-most-or _ l.invariant.1 (e ∙ sym (exchanged-at c.args.src.now (c.args.at + l.i))), held_more _ l.invariant.2 c.loop-i-test.true e)

pub loop-k-preserved : goal.loop-k-preserved
loop-k-preserved g c =
    let m = g.met.F.TargetForm in
    rw c.put_ascii.ensures (copied_more c.loop-k.invariant (rw (m.counted _) c.requires.1) c.loop-i.invariant.2.long c.loop-k-test.true)

pub returns : goal.returns
returns g c =
    let l = c.loop-i.invariant in
    (λ t. ascii_wrote g.met.F.AsciiForm.ascii c.requires.0 l.1 c.if-joined-ge128.false l.2 c.loop-i-test.false c.loop-k.invariant c.loop-k-test.false, λ f. cc)

pub put_ascii-requires : goal.put_ascii-requires
put_ascii-requires g c =
    let l = c.loop-i.invariant in
    let k = c.loop-k.k in
    (omega (arith, l.1.each k (omega (arith, c.loop-k-test.true, c.loop-i-test.false)), exchanged-at c.args.src.now (c.args.at + k), l.2.each k (omega (arith, c.loop-k-test.true, c.loop-i-test.false)), c.if-joined-ge128.false), omega (arith, c.requires.1, c.loop-k.auto.dst, c.loop-k-test.true))
