use native.Mathlib.Omega.{arith}
use Rattle.measure_runs.proofs.Utf16Counting.{counted_plain, counted_on}
use Rattle.measure_runs.proofs.utf16.count.Goals as goal

pub loop-next-preserved-then-most-bound : goal.loop-next-preserved-then-most-bound
loop-next-preserved-then-most-bound c = (
  omega (arith, c.loop-next.invariant.0),
  omega (arith, c.loop-next-test.true),
  counted_on c.loop-next.invariant.0 c.loop-next.invariant.2
      (counted_plain c.args.target c.args.src.now c.loop-next.next 128 c.joined-most.result c.plain-bound.result (λ i. omega (arith, c.type_inv.src i))
      (omega (arith, c.loop-next-test.true)) c.joined-most.ensures c.plain-bound.ensures c.if-most-bound.true),
)

pub loop-next-preserved : goal.loop-next-preserved
loop-next-preserved c = (
  omega (arith, c.loop-next.invariant.0),
  c.in-Some.ensures.1.run.inside,
  counted_on c.loop-next.invariant.0 c.loop-next.invariant.2 c.in-Some.ensures.1,
)

pub returns-then-most-bound-2 : goal.returns-then-most-bound-2
returns-then-most-bound-2 c =
    counted_on c.loop-next.invariant.0 c.loop-next.invariant.2
    (counted_plain c.args.target c.args.src.now c.loop-next.next _ c.joined-most-2.result c.plain-bound.result (λ i. omega (arith, c.type_inv.src i))
    (omega (arith, c.if-rest-eq0.false)) c.joined-most-2.ensures c.plain-bound.ensures c.if-most-bound-2.true)

pub returns : goal.returns
returns c = counted_on c.loop-next.invariant.0 c.loop-next.invariant.2 c.in-Some-block.ensures.1
