use native.Mathlib.Omega.{arith}
use Rattle.measure_runs.proofs.Ucs4Counting.{bytes_one, bytes_few, bytes_all}
use Rattle.measure_runs.proofs.ucs4.byte_block.Goals as goal

pub returns-then-most-two : goal.returns-then-most-two
returns-then-most-two c = bytes_one c.args.form c.requires.1 c.requires.2 c.lowest-two.ensures c.if-most-two.true

pub returns-then-most-five : goal.returns-then-most-five
returns-then-most-five c =
    bytes_few c.args.form c.requires.1 c.requires.2 c.lowest-two.ensures c.lowest.ensures c.lowest-2.ensures c.reached-few.ensures (omega (arith, c.requires.3))
    (c.excluded.ensures c.if-excluded.false) c.lowest-five.ensures c.if-most-five.true

pub returns : goal.returns
returns c =
    bytes_all c.args.form c.requires.1 c.requires.2 c.lowest-two.ensures c.lowest.ensures c.lowest-2.ensures c.reached-few.ensures (omega (arith, c.requires.3))
    (c.excluded.ensures c.if-excluded.false) c.lowest-five.ensures c.lowest-3.ensures c.lowest-4.ensures c.reached-more.ensures
