use Rattle.measure_runs.proofs.Validating.{added-parts}
use native.Mathlib.Omega.{arith}
use Rattle.measure_runs.proofs.fss_utf_weights.added64.Goals as goal

pub returns : goal.returns
returns c = let z = c.args in
    omega (arith, added-parts z.weights z.src.now z.at 64, c.from-6.ensures, c.split64.ensures, c.from-5.ensures, c.reached64-4.ensures, c.from-4.ensures, c.reached64-3.ensures, c.from-3.ensures, c.reached64-2.ensures, c.from-2.ensures, c.reached64.ensures, c.from.ensures, c.leads64.ensures)
