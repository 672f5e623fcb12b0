use Rattle.measure_runs.proofs.WellFormed.{whole-counted}
use native.Mathlib.Omega.{arith}
use Rattle.measure_runs.proofs.fss_utf.valid.Goals as goal

pub returns-in-Some : goal.returns-in-Some
returns-in-Some c = record { counts = λ G w. whole-counted w (omega (arith, c.requires.0)) c.in-Some.ensures }
