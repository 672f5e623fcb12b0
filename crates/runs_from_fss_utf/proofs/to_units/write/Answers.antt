use Rattle.laws.proofs.Runs.{copying_run_then}
use native.Mathlib.Omega.{arith}
use Rattle.runs_from_fss_utf.proofs.to_units.write.Goals as goal

pub returns : goal.returns
returns g c = copying_run_then c.ascii-copied.ensures (omega arith) c.others-2.ensures
