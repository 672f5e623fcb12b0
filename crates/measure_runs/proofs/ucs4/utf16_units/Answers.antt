use Rattle.measure_runs.proofs.Ucs4Counting.{utf16-one}
use Rattle.measure_runs.proofs.ucs4.utf16_units.Goals as goal

pub returns-then-most-lt55296 : goal.returns-then-most-lt55296
returns-then-most-lt55296 c = let p = c.requires in utf16-one p.1 p.2 c.if-most-lt55296.true
