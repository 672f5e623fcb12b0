use Rattle.runs_from_utf_ebcdic.proofs.AfterBlocks.{both}
use Rattle.runs_from_utf_ebcdic.proofs.to_units.write.Goals as goal

pub returns : goal.returns
returns g c = both (rw (g.met.F.TargetForm.counted _) c.requires.1) c.ascii-copied.ensures c.few-rest.ensures
