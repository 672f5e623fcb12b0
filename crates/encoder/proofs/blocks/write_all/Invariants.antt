use Rattle.encoder.proofs.Chunks.{BlocksWritten}
use Rattle.encoder.proofs.blocks.write_all.Given as goal

abbrev pub invariant-loop-block : goal.invariant-loop-block
invariant-loop-block g l =
    let units = g.F.TargetForm.units in
    BlocksWritten g.F.TargetForm.form l.values l.block-iterator.size l.block-iterator.rest.now (units l.initial.dst) l.at l.end (units l.dst)
