use Rattle.laws.proofs.Values.{Encoded}
use Rattle.encoder.proofs.blocks.each.Given as goal

abbrev pub invariant-loop-value : goal.invariant-loop-value
invariant-loop-value g l =
    let units = g.F.TargetForm.units in
    Encoded g.F.TargetForm.form l.values 0 l.value-index (units l.initial.dst) l.at l.end (units l.dst)
