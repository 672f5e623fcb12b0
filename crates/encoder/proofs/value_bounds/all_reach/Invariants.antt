use Rattle.laws.proofs.Values.{ReachIf}
use Rattle.encoder.proofs.value_bounds.all_reach.Given as goal

abbrev pub invariant-loop-value : goal.invariant-loop-value
invariant-loop-value l = ReachIf l.all l.values 0 l.value-index l.bound
