use Rattle.forms.specs.Forms.{fss_utf}
use Rattle.laws.proofs.Values.{Encoded}
use Rattle.encoder.proofs.fss_utf_blocks.threes.Given as goal

abbrev pub invariant-loop-value : goal.invariant-loop-value
invariant-loop-value l = Encoded fss_utf l.values 0 l.value-index l.initial.dst l.at l.end l.dst
