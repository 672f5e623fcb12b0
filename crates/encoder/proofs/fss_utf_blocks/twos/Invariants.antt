use Rattle.forms.specs.Forms.{fss_utf}
use Rattle.laws.proofs.Spare.{Overrun}
use Rattle.encoder.proofs.fss_utf_blocks.twos.Given as goal

abbrev pub invariant-loop-value : goal.invariant-loop-value
invariant-loop-value l = Overrun fss_utf l.values 0 l.value-index l.initial.dst l.at l.end l.dst
