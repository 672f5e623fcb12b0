use Rattle.forms.specs.Forms.{utf_ebcdic, ucs4}
use Rattle.laws.proofs.Runs.{WritingRun}
use Rattle.runs_from_ucs4.proofs.to_utf_ebcdic.write.Given as goal

abbrev pub invariant-loop-value : goal.invariant-loop-value
invariant-loop-value l = WritingRun ucs4 utf_ebcdic l.src l.at l.written l.initial.dst l.value-index l.units l.dst
