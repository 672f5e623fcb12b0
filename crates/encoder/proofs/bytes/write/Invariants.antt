use Rattle.forms.specs.Layout.{row_at}
use Rattle.tables.specs.ByteForms.{layout_of, unit_of}
use Rattle.encoder.proofs.Backward.{Backward}
use Rattle.encoder.proofs.bytes.write.Given as goal

abbrev pub invariant-loop-left : goal.invariant-loop-left
invariant-loop-left l =
    Backward (row_at (layout_of l.form) l.count).first l.low l.radix (unit_of l.form) l.value l.initial.dst l.at l.count l.dst l.left l.rest
