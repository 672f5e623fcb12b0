use mathlib.Core.Path.{ap}
use native.Mathlib.Omega.{arith}
use Rattle.arrayvec.specs.ArrayVec.{array_vec_len}
use Rattle.lines.proofs.Lines.{number_digits}
use Rattle.lines.proofs.item_line.Goals as goal
use Rattle.lines.proofs.item_line.Goals.{in-Character, in-Mark}

pub push_decimal-requires : goal.push_decimal-requires
push_decimal-requires c = omega (arith, number_digits c.in-Mark.fault c.number.result c.number.ensures)

pub push-requires : goal.push-requires
push-requires c =
    elim c.match-item.branch [
      | in-Character w ↦ (omega arith, omega (arith, ap array_vec_len w.line-is))
      | in-Mark w ↦ (omega arith, omega (arith, ap array_vec_len w.line-is, number_digits w.in-Mark.fault w.number.result w.number.ensures))
    ]

pub returns-clause-len : goal.returns-clause-len
returns-clause-len c =
    elim c.match-item.branch [
      | in-Character w ↦ omega (arith, ap array_vec_len w.line-is)
      | in-Mark w ↦ omega (arith, ap array_vec_len w.line-is, number_digits w.in-Mark.fault w.number.result w.number.ensures)
    ]
