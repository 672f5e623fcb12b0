use Rattle.std.proofs.Common.{◌+◌, get_or, arith}
use Rattle.forms.specs.Form.{span}
use Rattle.forms.specs.Forms.{ucs4}
use Rattle.laws.proofs.Progress.{CharacterAt}
use Rattle.laws.proofs.Runs.{writing_run_begin, writing_run_stands, writing_run_held, writing_run_more}
use Rattle.runs_from_ucs4.proofs.Units.{unit_stands, rest_inside, rest_value}
use Rattle.runs_from_ucs4.proofs.to_utf_ebcdic.write.Goals.{In-loop-value}
use Rattle.runs_from_ucs4.proofs.to_utf_ebcdic.write.Goals as goal

read : (c : In-loop-value) → (let p = c.args.at + c.loop-value.value-index in CharacterAt ucs4 c.args.src.now p (get_or c.args.src.now p 0) (span p 1))
read c =
    let a = c.args in
    unit_stands (writing_run_stands c.loop-value.invariant (rest_inside a.src.now a.at c.loop-value.value-index c.loop-value-test.true))

pub loop-value-init : goal.loop-value-init
loop-value-init c = writing_run_begin (omega (arith, c.requires.0)) c.requires.1

pub write-end-requires : goal.write-end-requires
write-end-requires c =
    let a = c.args in
    let e = rest_value a.src.now a.at c.loop-value.value-index c.loop-value-test.true in
    let h = writing_run_held c.loop-value.invariant (read (goal.at.write-end-requires c).In-loop-value) in
    rw e (h.0, h.1)

pub loop-value-preserved : goal.loop-value-preserved
loop-value-preserved c =
    let a = c.args in
    let e = rest_value a.src.now a.at c.loop-value.value-index c.loop-value-test.true in
    let w = c.write-end.ensures in
    writing_run_more c.loop-value.invariant (read (goal.at.loop-value-preserved c).In-loop-value) (rw e at w.0) (rw e at w.1)
