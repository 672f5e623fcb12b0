use Prim.Native.Nat.{◌+◌}
use Rattle.forms.specs.Form.{span}
use Rattle.forms.specs.Forms.{fss_utf}
use Rattle.laws.proofs.Progress.{CharacterAt, character-onward}
use Rattle.laws.proofs.Runs.{writing_run_begin, writing_run_stands, writing_run_held, writing_run_more}
use Rattle.measure_runs.proofs.FssUtfAsciiCounting.{ascii_at}
use native.Mathlib.Omega.{arith}
use Rattle.runs_from_fss_utf.proofs.to_utf_ebcdic.write.Goals as goal

pub loop-length-init : goal.loop-length-init
loop-length-init c = writing_run_begin (omega (arith, c.requires.0)) c.requires.1

pub write-end-requires : goal.write-end-requires
write-end-requires c =
    let p = c.args.at + c.loop-length.length in
    let a : CharacterAt fss_utf c.args.src.now p c.from.result (span p 1) = rw c.from.ensures (ascii_at c.args.src.now p (omega (arith, c.loop-length-test.true, c.requires.0)) c.if-lead-lt128.true) in
    let h = writing_run_held c.loop-length.invariant a in
    (h.0, h.1)

pub loop-length-preserved-then-lead-lt128 : goal.loop-length-preserved-then-lead-lt128
loop-length-preserved-then-lead-lt128 c =
    let p = c.args.at + c.loop-length.length in
    let a : CharacterAt fss_utf c.args.src.now p c.from.result (span p 1) = rw c.from.ensures (ascii_at c.args.src.now p (omega (arith, c.loop-length-test.true, c.requires.0)) c.if-lead-lt128.true) in
    writing_run_more c.loop-length.invariant a c.write-end.ensures.0 c.write-end.ensures.1

pub known_at-requires : goal.known_at-requires
known_at-requires c = writing_run_stands c.loop-length.invariant (omega (arith, c.loop-length-test.true, c.requires.0))

pub write-end-requires-in-loop-length : goal.write-end-requires-in-loop-length
write-end-requires-in-loop-length c =
    let h = writing_run_held c.loop-length.invariant c.in-Some.ensures in
    (h.0, h.1)

pub overflow_add-length-in-loop-length : goal.overflow_add-length-in-loop-length
overflow_add-length-in-loop-length c = omega (arith, (character-onward c.in-Some.ensures).1, c.well_formed)

pub loop-length-preserved : goal.loop-length-preserved
loop-length-preserved c = writing_run_more c.loop-length.invariant c.in-Some.ensures c.write-end-in-loop-length.ensures.0 c.write-end-in-loop-length.ensures.1

pub loop-length-smaller : goal.loop-length-smaller
loop-length-smaller c = omega (arith, character-onward c.in-Some.ensures, c.loop-length-test.true)
