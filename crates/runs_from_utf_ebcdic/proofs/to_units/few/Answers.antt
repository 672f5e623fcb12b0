use Prim.Native.Nat.{◌+◌, ◌<◌}
use lib.ListN.{length, get_or}
use Rattle.forms.specs.Form.{span}
use Rattle.forms.specs.Exchange.{i8_of}
use Rattle.forms.specs.Forms.{utf_ebcdic}
use Rattle.laws.proofs.Progress.{CharacterAt, character-onward}
use Rattle.laws.proofs.Runs.{writing_run_stands, writing_run_held, writing_run_more}
use Rattle.measure_runs.proofs.UtfEbcdicExchanging.{single_at}
use native.Mathlib.Omega.{arith}
use Rattle.runs_from_utf_ebcdic.proofs.to_units.few.Goals.{After-from}
use Rattle.runs_from_utf_ebcdic.proofs.to_units.few.Goals as goal

alone : (g : _) (c : After-from g) → let z = c.args in
    let p = z.at + c.loop-length.length in
    CharacterAt utf_ebcdic z.src.now p c.from.result (span p 1)
alone g c =
    let p = c.args.at + c.loop-length.length in
    let h : p < length c.args.src.now = omega (arith, c.loop-length-test.true, c.min-room.ensures, c.requires.0) in
    let l : i8_of (get_or c.args.src.now p 0) < 0xA0 = omega (arith, c.get-lead.ensures, c.if-lead-lt128.true) in
    rw (c.from.ensures, c.get-lead.ensures) (single_at c.args.src.now p h l)

pub write-end-requires : goal.write-end-requires
write-end-requires g c = let h = writing_run_held c.loop-length.invariant (alone g (goal.at.write-end-requires g c).After-from) in (h.0, rw (g.met.F.TargetForm.counted _) at h.1)

pub loop-length-preserved-then-lead-lt128 : goal.loop-length-preserved-then-lead-lt128
loop-length-preserved-then-lead-lt128 g c = writing_run_more c.loop-length.invariant (alone g (goal.at.loop-length-preserved-then-lead-lt128 g c).After-from) c.write-end.ensures.0 c.write-end.ensures.1

pub known_at-requires : goal.known_at-requires
known_at-requires g c = writing_run_stands c.loop-length.invariant (omega (arith, c.loop-length-test.true, c.min-room.ensures, c.requires.0))

pub write-end-requires-in-loop-length : goal.write-end-requires-in-loop-length
write-end-requires-in-loop-length g c = let h = writing_run_held c.loop-length.invariant c.in-Some.ensures in (h.0, rw (g.met.F.TargetForm.counted _) at h.1)

pub overflow_add-length-in-loop-length : goal.overflow_add-length-in-loop-length
overflow_add-length-in-loop-length g c = omega (arith, (character-onward c.in-Some.ensures).1, c.well_formed)

pub loop-length-preserved : goal.loop-length-preserved
loop-length-preserved g c = writing_run_more c.loop-length.invariant c.in-Some.ensures c.write-end-in-loop-length.ensures.0 c.write-end-in-loop-length.ensures.1

pub loop-length-smaller : goal.loop-length-smaller
loop-length-smaller g c = omega (arith, character-onward c.in-Some.ensures, c.loop-length-test.true)
