use Prim.Native.Nat.{◌+◌, ◌<◌}
use lib.ListN.{length, get_or}
use Rattle.forms.specs.Exchange.{i8_of}
use Rattle.forms.specs.Forms.{utf_ebcdic, strictly}
use Rattle.laws.proofs.Progress.{character-value}
use Rattle.laws.proofs.Runs.{Counted, counted_join}
use Rattle.laws.proofs.FourForms.{utf_ebcdic_laws}
use Rattle.encoder.specs.Target.{target_form}
use Rattle.encoder.proofs.Targets.{counted_ascii, counted_more}
use Rattle.measure_runs.proofs.UtfEbcdicExchanging.{single_at}
use native.Mathlib.Omega.{arith}
use Rattle.measure_runs.proofs.utf_ebcdic.few.Goals.{Else-needed-eq0}
use Rattle.measure_runs.proofs.utf_ebcdic.few.Goals as goal

turned : (c : Else-needed-eq0) → let z = c.args in
    Counted utf_ebcdic (strictly (target_form z.target)) z.src.now z.at (c.loop-length.length + c.in-Some.character.length) (c.loop-length.units + c.encoded_length-needed.result)
turned c = counted_more c.args.target c.loop-length.invariant c.in-Some.ensures c.encoded_length-needed.ensures c.if-needed-eq0.false

pub loop-length-preserved-then-get-lt128 : goal.loop-length-preserved-then-get-lt128
loop-length-preserved-then-get-lt128 c =
    let p = c.args.at + c.loop-length.length in
    let h : p < length c.args.src.now = omega (arith, c.min-room.ensures, c.loop-length-test.true, c.requires.0) in
    let l : i8_of (get_or c.args.src.now p 0) < 0x80 = omega (arith, c.get.ensures, c.if-get-lt128.true) in
    counted_join c.loop-length.invariant (counted_ascii c.args.target (single_at c.args.src.now p h (omega arith)) l)

pub encoded_length-needed-requires : goal.encoded_length-needed-requires
encoded_length-needed-requires c = character-value utf_ebcdic_laws c.in-Some.ensures

pub overflow_add-length-in-loop-length : goal.overflow_add-length-in-loop-length
overflow_add-length-in-loop-length c = omega (arith, (turned (goal.at.overflow_add-length-in-loop-length c).Else-needed-eq0).run.inside, c.requires.1)

pub overflow_add-units-in-loop-length : goal.overflow_add-units-in-loop-length
overflow_add-units-in-loop-length c = omega (arith, (turned (goal.at.overflow_add-units-in-loop-length c).Else-needed-eq0).small, (turned (goal.at.overflow_add-units-in-loop-length c).Else-needed-eq0).run.inside, c.requires.1)

pub loop-length-preserved : goal.loop-length-preserved
loop-length-preserved c = turned (goal.at.loop-length-preserved c).Else-needed-eq0
