use Prim.Native.Nat.{◌+◌}
use native.Mathlib.Omega.{arith}
use Rattle.encoder.specs.Target.{target_form}
use Rattle.encoder.proofs.Targets.{encode_seven, refused_by_lem}
use Rattle.laws.proofs.Progress.{CharacterAt, character-value, character-onward}
use Rattle.laws.proofs.Measuring.{Measuring, measuring-unheld, measuring_more, measuring_run}
use Rattle.measure.proofs.measure.Given.{Over}
use Rattle.measure.proofs.measure.Goals.{In-Character, Else-length-eq0}
use Rattle.measure.proofs.measure.Goals as goal

read : (g : Over) (c : In-Character g) → CharacterAt g.F.SourceForm.form (g.F.SourceForm.units c.args.src.now) c.loop-at.at c.in-Character.value c.in-Character.span
read g c = record { inside = omega (arith, c.loop-at-test.true, g.met.F.SourceForm.counted c.args.src.now); is = c.in-Character.ensures }

turned :
    (g : Over) (c : Else-length-eq0 g)
    → CharacterAt g.F.SourceForm.form (g.F.SourceForm.units c.args.src.now) c.loop-at.at c.in-Character.value c.in-Character.span
    → Measuring g.F.SourceForm.form (target_form c.args.target) (g.F.SourceForm.units c.args.src.now) (c.loop-at.at + c.in-Character.span.length) (c.loop-at.units + c.encoded_length-length.result)
turned g c character =
    measuring_more c.loop-at.invariant character c.encoded_length-length.ensures c.if-length-eq0.false (encode_seven c.args.target c.in-Character.value)

pub loop-at-preserved-then-taken-ne0 : goal.loop-at-preserved-then-taken-ne0
loop-at-preserved-then-taken-ne0 g c = measuring_run c.loop-at.invariant c.count_run-run.ensures

pub encoded_length-length-requires : goal.encoded_length-length-requires
encoded_length-length-requires g c = character-value g.met.F.SourceForm.laws (read g (goal.at.encoded_length-length-requires g c).In-Character)

pub returns-then-length-eq0 : goal.returns-then-length-eq0
returns-then-length-eq0 g c =
    let character = read g (goal.at.returns-then-length-eq0 g c).In-Character in
    measuring-unheld c.loop-at.invariant character c.encoded_length-length.ensures c.if-length-eq0.true
    (refused_by_lem c.args.target g.met.F.SourceForm.laws character c.refusal-then-length-eq0.ensures)

pub overflow_add-units-in-loop-at : goal.overflow_add-units-in-loop-at
overflow_add-units-in-loop-at g c =
    let at = goal.at.overflow_add-units-in-loop-at g c in
    let m = turned g at.Else-length-eq0 (read g at.In-Character) in
    omega (arith, m.small, m.progress.within, m.short)

pub overflow_add-at-in-loop-at : goal.overflow_add-at-in-loop-at
overflow_add-at-in-loop-at g c =
    let character = read g (goal.at.overflow_add-at-in-loop-at g c).In-Character in
    omega (arith, character-onward character, c.loop-at.invariant.short)

pub loop-at-preserved : goal.loop-at-preserved
loop-at-preserved g c =
    let at = goal.at.loop-at-preserved g c in
    turned g at.Else-length-eq0 (read g at.In-Character)
