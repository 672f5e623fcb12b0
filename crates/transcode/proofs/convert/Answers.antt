use Prim.Native.Nat.{◌≤◌}
use mathlib.Core.Path.{refl}
use native.Mathlib.Omega.{arith}
use lib.ListN.{length}
use Rattle.std.specs.Prelude.{Ok}
use Rattle.std.proofs.Common.{rules}
use Rattle.forms.specs.Conversion.{Measures}
use Rattle.laws.proofs.Progress.{CharacterAt, character-onward}
use Rattle.laws.proofs.Writing.{Writing, writing_begin, writing-held, writing_more, writing_run, writing_still}
use Rattle.transcode.proofs.convert.Given.{Over}
use Rattle.transcode.proofs.convert.Goals.{In-Character}
use Rattle.transcode.proofs.convert.Goals as goal

read : (g : Over) (c : In-Character g) → CharacterAt g.F.SourceForm.form (g.F.SourceForm.units c.args.src.now) c.loop-at.at c.in-Character.value c.in-Character.span
read g c = record { inside = omega (arith, c.loop-at-test.true, g.met.F.SourceForm.counted c.args.src.now); is = c.in-Character.ensures }

-- the run took nothing
still :
    (g : Over) (c : In-Character g)
    → Writing g.F.SourceForm.form g.G.TargetForm.form (g.F.SourceForm.units c.args.src.now) (g.G.TargetForm.units c.args.dst.now) c.loop-at.at c.loop-at.written (g.G.TargetForm.units c.write_run-run.new.dst)
still g c = writing_still c.loop-at.invariant c.write_run-run.ensures (omega (arith, c.if-taken-ne0.false))

pub loop-at-init : goal.loop-at-init
loop-at-init g c =
    let measured : Measures g.F.SourceForm.form g.G.TargetForm.form (g.F.SourceForm.units c.args.src.now) (Ok c.in_ok-units.units) = search rules in
    let room : c.in_ok-units.units ≤ length c.args.dst.now = search rules in
    writing_begin measured refl (omega (arith, room, g.met.G.TargetForm.counted c.args.dst.now))

pub loop-at-preserved-then-taken-ne0 : goal.loop-at-preserved-then-taken-ne0
loop-at-preserved-then-taken-ne0 g c = writing_run c.loop-at.invariant c.write_run-run.ensures

pub write-written-requires : goal.write-written-requires
write-written-requires g c =
    let at = goal.at.write-written-requires g c in
    let held = writing-held (still g at.In-Character) (read g at.In-Character) in
    (held.0, omega (arith, held.1, g.met.G.TargetForm.counted c.write_run-run.new.dst))

pub overflow_add-at-in-loop-at : goal.overflow_add-at-in-loop-at
overflow_add-at-in-loop-at g c =
    let character = read g (goal.at.overflow_add-at-in-loop-at g c).In-Character in
    omega (arith, character-onward character, g.met.F.SourceForm.counted c.args.src.now, c.well_formed)

pub loop-at-preserved : goal.loop-at-preserved
loop-at-preserved g c =
    let at = goal.at.loop-at-preserved g c in
    writing_more (still g at.In-Character) (read g at.In-Character) c.write-written.ensures.0 c.write-written.ensures.1
