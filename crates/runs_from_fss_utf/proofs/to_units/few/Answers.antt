use Prim.Native.Nat.{◌+◌, ◌*◌, ◌<◌}
use mathlib.Core.Path.{◌≡◌, refl}
use mathlib.Core.List.{[], ◌∷◌}
use lib.ListN.{length}
use Rattle.forms.specs.Form.{span, encode}
use Rattle.forms.specs.Forms.{fss_utf}
use Rattle.laws.proofs.Progress.{CharacterAt, character-onward}
use Rattle.laws.proofs.Runs.{Stands, writing_run_begin, writing_run_stands, writing_run_held, writing_run_more}
use Rattle.runs_from_fss_utf.proofs.KnownBytes.{bytes_one, bytes_two, bytes_three, inside-three}
use Rattle.runs_from_fss_utf.proofs.WideRuns.{unit_room, unit_more}
use native.Mathlib.Omega.{arith}
use Rattle.runs_from_fss_utf.proofs.to_units.few.Goals.{In-loop-length, After-from-then-lead-lt224, After-from-then-lead-lt240}
use Rattle.runs_from_fss_utf.proofs.to_units.few.Goals as goal

stands : (g : _) (c : In-loop-length g) → Stands fss_utf c.args.src.now (c.args.at + c.loop-length.length)
stands g c = writing_run_stands c.loop-length.invariant (omega (arith, c.loop-length-test.true, c.min-room.ensures))

two : (g : _) (c : After-from-then-lead-lt224 g) → let p = c.args.at + c.loop-length.length in CharacterAt fss_utf c.args.src.now p (c.from-then-lead-lt224.result * 64 + c.free_bits-a.result) (span p 2)
two g c =
    let p = c.args.at + c.loop-length.length in
    let stands : Stands fss_utf c.args.src.now p = writing_run_stands c.loop-length.invariant (omega (arith, c.loop-length-test.true, c.min-room.ensures)) in
    rw (c.from-then-lead-lt224.ensures, c.free_bits-a.ensures) (bytes_two c.args.src.now p stands c.if-lead-lt128.false c.if-lead-lt224.true).here

two_alone : (g : _) (c : After-from-then-lead-lt224 g) → let v = c.from-then-lead-lt224.result * 64 + c.free_bits-a.result in encode g.F.TargetForm.form v ≡ v ∷ []
two_alone g c = g.met.F.WideForm.below _ (omega (arith, c.from-then-lead-lt224.ensures, c.if-lead-lt224.true, c.free_bits-a.ensures))

two_room : (g : _) (c : After-from-then-lead-lt224 g) → c.args.written + c.loop-length.units < length c.loop-length.dst
two_room g c = unit_room c.loop-length.invariant (two g c) (two_alone g c) (g.met.F.TargetForm.counted _)

three : (g : _) (c : After-from-then-lead-lt240 g) → let p = c.args.at + c.loop-length.length in CharacterAt fss_utf c.args.src.now p ((c.from-then-lead-lt240.result * 64 + c.free_bits-a.result) * 64 + c.free_bits-b.result) (span p 3)
three g c =
    let p = c.args.at + c.loop-length.length in
    let stands : Stands fss_utf c.args.src.now p = writing_run_stands c.loop-length.invariant (omega (arith, c.loop-length-test.true, c.min-room.ensures)) in
    rw (c.from-then-lead-lt240.ensures, c.free_bits-a.ensures, c.free_bits-b.ensures) (bytes_three c.args.src.now p stands c.if-lead-lt224.false c.if-lead-lt240.true).here

three_alone : (g : _) (c : After-from-then-lead-lt240 g) → let v = (c.from-then-lead-lt240.result * 64 + c.free_bits-a.result) * 64 + c.free_bits-b.result in encode g.F.TargetForm.form v ≡ v ∷ []
three_alone g c =
    g.met.F.WideForm.short _ (omega (arith, c.from-then-lead-lt240.ensures, c.if-lead-lt240.true, c.free_bits-a.ensures, c.free_bits-b.ensures)) (writing_run_held c.loop-length.invariant (three g c)).0

three_room : (g : _) (c : After-from-then-lead-lt240 g) → c.args.written + c.loop-length.units < length c.loop-length.dst
three_room g c = unit_room c.loop-length.invariant (three g c) (three_alone g c) (g.met.F.TargetForm.counted _)

pub loop-length-init : goal.loop-length-init
loop-length-init g c = writing_run_begin c.requires.0 (rw (g.met.F.TargetForm.counted _) c.requires.1)

pub loop-length-preserved-then-lead-lt128 : goal.loop-length-preserved-then-lead-lt128
loop-length-preserved-then-lead-lt128 g c =
    let s = stands g (goal.at.loop-length-preserved-then-lead-lt128 g c).In-loop-length in
    unit_more c.loop-length.invariant (bytes_one _ _ s c.if-lead-lt128.true).here (g.met.F.WideForm.below _ (omega (arith, c.if-lead-lt128.true))) c.put_value.ensures c.from.ensures

pub put_value-requires-then-lead-lt224 : goal.put_value-requires-then-lead-lt224
put_value-requires-then-lead-lt224 g c = two_room g (goal.at.put_value-requires-then-lead-lt224 g c).After-from-then-lead-lt224

pub overflow_add-units-then-lead-lt224 : goal.overflow_add-units-then-lead-lt224
overflow_add-units-then-lead-lt224 g c = omega (arith, two_room g (goal.at.overflow_add-units-then-lead-lt224 g c).After-from-then-lead-lt224, c.loop-length.auto.dst, c.well_formed)

pub loop-length-preserved-then-lead-lt224 : goal.loop-length-preserved-then-lead-lt224
loop-length-preserved-then-lead-lt224 g c =
    let d = (goal.at.loop-length-preserved-then-lead-lt224 g c).After-from-then-lead-lt224 in
    unit_more c.loop-length.invariant (two g d) (two_alone g d) c.put_value-then-lead-lt224.ensures refl

pub bounds-src-from-in-loop-length-2 : goal.bounds-src-from-in-loop-length-2
bounds-src-from-in-loop-length-2 g c = inside-three _ _ (stands g (goal.at.bounds-src-from-in-loop-length-2 g c).In-loop-length) c.if-lead-lt224.false

pub put_value-requires-then-lead-lt240 : goal.put_value-requires-then-lead-lt240
put_value-requires-then-lead-lt240 g c = three_room g (goal.at.put_value-requires-then-lead-lt240 g c).After-from-then-lead-lt240

pub overflow_add-units-then-lead-lt240 : goal.overflow_add-units-then-lead-lt240
overflow_add-units-then-lead-lt240 g c = omega (arith, three_room g (goal.at.overflow_add-units-then-lead-lt240 g c).After-from-then-lead-lt240, c.loop-length.auto.dst, c.well_formed)

pub loop-length-preserved-then-lead-lt240 : goal.loop-length-preserved-then-lead-lt240
loop-length-preserved-then-lead-lt240 g c =
    let d = (goal.at.loop-length-preserved-then-lead-lt240 g c).After-from-then-lead-lt240 in
    unit_more c.loop-length.invariant (three g d) (three_alone g d) c.put_value-then-lead-lt240.ensures refl

pub known_at-requires : goal.known_at-requires
known_at-requires g c = stands g (goal.at.known_at-requires g c).In-loop-length

pub write-end-requires : goal.write-end-requires
write-end-requires g c = let h = writing_run_held c.loop-length.invariant c.in-Some.ensures in (h.0, rw (g.met.F.TargetForm.counted _) at h.1)

pub overflow_add-length-in-loop-length : goal.overflow_add-length-in-loop-length
overflow_add-length-in-loop-length g c = omega (arith, (character-onward c.in-Some.ensures).1, c.well_formed)

pub loop-length-preserved : goal.loop-length-preserved
loop-length-preserved g c = writing_run_more c.loop-length.invariant c.in-Some.ensures c.write-end.ensures.0 c.write-end.ensures.1

pub loop-length-smaller : goal.loop-length-smaller
loop-length-smaller g c = omega (arith, character-onward c.in-Some.ensures, c.loop-length-test.true)
