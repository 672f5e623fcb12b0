use Prim.Native.Nat.{ℕ, ◌+◌, ◌≤◌, ◌<◌}
use mathlib.Core.Logic.{◌≢◌}
use mathlib.Core.Path.{◌≡◌}
use mathlib.Core.List.{List, []}
use native.Mathlib.Omega.{arith}
use lib.ListN.{length as long, get_or}
use Rattle.forms.specs.Form.{encode, span}
use Rattle.forms.specs.Forms.{utf16, fss_utf}
use Rattle.laws.proofs.Rows.{within_true}
use Rattle.laws.proofs.Progress.{CharacterAt}
use Rattle.laws.proofs.Runs.{Run, run_one, convertible_stands, convertible_character}
use Rattle.laws.proofs.Values.{written_none, written_left, written-room, written_join}
use Rattle.measure_runs.proofs.Utf16Tests.{surrogate_false}
use Rattle.measure_runs.proofs.Utf16Pairs.{alone}
use Rattle.runs_from_utf16.proofs.to_fss_utf.each.Goals.{In-loop-length}
use Rattle.runs_from_utf16.proofs.to_fss_utf.each.Goals as goal

abbrev text : In-loop-length → List ℕ
text c = c.args.src.now

abbrev place : In-loop-length → ℕ
place c = c.args.at + c.loop-length.length

inside : (c : In-loop-length) → place c < long (text c)
inside c = omega (arith, c.loop-length-test.true, c.requires.0)

-- a unit by itself
single : (c : In-loop-length) → (0xD800 ≤ get_or (text c) (place c) 0 → 0xE000 ≤ get_or (text c) (place c) 0) → CharacterAt utf16 (text c) (place c) (get_or (text c) (place c) 0) (span (place c) 1)
single c o = alone (text c) (place c) (inside c) (omega (arith, c.type_inv.src (place c))) o

-- a character may be written
held : (c : In-loop-length) {v k : ℕ} → CharacterAt utf16 (text c) (place c) v (span (place c) k) → encode fss_utf v ≢ []
held c d = convertible_character (written_left c.requires.1 c.loop-length.invariant) d

run : (c : In-loop-length) {v k : ℕ} → CharacterAt utf16 (text c) (place c) v (span (place c) k) → Run utf16 fss_utf (text c) (place c) k (encode fss_utf v)
run c d = run_one d (held c d)

pub loop-length-init : goal.loop-length-init
loop-length-init c = written_none (omega (arith, c.requires.0))

pub one-end-requires : goal.one-end-requires
one-end-requires c =
    let i = (goal.at.one-end-requires c).In-loop-length in
    let one = single i (λ h. absurd (omega (arith, h, c.if-unit-lt128.true))) in
    (omega (arith, c.from.ensures, c.if-unit-lt128.true), rw c.from.ensures (written-room c.requires.1 c.loop-length.invariant (run i one)))

pub loop-length-preserved-then-unit-lt128 : goal.loop-length-preserved-then-unit-lt128
loop-length-preserved-then-unit-lt128 c =
    let i = (goal.at.loop-length-preserved-then-unit-lt128 c).In-loop-length in
    let one = single i (λ h. absurd (omega (arith, h, c.if-unit-lt128.true))) in
    let e = c.from.ensures in
    let w = c.one-end.ensures in
    written_join c.requires.1 c.loop-length.invariant (run i one) (rw e at w.0) (rw e at w.1)

pub two-end-requires : goal.two-end-requires
two-end-requires c =
    let i = (goal.at.two-end-requires c).In-loop-length in
    let two = single i (λ h. absurd (omega (arith, h, c.if-unit-lt2048.true))) in
    let e = c.from-then-unit-lt2048.ensures in
    (omega (arith, e, c.if-unit-lt128.false), omega (arith, e, c.if-unit-lt2048.true), rw e (written-room c.requires.1 c.loop-length.invariant (run i two)))

pub loop-length-preserved-then-unit-lt2048 : goal.loop-length-preserved-then-unit-lt2048
loop-length-preserved-then-unit-lt2048 c =
    let i = (goal.at.loop-length-preserved-then-unit-lt2048 c).In-loop-length in
    let two = single i (λ h. absurd (omega (arith, h, c.if-unit-lt2048.true))) in
    let e = c.from-then-unit-lt2048.ensures in
    let w = c.two-end.ensures in
    written_join c.requires.1 c.loop-length.invariant (run i two) (rw e at w.0) (rw e at w.1)

pub three-end-requires : goal.three-end-requires
three-end-requires c =
    let i = (goal.at.three-end-requires c).In-loop-length in
    let three = single i (surrogate_false _ (rw c.surrogate.ensures at c.if-not-surrogate.true)) in
    let e = c.from-then-not-surrogate.ensures in (
      rw e (held i three),
      omega (arith, e, c.if-unit-lt2048.false),
      omega (arith, e, c.type_inv.src (place i)),
      rw e (written-room c.requires.1 c.loop-length.invariant (run i three)),
    )

pub loop-length-preserved-then-not-surrogate : goal.loop-length-preserved-then-not-surrogate
loop-length-preserved-then-not-surrogate c =
    let i = (goal.at.loop-length-preserved-then-not-surrogate c).In-loop-length in
    let three = single i (surrogate_false _ (rw c.surrogate.ensures at c.if-not-surrogate.true)) in
    let e = c.from-then-not-surrogate.ensures in
    let w = c.three-end.ensures in
    written_join c.requires.1 c.loop-length.invariant (run i three) (rw e at w.0) (rw e at w.1)

pub pair-requires : goal.pair-requires
pair-requires c =
    let b = within_true 0xD800 0xDFFF _ (rw c.surrogate.ensures at c.if-not-surrogate.false) in
    (convertible_stands (inside (goal.at.pair-requires c).In-loop-length) (written_left c.requires.1 c.loop-length.invariant), b.0, omega (arith, b.1))

pub four-end-requires : goal.four-end-requires
four-end-requires c =
    let d = c.pair.ensures in
    (d.1, omega (arith, d.2), written-room c.requires.1 c.loop-length.invariant (run (goal.at.four-end-requires c).In-loop-length d.0))

pub loop-length-preserved : goal.loop-length-preserved
loop-length-preserved c =
    let w = c.four-end.ensures in
    let both : c.loop-length.length + 2 ≡ c.loop-length.length + 1 + 1 = omega arith in
    rw both at (written_join c.requires.1 c.loop-length.invariant (run (goal.at.loop-length-preserved c).In-loop-length c.pair.ensures.0) w.0 w.1)
