use native.Mathlib.Omega.{arith}
use Rattle.laws.proofs.FourForms.{utf16_laws}
use Rattle.laws.proofs.Progress.{character-value}
use Rattle.laws.proofs.Runs.{run_one, convertible_stands, convertible_character}
use Rattle.laws.proofs.Values.{written_none, written_left, written-room, written_join}
use Rattle.runs_from_utf16.proofs.to_ucs4.each.Goals as goal

pub loop-length-init : goal.loop-length-init
loop-length-init c = written_none (omega (arith, c.requires.0))

pub decode-next-requires : goal.decode-next-requires
decode-next-requires c = convertible_stands (omega (arith, c.loop-length-test.true, c.requires.0)) (written_left c.requires.1 c.loop-length.invariant)

pub write-end-requires : goal.write-end-requires
write-end-requires c = let d = c.decode-next.ensures in
    (character-value utf16_laws d, written-room c.requires.1 c.loop-length.invariant (run_one d (convertible_character (written_left c.requires.1 c.loop-length.invariant) d)))

pub loop-length-preserved : goal.loop-length-preserved
loop-length-preserved c = let d = c.decode-next.ensures in
    let w = c.write-end.ensures in
    written_join c.requires.1 c.loop-length.invariant (run_one d (convertible_character (written_left c.requires.1 c.loop-length.invariant) d)) w.0 w.1
