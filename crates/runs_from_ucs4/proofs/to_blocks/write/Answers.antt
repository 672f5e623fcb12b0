use Rattle.std.proofs.Common.{◌+◌, ◌-◌, ◌≤◌, length, arith}
use Rattle.laws.proofs.Values.{wrote_encoded}
use Rattle.encoder.proofs.Parts.{part_encodable, part_room, part_encoded}
use Rattle.measure_runs.proofs.Ucs4Units.{units_run, units_encodable, units-room}
use Rattle.runs_from_ucs4.proofs.to_blocks.write.Goals as goal

pub write_all-end-requires : goal.write_all-end-requires
write_all-end-requires g c =
    let a = c.args in
    let s = a.src.now in
    let k = length s - a.at in
    let h : a.at + k ≤ length s = omega (arith, c.requires.0) in
    (part_encodable s a.at k h (units_encodable c.requires.1 k h), part_room s a.at k h (units-room c.requires.1 k h))

pub returns : goal.returns
returns g c =
    let a = c.args in
    let s = a.src.now in
    let k = length s - a.at in
    let h : a.at + k ≤ length s = omega (arith, c.requires.0) in
    wrote_encoded (units_run c.requires.1 k h) (part_encoded s a.at k h c.write_all-end.ensures)
