use native.Mathlib.Omega.{arith}
use Rattle.lossy.proofs.Counting.{room_known}
use Rattle.lossy.proofs.has_room.Goals as goal

pub returns-then-text-min : goal.returns-then-text-min
returns-then-text-min g c =
    let f = g.F.SourceForm in
    let a = c.args in
    let n = g.met.F.SourceForm.counted a.text.now in
    room_known f.form (f.units a.text.now) a.values a.starts (omega (arith, n)) (omega (arith, n))
