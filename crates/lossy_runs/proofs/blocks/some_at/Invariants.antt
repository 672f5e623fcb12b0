use Prim.Native.Nat.{◌-◌}
use Rattle.lossy_runs.specs.ReadOn.{ReadOn}
use Rattle.lossy_runs.proofs.blocks.some_at.Given as goal

abbrev pub invariant-loop-to : goal.invariant-loop-to
invariant-loop-to g l =
    let f = g.F.SourceForm in
    ReadOn f.form (f.units l.text) l.at l.to l.initial.values l.initial.starts l.items l.cell l.values l.starts

abbrev pub decreases-loop-to : goal.decreases-loop-to
decreases-loop-to g l = l.stop - l.to
