use Rattle.runs_from_fss_utf.proofs.ShortRuns.{ShortRun}
use Rattle.runs_from_fss_utf.proofs.to_units.short64.Given as goal

abbrev pub invariant-loop-k : goal.invariant-loop-k
invariant-loop-k g l = let f = g.F.TargetForm in ShortRun f.form l.src l.at l.written (f.units l.initial.dst) l.k l.to (f.units l.dst)
