use Rattle.laws.proofs.Blocks.{AtMost, Held, Copied}
use Rattle.runs_from_fss_utf.proofs.to_units.copy16.Given as goal

abbrev pub invariant-loop-i : goal.invariant-loop-i
invariant-loop-i g l = AtMost l.src l.at l.i l.joined × Held (λ x. x) l.src l.at 16 l.i l.block

abbrev pub invariant-loop-k : goal.invariant-loop-k
invariant-loop-k g l = let f = g.F.TargetForm in Copied (f.units l.initial.dst) l.written 16 l.block l.k (f.units l.dst)
