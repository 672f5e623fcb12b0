use Rattle.runs_from_fss_utf.proofs.ShortRuns.{NoLonger}
use Rattle.runs_from_fss_utf.proofs.short_blocks.longer64.Given as goal

abbrev pub invariant-loop-byte : goal.invariant-loop-byte
invariant-loop-byte l = NoLonger l.fn.src l.at l.byte-index l.found
