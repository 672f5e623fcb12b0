use mathlib.Core.List.{map}
use Rattle.forms.specs.Exchange.{i8_of}
use Rattle.laws.proofs.Blocks.{AtMost}
use Rattle.measure_runs.proofs.utf_ebcdic.or16.Given as goal

abbrev pub invariant-loop-byte : goal.invariant-loop-byte
invariant-loop-byte l = AtMost (map i8_of l.fn.src) l.at l.byte-index l.joined
