use Rattle.std.proofs.lemmas.Option.{IfSome_then}
use Rattle.measure_runs.proofs.TargetWeights.{utf16-strict_weighs, ucs4-strict_weighs, utf_ebcdic-strict_weighs}
use Rattle.measure_runs.proofs.fss_utf.weighed.Goals as goal

pub returns-in-UtfEbcdic : goal.returns-in-UtfEbcdic
returns-in-UtfEbcdic c = rw c.in-UtfEbcdic.is (IfSome_then c.valid.result c.valid.ensures (λ run w. w.counts _ utf_ebcdic-strict_weighs))

pub returns-in-Utf16 : goal.returns-in-Utf16
returns-in-Utf16 c = rw c.in-Utf16.is (IfSome_then c.valid-in-Utf16.result c.valid-in-Utf16.ensures (λ run w. w.counts _ utf16-strict_weighs))

pub returns-in-Ucs4 : goal.returns-in-Ucs4
returns-in-Ucs4 c = rw c.in-Ucs4.is (IfSome_then c.valid-in-Ucs4.result c.valid-in-Ucs4.ensures (λ run w. w.counts _ ucs4-strict_weighs))
