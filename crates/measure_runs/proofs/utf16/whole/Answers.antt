use Rattle.measure_runs.specs.Utf16Units.{bytes_of, ebcdic_of, values_of}
use Rattle.measure_runs.proofs.Utf16Counting.{counted_bytes, counted_ebcdic, counted-values}
use native.Mathlib.Omega.{arith}
use Rattle.measure_runs.proofs.utf16.whole.Goals as goal

pub returns-in-FssUtf : goal.returns-in-FssUtf
returns-in-FssUtf c = rw (c.in-FssUtf.is, c.sum.ensures bytes_of (λ u r p. p.0))
    (counted_bytes c.args.src.now c.args.at c.args.count (λ i. omega (arith, c.type_inv.src i)) c.requires.1 c.requires.2)

pub returns-in-UtfEbcdic : goal.returns-in-UtfEbcdic
returns-in-UtfEbcdic c = rw (c.in-UtfEbcdic.is, c.sum-in-UtfEbcdic.ensures ebcdic_of (λ u r p. p.0))
    (counted_ebcdic c.args.src.now c.args.at c.args.count (λ i. omega (arith, c.type_inv.src i)) c.requires.1 c.requires.2)

pub returns-in-Ucs4 : goal.returns-in-Ucs4
returns-in-Ucs4 c = rw (c.in-Ucs4.is, c.sum-in-Ucs4.ensures values_of (λ u r p. p.0))
    (counted-values c.args.src.now c.args.at c.args.count (λ i. omega (arith, c.type_inv.src i)) c.requires.1 c.requires.2)
