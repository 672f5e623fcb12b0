use mathlib.Core.Path.{sym}
use native.Mathlib.Omega.{arith}
use Rattle.tables.proofs.ByteLayouts.{encode-length}
use Rattle.encoder.proofs.Lengths.{rows, seven_bytes}
use Rattle.encoder.proofs.bytes.encoded_length.Goals as goal

pub returns-then-value-lowest-6 : goal.returns-then-value-lowest-6
returns-then-value-lowest-6 c = sym (encode-length c.args.form c.args.value c.requires 5 (omega (arith, rows c.args.form)) (omega (arith, c.lowest-5.ensures, c.if-value-lowest-5.false)) (omega (arith, c.lowest-6.ensures, c.if-value-lowest-6.true)))

pub returns : goal.returns
returns c = seven_bytes c.args.form c.args.value c.requires (omega (arith, c.lowest-6.ensures, c.if-value-lowest-6.false))
