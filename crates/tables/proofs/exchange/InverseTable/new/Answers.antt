-- The table computes to the values of the rule.
use Rattle.forms.specs.Exchange.{ebcdic_of}
use Rattle.laws.proofs.Table.{tabulated}
use Rattle.tables.proofs.exchange.InverseTable.new.Goals as goal

pub invariant_of-result : goal.invariant_of-result
invariant_of-result c = record { tabulates = record { each = tabulated 0x100 ebcdic_of } }
