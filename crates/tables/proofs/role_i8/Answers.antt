use Rattle.std.proofs.Common.{rules}
use Rattle.tables.proofs.Agreement.{flag_zero, flag_nine, flag_lead}
use Rattle.tables.proofs.role_i8.Goals as goal

pub returns-in-0 : goal.returns-in-0
returns-in-0 c = flag_zero c.args.plain c.flag.result (search rules) c.flag.ensures c.in-0.is

pub returns-in-9 : goal.returns-in-9
returns-in-9 c = flag_nine c.args.plain c.flag.result (search rules) c.flag.ensures c.in-9.is

pub returns-in_default : goal.returns-in_default
returns-in_default c = rw c.from.ensures (flag_lead c.args.plain c.flag.result (search rules) c.flag.ensures (search rules) (search rules))
