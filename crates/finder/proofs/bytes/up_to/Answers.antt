use Rattle.finder.proofs.Seeking.{nearest_part}
use Rattle.finder.proofs.bytes.up_to.Goals as goal

pub returns : goal.returns
returns c = let a = c.args in nearest_part a.text.now a.offset c.saturating_sub.result a.count c.requires c.saturating_sub.ensures
