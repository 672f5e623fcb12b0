use mathlib.Core.Path.{sym}
use native.Mathlib.Omega.{arith}
use lib.Seq.{length-take-le, take_all}
use Rattle.lines.specs.Listing.{listing}
use borrow.Author.Rules.{rules}
use Rattle.lines.proofs.listing.Goals as goal

pub slice_bounds-list-end : goal.slice_bounds-list-end
slice_bounds-list-end c = sym (length-take-le 4096 c.args.text.now (omega arith))

pub list-requires : goal.list-requires
list-requires c = (omega (arith, length-take-le 4096 c.args.text.now (omega arith)), search rules)

pub returns-then-text-gt4096 : goal.returns-then-text-gt4096
unfolding listing
returns-then-text-gt4096 c = c.list.ensures

pub returns : goal.returns
unfolding listing
returns c = rw (take_all 4096 c.args.text.now c.if-text-gt4096.false) c.list-2.ensures
