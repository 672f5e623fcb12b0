use Rattle.std.proofs.Common.{◌≡◌, ◌+◌, ◌-◌, length, take, arith, rules, length-take}
use Rattle.listing.proofs.Reading.{consumed_end, consumed_most, consumed_more, same_cells}
use borrow.Rule.Slice.PartMut.{put_mid}
use Rattle.listing.proofs.read_text.Goals as goal

pub returns-then-more-eq0-clause-first : goal.returns-then-more-eq0-clause-first
returns-then-more-eq0-clause-first g c =
    let l = c.loop-n in
    let read = c.in_ok-more in
    let text = put_mid l.n (4096 - l.n) l.text c.read.new.buf in
    let room : length c.read.new.buf ≡ 4096 - l.n = search rules in
    consumed_end _ _ (take l.n text) 4096
    (consumed_more _ _ _ l.n (4096 - l.n) read.more l.n l.text c.read.new.buf (omega arith) (omega arith) (omega arith) l.invariant.given
    read.ensures.bytes.0)
    (read.ensures.bytes.1 c.if-more-eq0.true (omega arith)) (omega (arith, length-take l.n text))

pub loop-n-preserved : goal.loop-n-preserved
loop-n-preserved g c =
    let l = c.loop-n in
    let read = c.in_ok-more in
    let room : length c.read.new.buf ≡ 4096 - l.n = search rules in
    record {
      fits = omega (arith, read.ensures.bound);
      cells = omega (arith, same_cells l.n (4096 - l.n) l.text c.read.new.buf (omega arith) room);
      given =
          consumed_more _ _ _ l.n (4096 - l.n) read.more (l.n + read.more) l.text c.read.new.buf (omega arith)
          (omega (arith, read.ensures.bound)) (omega arith) l.invariant.given read.ensures.bytes.0;
    }

pub returns-clause-first : goal.returns-clause-first
returns-clause-first g c =
    let l = c.loop-n in
    consumed_most _ _ (take l.n l.text) 4096 l.invariant.given (omega (arith, length-take l.n l.text))
