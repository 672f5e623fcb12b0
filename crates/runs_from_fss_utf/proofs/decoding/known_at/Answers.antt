use Rattle.runs_from_fss_utf.proofs.KnownBytes.{bytes_two, bytes_three, bytes_four, inside-three}
use Rattle.runs_from_fss_utf.proofs.decoding.known_at.Goals as goal

pub returns-then-lead-lt224 : goal.returns-then-lead-lt224
returns-then-lead-lt224 c = rw (c.from-then-lead-lt224.ensures, c.from-a.ensures) (bytes_two c.args.src.now c.args.at c.requires c.if-lead-lt128.false c.if-lead-lt224.true).here

pub bounds-src-at-3 : goal.bounds-src-at-3
bounds-src-at-3 c = inside-three c.args.src.now c.args.at c.requires c.if-lead-lt224.false

pub returns-then-lead-lt240 : goal.returns-then-lead-lt240
returns-then-lead-lt240 c = rw (c.from-then-lead-lt240.ensures, c.from-b.ensures, c.from-a.ensures) (bytes_three c.args.src.now c.args.at c.requires c.if-lead-lt224.false c.if-lead-lt240.true).here

pub bounds-src-at-4 : goal.bounds-src-at-4
bounds-src-at-4 c = (bytes_four c.args.src.now c.args.at c.requires c.if-lead-lt240.false c.if-lead-ge248.false).inside

pub returns : goal.returns
returns c = rw (c.from-2.ensures, c.from-c.ensures, c.from-b.ensures, c.from-a.ensures) (bytes_four c.args.src.now c.args.at c.requires c.if-lead-lt240.false c.if-lead-ge248.false).here
