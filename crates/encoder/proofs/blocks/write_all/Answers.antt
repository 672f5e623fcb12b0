use Rattle.encoder.proofs.Chunks.{blocks_none, block_asked, blocks_more, rest_asked, blocks_all}
use Rattle.encoder.proofs.blocks.write_all.Goals as goal

pub loop-block-init : goal.loop-block-init
loop-block-init g c =
    let b = c.chunks_exact-blocks.ensures in
    rw c.into_iter-block-iterator.ensures.into_iter_gives (blocks_none b.size b.rest)

pub write_block-end-requires : goal.write_block-end-requires
write_block-end-requires g c =
    let p = c.requires in
    let n = c.in-Some.ensures.steps.1 in
    block_asked p.0 p.1 c.loop-block.invariant c.in-Some.block.now c.next.new.self.rest.now n.0 n.1

pub loop-block-preserved : goal.loop-block-preserved
loop-block-preserved g c =
    let p = c.requires in
    let n = c.in-Some.ensures.steps in
    blocks_more p.0 p.1 c.loop-block.invariant c.in-Some.block.now c.next.new.self.rest.now n.1.0 n.1.1 n.0 c.write_block-end.ensures

pub write_rest-requires : goal.write_rest-requires
write_rest-requires g c =
    let p = c.requires in
    rest_asked p.0 p.1 c.loop-block.invariant c.remainder-rest.result.now (rw c.remainder-rest.ensures c.chunks_exact-blocks.ensures.remainder) c.in-None.ensures.steps.1.0

pub returns : goal.returns
returns g c =
    let p = c.requires in
    blocks_all p.0 p.1 c.loop-block.invariant c.remainder-rest.result.now (rw c.remainder-rest.ensures c.chunks_exact-blocks.ensures.remainder) c.in-None.ensures.steps.1.0 c.write_rest.ensures
