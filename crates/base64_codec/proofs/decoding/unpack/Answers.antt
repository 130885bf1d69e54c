use Rattle.std.proofs.Common.{rules, arith}
use Rattle.base64_codec.proofs.Unpacking.{starts, fits, goes, unpacked, valid_four}
use Rattle.base64_codec.proofs.decoding.unpack.Goals as goal

pub slice_bounds-unpack_four-count : goal.slice_bounds-unpack_four-count
slice_bounds-unpack_four-count c = starts c.loop-n.invariant _ c.as_chunks.ensures.front (search rules)

pub slice_bounds-unpack_four-start : goal.slice_bounds-unpack_four-start
slice_bounds-unpack_four-start c =
    let s = starts c.loop-n.invariant _ c.as_chunks.ensures.front (search rules) in
    search rules

pub unpack_four-requires : goal.unpack_four-requires
unpack_four-requires c = record {
  base64 = valid_four c.loop-n.invariant _ c.as_chunks.ensures.front (search rules);
  room = fits c.loop-n.invariant _ c.as_chunks.ensures.front (search rules) (search rules);
}

pub loop-n-preserved : goal.loop-n-preserved
loop-n-preserved c = goes c.loop-n.invariant _ c.as_chunks.ensures.front (search rules) _ (search rules) c.unpack_four.ensures

pub returns : goal.returns
returns c = unpacked c.loop-n.invariant (omega arith)
