-- `put_edges` meets its contract: a side of at most 256 samples has at most 64 units.
use native.Mathlib.Omega.{arith}
use Rattle.list_call.proofs.Texts.{list-fits, edges-put}
use Rattle.list_call.proofs.put_edges.Goals as goal

pub luma_units-w4-requires : goal.luma_units-w4-requires
luma_units-w4-requires c = omega (arith, c.requires.width)

pub luma_units-h4-requires : goal.luma_units-h4-requires
luma_units-h4-requires c = omega (arith, c.requires.height)

pub put_list-requires : goal.put_list-requires
put_list-requires c = list-fits _ _ _ _ _ _ c.requires c.luma_units-w4.ensures c.luma_units-h4.ensures

pub returns : goal.returns
returns c =
    edges-put _ _ _ _ _ _ _ _ _ _ _ c.requires c.luma_units-w4.ensures c.luma_units-h4.ensures (λ i. omega (arith, c.shared_slice_known-1.given i)) c.put_list.ensures
