-- The block lies in its record, and what is made of the record is put back in its place.
use native.Mathlib.Omega.{arith}
use Rattle.record.proofs.Stores.{luma-put}
use Rattle.record.proofs.Rooms.{luma-seen, luma-fits, luma-record, luma-covers}
use Rattle.record.proofs.masks.luma_masks.Goals as goal

pub slice_bounds-mask_edges_luma-end : goal.slice_bounds-mask_edges_luma-end
slice_bounds-mask_edges_luma-end c =
    omega (arith, c.record_at-at.ensures, luma-record c.args.b c.requires.0 c.requires.1, c.requires.2)

pub mask_edges_luma-requires : goal.mask_edges_luma-requires
mask_edges_luma-requires c =
    let p = c.requires in (
      record {
        width = (omega (arith, p.5, (luma-seen c.args.b p.0 p.1).0), omega (arith, p.5, (luma-fits c.args.b p.0 p.1).0));
        height = (omega (arith, p.6, (luma-seen c.args.b p.0 p.1).1), omega (arith, p.6, (luma-fits c.args.b p.0 p.1).1));
        record-words = omega arith;
        above-units = omega (arith, p.5, p.3);
        left-units = omega (arith, p.6, p.4);
      },
      p.0.tx,
      λ i. rw (p.5, p.6) (luma-covers c.args.b p.0 p.1 i),
    )

pub returns-clause-masks : goal.returns-clause-masks
returns-clause-masks c =
    let p = c.requires in
    luma-put c.args.b _ _ _ c.args.above.now c.args.left.now c.args.masks.now _
    c.record_at-at.ensures c.args.tx_masks.now p.1 p.5 p.6
    c.mask_edges_luma.ensures.masks
