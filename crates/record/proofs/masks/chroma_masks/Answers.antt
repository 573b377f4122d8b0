-- The block's chroma lies in its record, and what is made of the record is put back in its place.
use native.Mathlib.Omega.{arith}
use mathlib.Core.Path.{refl, ◌∙◌}
use Rattle.units.proofs.Places.{ss-hor-le, ss-ver-le}
use Rattle.record.proofs.Stores.{chroma-put}
use Rattle.record.proofs.Rooms.{chroma-tx, chroma-seen, chroma-place, chroma-record-in}
use Rattle.record.proofs.masks.chroma_masks.Goals as goal

pub slice_bounds-mask_edges_chroma-end : goal.slice_bounds-mask_edges_chroma-end
slice_bounds-mask_edges_chroma-end c =
    omega (arith, c.record_at-at.ensures, chroma-record-in c.args.b c.requires.0 c.requires.1, c.requires.2)

pub mask_edges_chroma-requires : goal.mask_edges_chroma-requires
mask_edges_chroma-requires c =
    let p = c.requires in (
      record {
        width = rw (p.5, c.chroma_unit-cbx4.ensures, c.ss_hor-ss_hor.ensures) ((chroma-seen c.args.b p.0 p.1).0, (chroma-place c.args.b p.0 p.1).0);
        height = rw (p.6, c.chroma_unit-cby4.ensures, c.ss_ver-ss_ver.ensures) ((chroma-seen c.args.b p.0 p.1).1, (chroma-place c.args.b p.0 p.1).1);
        record-words = omega (arith, c.mask_edges_chroma-arg-1.given);
        above-units = omega (arith, p.5, p.3);
        left-units = omega (arith, p.6, p.4);
      },
      chroma-tx c.args.b p.0 p.1,
      rw c.ss_hor-ss_hor.ensures (ss-hor-le c.args.b.layout),
      rw c.ss_ver-ss_ver.ensures (ss-ver-le c.args.b.layout),
    )

pub returns-clause-masks : goal.returns-clause-masks
returns-clause-masks c =
    let p = c.requires in
    chroma-put c.args.b _ _ _ c.args.above.now c.args.left.now c.args.masks.now _ c.record_at-at.ensures _ _ _ _ p.1 p.5 p.6
    c.ss_hor-ss_hor.ensures c.ss_ver-ss_ver.ensures c.chroma_unit-cbx4.ensures c.chroma_unit-cby4.ensures c.mask_edges_chroma.ensures.masks

pub returns-clause-above : goal.returns-clause-above
returns-clause-above c =
    let p = c.requires in rw p.1 (c.mask_edges_chroma.ensures.above ∙ rw p.5 refl)

pub returns-clause-left : goal.returns-clause-left
returns-clause-left c =
    let p = c.requires in rw p.1 (c.mask_edges_chroma.ensures.left ∙ rw p.6 refl)
