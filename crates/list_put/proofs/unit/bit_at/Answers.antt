-- The plane and the unit as their numbers tell them.
use Rattle.list_put.proofs.Units.{hor-is, ver-is, near, bit_is}
use Rattle.list_put.proofs.unit.bit_at.Goals as goal

pub edge_bit-requires : goal.edge_bit-requires
edge_bit-requires c =
    let a = c.args in
    near a.p a.x a.y c.requires _ _ _ _ (hor-is a.p c.plane_ss_hor.ensures)
    (ver-is a.p c.plane_ss_ver.ensures) c.across.ensures c.along.ensures

pub returns : goal.returns
returns c =
    let a = c.args in
    bit_is a.p a.x a.y c.requires _ _ _ _ _ (hor-is a.p c.plane_ss_hor.ensures)
    (ver-is a.p c.plane_ss_ver.ensures) c.across.ensures c.along.ensures
    (c.edge_bit.ensures a.p.frame.h4.0)
