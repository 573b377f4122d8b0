-- The columns are written, then the rows.
use native.Mathlib.Omega.{arith}
use Rattle.plane.specs.Line.{columns}
use Rattle.list_edges.specs.Listed.{edges_in}
use Rattle.list_put.specs.Written.{held_of}
use Rattle.list_put.proofs.Lengths.{Short, small, short-pass}
use Rattle.list_put.proofs.Writes.{room-le, room_after, wrote_then}
use Rattle.list_put.proofs.put_plane.Goals as goal
use Rattle.list_put.proofs.put_plane.Goals.{After-put_pass-arg-1}

-- the columns are short
module _ (c : After-put_pass-arg-1) where
  short : Short 4096 (edges_in (held_of c.args.frame.layout c.args.frame.w4.0 c.args.frame.h4.0 c.args.levels.now c.args.masks.now) c.args.plane columns)
  short =
      short-pass _ (small _ _ _ _ _ c.requires.1 (λ i. omega (arith, c.shared_slice_known-1.given i))) c.args.plane columns c.requires.0

pub put_pass-requires : goal.put_pass-requires
put_pass-requires c =
    let p = c.put_pass-listed in
    (c.requires.0, c.requires.1, room_after 4096 (short (goal.at.put_pass-requires c).After-put_pass-arg-1) p.ensures 4096 c.requires.2)

pub returns : goal.returns
returns c =
    wrote_then 4096 (short (goal.at.returns c).After-put_pass-arg-1) c.put_pass-listed.ensures
    (room-le (omega arith) c.requires.2) c.put_pass.ensures
