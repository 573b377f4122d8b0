-- After each plane its edges are written too.
use mathlib.Core.Path.{◌≡◌}
use Prim.Native.Nat.{ℕ, ◌*◌, ◌≤◌, ◌<◌}
use native.Mathlib.Omega.{arith}
use Rattle.list_edges.specs.Listed.{edges_of}
use Rattle.list_put.specs.Written.{held_of, plane_in, Room}
use Rattle.list_put.proofs.Lengths.{Short, planes-le, small, short-plane}
use Rattle.list_put.proofs.Writes.{wrote_none, room-le, turn-room, turn-next}
use Rattle.list_put.proofs.put_planes.Goals as goal
use Rattle.list_put.proofs.put_planes.Goals.{After-planes-n}

-- every plane is short, and there is room for all
module _ (c : After-planes-n) where
  few : c.planes-n.result ≤ 3
  few = omega (arith, c.planes-n.ensures, planes-le c.args.frame.layout)

  short : (p : ℕ) → p < c.planes-n.result
      → Short 8192 (plane_in (held_of c.args.frame.layout c.args.frame.w4.0 c.args.frame.h4.0 c.args.levels.now c.args.masks.now) p)
  short p l = short-plane _ (small _ _ _ _ _ c.requires.0 (λ i. omega (arith, c.shared_slice_known-1.given i))) p (omega (arith, few))

  room : Room c.args.text.now c.args.edges (c.planes-n.result * 8192)
  room = room-le (omega (arith, few)) c.requires.1

pub loop-plane-init : goal.loop-plane-init
loop-plane-init c = (omega arith, wrote_none _ _)

pub put_plane-listed-requires : goal.put_plane-listed-requires
put_plane-listed-requires c =
    let v = c.loop-plane in (
      omega (arith, few (goal.at.put_plane-listed-requires c).After-planes-n, c.loop-plane-test.true),
      c.requires.0,
      turn-room _ _ _ 8192 _ (short (goal.at.put_plane-listed-requires c).After-planes-n) (room (goal.at.put_plane-listed-requires c).After-planes-n) v.plane c.loop-plane-test.true _ _ v.invariant.1,
    )

pub loop-plane-preserved : goal.loop-plane-preserved
loop-plane-preserved c =
    let v = c.loop-plane in (
      omega arith,
      turn-next _ _ _ 8192 _ (short (goal.at.loop-plane-preserved c).After-planes-n) (room (goal.at.loop-plane-preserved c).After-planes-n) v.plane c.loop-plane-test.true _ _ _ _ v.invariant.1 c.put_plane-listed.ensures,
    )

pub returns : goal.returns
unfolding edges_of
returns c = let e : c.loop-plane.plane ≡ c.planes-n.result = omega arith in rw (← c.planes-n.ensures, ← e) c.loop-plane.invariant.1
