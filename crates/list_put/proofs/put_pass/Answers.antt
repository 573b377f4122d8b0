-- After y lines the edges of y lines are written.
use mathlib.Core.List.{List}
use mathlib.Core.Path.{◌≡◌}
use Prim.Native.Nat.{ℕ, ◌*◌, ◌<◌}
use native.Mathlib.Omega.{arith}
use Rattle.plane.specs.Line.{pass_of}
use Rattle.list_edges.specs.Listed.{Edge, edges_in}
use Rattle.list_put.specs.declared.Part.{Part}
use Rattle.list_put.specs.Written.{held_in, line_in, Room}
use Rattle.list_put.proofs.Lengths.{Short, high_le, small, short-line}
use Rattle.list_put.proofs.Writes.{wrote_none, room-le, turn-room, turn-next}
use Rattle.list_put.proofs.put_pass.Goals as goal
use Rattle.list_put.proofs.put_pass.Goals.{After-height-n}

abbrev lines : Part → List ℕ → List ℕ → ℕ → List Edge
lines p levels masks y = line_in (held_in p levels masks) p.plane (pass_of p.rowwise) y

-- every line is short, and there is room for all
module _ (c : After-height-n) where
  short : (y : ℕ) → y < c.height-n.result → Short 64 (lines c.args.p c.args.levels.now c.args.masks.now y)
  short y l =
      let a = c.args in
      let h = held_in a.p a.levels.now a.masks.now in
      short-line h (small _ _ _ _ _ c.requires.1 (λ i. omega (arith, c.shared_slice_known-1.given i))) a.p.plane (pass_of a.p.rowwise) y
      c.requires.0 (omega (arith, c.height-n.ensures))

  room : Room c.args.text.now c.args.edges (c.height-n.result * 64)
  room = room-le (omega (arith, c.height-n.ensures, high_le (held_in c.args.p c.args.levels.now c.args.masks.now) c.args.p.plane, c.requires.1.height)) c.requires.2

pub height-n-requires : goal.height-n-requires
height-n-requires c = c.requires.1.height

pub loop-y-init : goal.loop-y-init
loop-y-init c = (omega arith, wrote_none _ _)

pub put_line-listed-requires : goal.put_line-listed-requires
put_line-listed-requires c =
    let v = c.loop-y in (
      c.requires.0,
      omega (arith, c.height-n.ensures, c.loop-y-test.true),
      c.requires.1,
      turn-room _ _ _ 64 _ (short (goal.at.put_line-listed-requires c).After-height-n) (room (goal.at.put_line-listed-requires c).After-height-n) v.y c.loop-y-test.true _ _ v.invariant.1,
    )

pub loop-y-preserved : goal.loop-y-preserved
loop-y-preserved c =
    let v = c.loop-y in (
      omega arith,
      turn-next _ _ _ 64 _ (short (goal.at.loop-y-preserved c).After-height-n) (room (goal.at.loop-y-preserved c).After-height-n) v.y c.loop-y-test.true _ _ _ _ v.invariant.1 c.put_line-listed.ensures,
    )

pub returns : goal.returns
unfolding edges_in
returns c = let e : c.loop-y.y ≡ c.height-n.result = omega arith in rw (← c.height-n.ensures, ← e) c.loop-y.invariant.1
