-- After x units the edges of x units are written.
use mathlib.Core.List.{List}
use mathlib.Core.Path.{◌≡◌}
use Prim.Native.Nat.{ℕ, ◌*◌, ◌<◌}
use native.Mathlib.Omega.{arith}
use Rattle.plane.specs.Line.{pass_of}
use Rattle.list_edges.specs.Listed.{Edge, edges_at}
use Rattle.list_put.specs.declared.Part.{Part}
use Rattle.list_put.specs.Written.{held_in, Room}
use Rattle.list_put.proofs.Lengths.{Short, wide-le, small, short-unit}
use Rattle.list_put.proofs.Writes.{wrote_none, room-le, turn-room, turn-next}
use Rattle.list_put.proofs.put_line.Goals as goal
use Rattle.list_put.proofs.put_line.Goals.{After-width-n}

abbrev edges : Part → ℕ → List ℕ → List ℕ → ℕ → List Edge
edges p y levels masks x = edges_at (held_in p levels masks) p.plane (pass_of p.rowwise) x y

-- every unit is short, and there is room for all
module _ (c : After-width-n) where
  short : (x : ℕ) → x < c.width-n.result → Short 1 (edges c.args.p c.args.y c.args.levels.now c.args.masks.now x)
  short x l =
      let a = c.args in
      let h = held_in a.p a.levels.now a.masks.now in
      short-unit h (small _ _ _ _ _ c.requires.2 (λ i. omega (arith, c.shared_slice_known-1.given i))) a.p.plane (pass_of a.p.rowwise) x a.y
      c.requires.0 (omega (arith, c.width-n.ensures)) c.requires.1

  room : Room c.args.text.now c.args.edges (c.width-n.result * 1)
  room = room-le (omega (arith, c.width-n.ensures, wide-le (held_in c.args.p c.args.levels.now c.args.masks.now) c.args.p.plane, c.requires.2.width)) c.requires.3

pub width-n-requires : goal.width-n-requires
width-n-requires c = c.requires.2.width

pub loop-x-init : goal.loop-x-init
loop-x-init c = (omega arith, wrote_none _ _)

pub put_unit-listed-requires : goal.put_unit-listed-requires
put_unit-listed-requires c =
    let v = c.loop-x in (
      record {
        plane-in = c.requires.0;
        width = c.requires.2.width;
        height = c.requires.2.height;
        x-in = omega (arith, c.width-n.ensures, c.loop-x-test.true);
        y-in = c.requires.1;
      },
      c.requires.2,
      turn-room _ _ _ 1 _ (short (goal.at.put_unit-listed-requires c).After-width-n) (room (goal.at.put_unit-listed-requires c).After-width-n) v.x c.loop-x-test.true _ _ v.invariant.1,
    )

pub loop-x-preserved : goal.loop-x-preserved
loop-x-preserved c =
    let v = c.loop-x in (
      omega arith,
      turn-next _ _ _ 1 _ (short (goal.at.loop-x-preserved c).After-width-n) (room (goal.at.loop-x-preserved c).After-width-n) v.x c.loop-x-test.true _ _ _ _ v.invariant.1 c.put_unit-listed.ensures,
    )

pub returns : goal.returns
returns c = let e : c.loop-x.x ≡ c.width-n.result = omega arith in rw (← c.width-n.ensures, ← e) c.loop-x.invariant.1
