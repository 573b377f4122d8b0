-- Each sample is taken at its position: the table is filled from the front.
use mathlib.Core.Path.{◌≡◌}
use Prim.Native.Nat.{◌+◌, ◌-◌, ◌<◌}
use native.Mathlib.Omega.{arith}
use borrow.Author.Rules.{rules}
use lib.ListN.{get_or, replicate}
use mir.Syntax.{w16}
use mir.Val.{Fits}
use Rattle.loops.proofs.Tables.{get_or-filled, fill-next}
use Rattle.standard.specs.Math.{clip}
use Rattle.line.proofs.Sums.{clip-within}
use Rattle.wide.proofs.clipped.Goals as goal
use Rattle.wide.proofs.clipped.Goals.{After-position}

in-line : (c : After-position) → c.position.result < 15
in-line c =
    let n = c.args.n in
    let w = (clip-within (8 - (n + 1)) (8 + n) (8 - n + c.loop-i.i - n) (omega arith)).1 in
    omega (arith, c.position.ensures)

pub offset_bounds-x-position : goal.offset_bounds-x-position
offset_bounds-x-position c = record { fits = omega (arith, in-line c) }

pub bounds-x-position : goal.bounds-x-position
bounds-x-position c = in-line c

pub loop-i-preserved : goal.loop-i-preserved
loop-i-preserved c =
    let l = c.loop-i in
    let h : l.i < 24 = search rules in
    (omega arith, rw (l.invariant.1, c.position.ensures) (fill-next _ (replicate 24 0) l.i h))

pub returns : goal.returns
returns c i h =
    let n = c.args.n in
    let x = c.args.x in
    let l = c.loop-i in
    let e : get_or l.y i 0 ≡ get_or x (clip (8 - (n + 1)) (8 + n) (8 - n + i - n)) 0 = rw l.invariant.1 (get_or-filled _ _ l.i i (omega arith)) in
    let f : Fits w16 (get_or x (clip (8 - (n + 1)) (8 + n) (8 - n + i - n)) 0) = search rules in
    (e, rw e f.fits)
