-- Each output is the standard's: its taps find their samples at the clipped positions, and the weights add up to what the sum is divided by.
use mathlib.Core.Path.{◌∙◌}
use Prim.Native.Nat.{◌+◌, ◌<◌}
use native.Mathlib.Omega.{arith}
use borrow.Author.Rules.{rules}
use lib.ListN.{replicate}
use Rattle.loops.proofs.Tables.{get_or-filled, fill-next}
use Rattle.wide.proofs.Outputs.{output, weighted}
use Rattle.wide.proofs.wide.Goals as goal

pub sum-requires : goal.sum-requires
sum-requires c =
    let y = c.clipped-y in
    (omega arith, λ j h. (y.ensures (c.loop-i.i + j) (omega arith)).1)

pub round2-requires : goal.round2-requires
round2-requires c =
    let y = c.clipped-y in
    let x = c.places in
    let w = weighted c.args.n c.args.l x.result y.result c.requires.0 x.ensures y.ensures c.args.n2 c.loop-i.i (omega arith) in
    (c.requires.1, c.requires.2, omega (arith, c.sum.ensures, c.requires.3))

pub loop-i-preserved : goal.loop-i-preserved
loop-i-preserved c =
    let l = c.loop-i in
    let h : l.i < 12 = search rules in
    (omega arith, rw (l.invariant.1, c.round2.ensures.0, c.sum.ensures) (fill-next _ (replicate 12 0) l.i h))

pub returns : goal.returns
returns c i h =
    let y = c.clipped-y in
    let x = c.places in
    rw c.loop-i.invariant.1 (get_or-filled _ _ c.loop-i.i i (omega arith))
    ∙ output c.args.n c.args.l x.result y.result c.requires.0 x.ensures y.ensures c.args.n2 c.args.log2 i h
