-- The bit is that of the place in its half.
use Rattle.mask_edges.proofs.Words.{bit-low, bit_high}
use Rattle.bits.specs.Mark.{mark}
use Rattle.plane.specs.Line.{pass_of}
use native.Mathlib.Omega.{arith}
use Prim.Native.Nat.{◌+◌}
use mathlib.Core.Path.{ap, ◌∙◌}
use Rattle.mask_edges.proofs.edge.set_edge.Goals as goal

pub returns-then-q-p : goal.returns-then-q-p
returns-then-q-p c =
    let w = c.edge_word-at in
    let a = c.args in
    c.set_at.ensures ∙ ap (mark a.masks.now)
    (bit-low (pass_of a.p.rowwise) (a.p.unit + a.u) a.class a.p.luma a.p.half w.result (a.p.place + a.v) w.ensures.0
    c.if-q-p.true)

pub returns : goal.returns
returns c =
    let w = c.edge_word-at in
    let a = c.args in
    c.set_at-2.ensures ∙ ap (mark a.masks.now)
    (bit_high (pass_of a.p.rowwise) (a.p.unit + a.u) a.class a.p.luma a.p.half w.result (a.p.place + a.v) w.ensures.0
    c.if-q-p.false (omega arith))
