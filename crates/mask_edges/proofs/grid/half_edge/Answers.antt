-- The units passed have their edge and their context, whatever the masks and the context were before the first of them.
use mathlib.Core.Path.{◌≡◌, ◌∙◌}
use Prim.Native.Nat.{◌+◌, min}
use native.Mathlib.Nat.{add-zero}
use native.Mathlib.Omega.{arith}
use lib.ListN.{length-set, get_or}
use Rattle.std.proofs.Common.{rules}
use Rattle.plane.specs.Line.{pass_of}
use Rattle.mask_edges.proofs.Words.{bit_at}
use Rattle.mask_edges.proofs.LoopTurns.{edged-step}
use Rattle.mask_edges.proofs.grid.half_edge.Goals as goal

pub loop-v-preserved : goal.loop-v-preserved
loop-v-preserved c =
    let a = c.args in
    let l = c.loop-v in
    let g = c.requires.within in
    let k : c.min-k.result ≡ min a.class (get_or l.ctx l.v 0) = search rules in (
      (omega (arith, l.invariant.0.0), omega (arith, c.loop-v-test.true)),
      c.set_in.auto.masks ∙ l.invariant.1,
      simp length-set l.invariant.2,
      λ x ms E. edged-step a.p a.class x ms l.v c.min-k.result _ _ _ _ (l.invariant.3 x ms E) k
          (rw (add-zero a.p.unit) (bit_at (pass_of a.p.rowwise) a.p.unit c.min-k.result a.p.luma a.p.half c.edge_word.result
          (a.p.place + l.v) a.half c.edge_word.ensures.0 (omega (arith, l.invariant.0.0, g.2)) (omega (arith, c.loop-v-test.true, g.3))))
          c.set_in.ensures,
    )
