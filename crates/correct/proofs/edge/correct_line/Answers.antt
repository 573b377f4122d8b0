-- `correct_line` meets its contract: after i units the masks are those of i units corrected.
use mathlib.Core.Path.{refl, ◌∙◌}
use Prim.Native.Nat.{ℕ, ◌<◌}
use native.Mathlib.Omega.{arith}
use Rattle.std.proofs.lemmas.List.{length-take-le, get_or-take}
use Rattle.correct.proofs.Lines.{room, line-none, line-more}
use Rattle.correct.proofs.edge.correct_line.Goals as goal

pub loop-i-init : goal.loop-i-init
loop-i-init c = (refl, line-none _ _ _ _ _ _)

pub correct_edge-requires : goal.correct_edge-requires
correct_edge-requires c =
    let h : c.loop-i.i < c.args.l.n = omega (arith, length-take-le {A = ℕ}) in
    room c.args.l _ _ c.requires c.loop-i.i h _ _ (c.edge_bit-e.ensures c.args.l.h4.0) c.loop-i.invariant.0

pub loop-i-preserved : goal.loop-i-preserved
loop-i-preserved c =
    let h : c.loop-i.i < c.args.l.n = omega (arith, length-take-le {A = ℕ}) in (
      c.correct_edge.auto.masks
          ∙ c.loop-i.invariant.0,
      line-more _ _ _ _ _ c.loop-i.i _ _ _ _ c.loop-i.invariant.1 (c.edge_bit-e.ensures c.args.l.h4.0)
          (rw get_or-take at c.correct_edge.ensures),
    )
