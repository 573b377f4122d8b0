-- What is left from the place on is all there was to do; the place moves up by steps above 0.
use Rattle.std.proofs.Common.{rules}
use Rattle.mask_edges.proofs.Walks.{left-on, left_end}
use Rattle.mask_edges.specs.Folds.{first}
use native.Mathlib.Omega.{arith}
use mathlib.Core.Path.{◌≡◌, refl, ◌∙◌}
use Prim.Native.Nat.{min}
use Rattle.mask_edges.proofs.cells.line_edges.Goals as goal

pub loop-x-init : goal.loop-x-init
loop-x-init c =
    let x : c.from-x.result ≡ c.cell.result = search rules in (
      refl,
      record {
        f = c.args.p.across;
        enough = omega arith;
        rest = rw (c.cell-ltx.ensures, x, c.cell.ensures) refl;
        reached = rw (x, c.cell.ensures) first;
      },
    )

pub loop-x-preserved : goal.loop-x-preserved
loop-x-preserved c =
    let k : c.min.result ≡ min c.cell-rtx.result c.loop-x.ltx = search rules in
    let x : c.from-x-in-loop-x.result ≡ c.cell-in-loop-x.result = search rules in (
      c.set_edge.auto.masks ∙ c.loop-x.invariant.0,
      left-on _ _ _ _ _ _ _ _ _ _ _ _ _ c.loop-x.invariant.1 c.loop-x-test.true
          (c.requires.1.steps c.loop-x.x c.args.v c.loop-x.invariant.1.reached c.loop-x-test.true c.requires.3) c.cell-rtx.ensures k
          c.set_edge.ensures
          (x ∙ c.cell-in-loop-x.ensures),
    )

pub returns : goal.returns
returns c = left_end _ _ _ _ _ _ _ _ _ c.loop-x.invariant.1 c.loop-x-test.false
