-- The terms are summed tap after tap, and the sum fits: no weight is above 2.
use mathlib.Core.Path.{◌≡◌, ◌∙◌, ap}
use Prim.Native.Nat.{◌+◌, ◌*◌}
use native.Mathlib.Omega.{arith}
use lib.ListN.{get_or}
use Rattle.standard.specs.Math.{sum_to}
use Rattle.wide.proofs.Totals.{sum-next, sum_fits}
use Rattle.wide.proofs.sum.Goals as goal

pub overflow_add-t-in-loop-j : goal.overflow_add-t-in-loop-j
overflow_add-t-in-loop-j c =
    let l = c.loop-j in
    let a = c.args in
    record {
      fits =
          sum_fits a.n a.n2 (λ k. get_or a.y.now (a.i + k) 0) l.j l.invariant.1 c.tap.ensures (omega arith) (λ k h. c.requires.1 k (omega arith));
    }

pub overflow_mul-t : goal.overflow_mul-t
overflow_mul-t c =
    let l = c.loop-j in
    let a = c.args in
    let s = sum_fits a.n a.n2 (λ k. get_or a.y.now (a.i + k) 0) l.j l.invariant.1 c.tap.ensures (omega arith) (λ k h. c.requires.1 k (omega arith)) in
    record { fits = omega arith }

pub loop-j-preserved : goal.loop-j-preserved
loop-j-preserved c =
    let l = c.loop-j in
    let a = c.args in
    (omega arith, sum-next a.n a.n2 (λ k. get_or a.y.now (a.i + k) 0) l.j l.invariant.1 c.tap.ensures)

pub returns : goal.returns
returns c =
    let e : c.loop-j.j ≡ 2 * c.args.n + 1 = omega arith in
    c.loop-j.invariant.1 ∙ ap (sum_to _) e
