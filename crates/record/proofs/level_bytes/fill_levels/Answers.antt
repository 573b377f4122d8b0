-- Lines of units by its invariant: the rows passed, each filled in its own part.
use lib.ListN.{length}
use native.Mathlib.Omega.{arith}
use mathlib.Core.Path.{refl, ap, ◌∙◌}
use Prim.Native.Nat.{◌+◌, ◌-◌, ◌*◌, ◌≤◌}
use Rattle.record.proofs.Stores.{length-row, row_put, levels-none, levels-step}
use Rattle.record.proofs.level_bytes.fill_levels.Goals as goal
use Rattle.record.proofs.level_bytes.fill_levels.Goals.{In-loop-j}

-- the line at hand lies within the levels
room : (c : In-loop-j)
    → c.args.at + 4 * (c.loop-j.j * c.args.level_stride + c.args.w) ≤ length c.loop-j.levels + 2
room c = let p = c.requires.lines _ c.loop-j-test.true in omega (arith, c.loop-j.invariant.1)

pub loop-j-init : goal.loop-j-init
loop-j-init c = (omega arith, refl, levels-none _ _ _ _ _ _)

pub loop-j-preserved : goal.loop-j-preserved
loop-j-preserved c =
    let a = c.args in
    let l = c.loop-j in
    let from = a.at + 4 * (l.j * a.level_stride) in
    let to = from + 4 * (a.w - 1) + 2 in
    let e =
    row_put from to a.w a.u a.v l.levels _ (omega arith) (omega (arith, room (goal.at.loop-j-preserved c).In-loop-j, c.requires.w_nonzero))
    (omega (arith, c.requires.w_nonzero)) c.fill_row.ensures in
    (omega arith, ap length e ∙ length-row from a.u a.v a.w l.levels ∙ l.invariant.1, levels-step _ _ _ _ _ _ _ _ _ l.invariant.2 e)
