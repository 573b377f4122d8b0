-- `check` meets its contract: the first of 2 to 8, then 9, then the first of 10 to 12.
use mathlib.Core.Path.{sym, ◌∙◌}
use Rattle.checks.specs.Call.{lent}
use Rattle.checks.proofs.Chain.{given-number, some-number, same-number, plane-number, marked-number}
use Rattle.checks.proofs.check.Goals as goal

pub returns-in_err-roomy : goal.returns-in_err-roomy
returns-in_err-roomy g c =
    let a = c.args in
    let m = lent (g.P.Pixel.samples a.luma.now) (g.P.Pixel.samples a.u.now) (g.P.Pixel.samples a.v.now) a.levels.now a.masks.now in
    let e = c.in_err-roomy.field-0.0 in
    same-number c.from_residual.result e c.from_residual.ensures.1
    ∙ given-number a.c m c.in_err-roomy.ensures.number (some-number e)

pub returns-then-planes_bad : goal.returns-then-planes_bad
returns-then-planes_bad g c =
    let a = c.args in
    let m = lent (g.P.Pixel.samples a.luma.now) (g.P.Pixel.samples a.u.now) (g.P.Pixel.samples a.v.now) a.levels.now a.masks.now in
    let given = c.in_ok-roomy.ensures in
    plane-number a.c m (sym given.number)
    (rw given.lent.0 at (sym (c.planes_bad.ensures m.levels m.masks) ∙ c.if-planes_bad.true))

pub returns : goal.returns
returns g c =
    let a = c.args in
    let m = lent (g.P.Pixel.samples a.luma.now) (g.P.Pixel.samples a.u.now) (g.P.Pixel.samples a.v.now) a.levels.now a.masks.now in
    let given = c.in_ok-roomy.ensures in
    marked-number a.c m (sym given.number)
    (rw given.lent.0 at (sym (c.planes_bad.ensures m.levels m.masks) ∙ c.if-planes_bad.false))
    (rw (given.lent.0, given.lent.1) at c.marked.ensures)
