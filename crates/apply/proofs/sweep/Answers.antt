-- `sweep` meets its contract: it is the pass over that plane.
use mathlib.Core.Path.{ap, ◌∙◌}
use Rattle.plane.specs.Line.{pass_of}
use Rattle.filter.specs.declared.Component.{Component}
use Rattle.filter.specs.Filter.{plane_of, sweep_of}
use Rattle.filter.specs.Types.{tables_of}
use Rattle.apply.specs.Apply.{swept}
use Rattle.apply.proofs.sweep.Goals as goal

pub component-p-requires : goal.component-p-requires
component-p-requires g c = c.requires.1.ready.shaped

pub sweep-requires : goal.sweep-requires
sweep-requires g c =
    let r = c.requires.1 in
    rw c.component-p.ensures (r.ready.stored, r.ready.fit, c.requires.0, λ _. r.under)

pub returns : goal.returns
unfolding swept
returns g c =
    let a = c.args in
    c.sweep.ensures
    ∙ ap (λ (x : Component). sweep_of (plane_of x (tables_of a.t)) (pass_of a.c.rowwise) a.c.row (g.P.Pixel.samples a.s.now)) c.component-p.ensures
