-- The sum of the half and the shift are Round2's.
use mathlib.Core.Path.{refl}
use Rattle.standard.specs.Math.{Round2}
use Rattle.wide.proofs.Rounds.{shifted, with-half-fits, round-fits}
use Rattle.wide.proofs.round2.Goals as goal

pub overflow_add-result : goal.overflow_add-result
overflow_add-result c =
    let p = c.requires in
    rw (shifted c.args.n p.0 p.1) (record { fits = with-half-fits c.args.n p.0 c.args.x p.2 p.1 })

pub returns : goal.returns
unfolding Round2
returns c =
    let p = c.requires in
    rw (shifted c.args.n p.0 p.1) (refl, round-fits c.args.n p.0 c.args.x p.2)
