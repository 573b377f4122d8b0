-- `halves_at` meets its contract, by the count of halves.
use mathlib.Core.Path.{◌∙◌}
use Rattle.filter.proofs.LineWords.{both_halves, one-half}
use Rattle.filter.proofs.lines.halves_at.Goals as goal

pub returns-then-n-eq2 : goal.returns-then-n-eq2
returns-then-n-eq2 c = c.two_halves.ensures ∙ both_halves c.args.masks.now c.args.at
    c.args.first c.args.n c.args.h
    c.if-n-eq2.true

pub returns : goal.returns
returns c = c.from.ensures ∙ one-half c.args.masks.now c.args.at
    c.args.first c.args.n c.args.h c.if-n-eq2.false
