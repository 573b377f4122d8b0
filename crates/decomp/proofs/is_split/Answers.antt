-- By the test that answers.
use Rattle.decomp.proofs.Splits.{split-least, split-deep, split-bit}
use mathlib.Core.Path.{◌∙◌}
use Rattle.decomp.proofs.is_split.Goals as goal

pub returns-then-from-eq0 : goal.returns-then-from-eq0
returns-then-from-eq0 c = split-least _ _ _ _ _ c.if-from-eq0.true

pub returns-then-depth-gt1 : goal.returns-then-depth-gt1
returns-then-depth-gt1 c = split-deep _ _ _ _ _ c.if-depth-gt1.true

pub returns : goal.returns
returns c = c.has.ensures ∙ split-bit _ _ _ _ _ c.if-from-eq0.false c.if-depth-gt1.false
