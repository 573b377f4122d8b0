-- Class 2, or as for chroma.
use mathlib.Core.Path.{sym, ◌∙◌}
use Rattle.edges.proofs.Classes.{class-2, class-under}
use Rattle.edges.proofs.luma_class.Goals as goal

pub returns-then-test_bit-clause-class : goal.returns-then-test_bit-clause-class
returns-then-test_bit-clause-class c = class-2 _ _ (sym c.test_bit.ensures ∙ c.if-test_bit.true)

pub returns-clause-class : goal.returns-clause-class
returns-clause-class c = c.chroma_class.ensures.class ∙ class-under _ _ (sym c.test_bit.ensures ∙ c.if-test_bit.false)
