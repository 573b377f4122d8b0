-- The classes are tried from the highest.
use mathlib.Core.Path.{sym, ◌∙◌}
use Rattle.edges.proofs.Classes.{class-1, class-0, class-none}
use Rattle.edges.proofs.chroma_class.Goals as goal

pub returns-then-test_bit-clause-class : goal.returns-then-test_bit-clause-class
returns-then-test_bit-clause-class c = class-1 _ _ (sym c.test_bit.ensures ∙ c.if-test_bit.true)

pub returns-then-test_bit-2-clause-class : goal.returns-then-test_bit-2-clause-class
returns-then-test_bit-2-clause-class c = class-0 _ _ (sym c.test_bit.ensures ∙ c.if-test_bit.false) (sym c.test_bit-2.ensures ∙ c.if-test_bit-2.true)

pub returns-clause-class : goal.returns-clause-class
returns-clause-class c = class-none _ _ (sym c.test_bit.ensures ∙ c.if-test_bit.false) (sym c.test_bit-2.ensures ∙ c.if-test_bit-2.false)
