-- By the test.
use mathlib.Core.Path.{refl, sym, ◌∙◌}
use Rattle.list_put.proofs.planes.Goals as goal

pub returns-then-has_chroma : goal.returns-then-has_chroma
returns-then-has_chroma c = rw (sym c.has_chroma.ensures ∙ c.if-has_chroma.true) refl

pub returns-else-has_chroma : goal.returns-else-has_chroma
returns-else-has_chroma c = rw (sym c.has_chroma.ensures ∙ c.if-has_chroma.false) refl
