-- `chroma` meets its contract: both planes, or neither.
use mathlib.Core.Path.{refl, sym, ◌∙◌}
use Rattle.apply.proofs.chroma.Goals as goal

pub returns-then-not-chroma_on : goal.returns-then-not-chroma_on
returns-then-not-chroma_on g c = rw (sym c.chroma_on.ensures ∙ c.if-not-chroma_on.true) (record { u = refl; v = refl })

pub sweep-requires : goal.sweep-requires
sweep-requires g c = (c.requires.0, (c.requires.1 (sym c.chroma_on.ensures ∙ c.if-not-chroma_on.false)).0)

pub sweep-requires-2 : goal.sweep-requires-2
sweep-requires-2 g c = (c.requires.0, (c.requires.1 (sym c.chroma_on.ensures ∙ c.if-not-chroma_on.false)).1)

pub returns : goal.returns
returns g c = rw (sym c.chroma_on.ensures ∙ c.if-not-chroma_on.false) (record { u = c.sweep.ensures; v = c.sweep-2.ensures })
