-- `sample_at` meets its contract: four times a unit's place, across and down.
use mathlib.Core.Path.{◌∙◌}
use Rattle.filter.proofs.LineWords.{four-of}
use Rattle.filter.proofs.lines.sample_at.Goals as goal

pub place-requires : goal.place-requires
place-requires c = rw (four-of c.args.c.stride c.args.x c.args.y _ _ c.luma_sample.ensures c.luma_sample-then-c-eq0.ensures) c.requires.0

pub returns-then-c-eq0 : goal.returns-then-c-eq0
returns-then-c-eq0 c = c.place.ensures ∙ four-of c.args.c.stride c.args.x c.args.y _ _ c.luma_sample.ensures c.luma_sample-then-c-eq0.ensures

pub place-requires-2 : goal.place-requires-2
place-requires-2 c = rw (four-of c.args.c.stride c.args.x c.args.y _ _ c.chroma_sample.ensures c.chroma_sample-2.ensures) c.requires.0

pub returns : goal.returns
returns c = c.place-2.ensures ∙ four-of c.args.c.stride c.args.x c.args.y _ _ c.chroma_sample.ensures c.chroma_sample-2.ensures
