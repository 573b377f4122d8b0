-- `plus_delta` meets its contract: below 32 the delta counts once, from 32 on twice.
use mathlib.Core.Path.{sym, ap, ◌∙◌}
use lib.IntN.{pos}
use Rattle.standard.specs.Math.{Clip3}
use Rattle.deltas.proofs.Steps.{once, twice}
use Rattle.deltas.proofs.plus_delta.Goals as goal

pub returns-then-base-lt32 : goal.returns-then-base-lt32
returns-then-base-lt32 c =
    (c.clip63.ensures.0 ∙ ap (Clip3 (pos 0) (pos 63)) (sym (once _ _ _ c.if-base-lt32.true)), c.clip63.ensures.1)

pub returns : goal.returns
returns c = (
  c.clip63-2.ensures.0 ∙ ap (Clip3 (pos 0) (pos 63)) (sym (twice _ _ _ c.if-base-lt32.false c.requires.0)),
  c.clip63-2.ensures.1,
)
