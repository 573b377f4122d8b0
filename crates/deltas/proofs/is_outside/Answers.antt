-- `is_outside` meets its contract: the test of the biased number is that of the delta.
use mathlib.Core.Path.{sym, ◌∙◌}
use Rattle.deltas.proofs.Steps.{outside-biased}
use Rattle.deltas.proofs.Bias.{seen}
use Rattle.deltas.proofs.is_outside.Goals as goal

pub returns : goal.returns
returns c =
    let a = c.args in
    sym (outside-biased _ a.low a.d (c.biased-u.ensures.0 ∙ seen a.d c.ranges.d.sfits))
