-- `seven` meets its contract, by that of `biased`.
use mathlib.Core.Path.{sym, ◌∙◌}
use Rattle.deltas.proofs.Bias.{seen}
use Rattle.bit_place.proofs.Sevens.{seven-biased}
use Rattle.bit_place.proofs.seven.Goals as goal

pub returns : goal.returns
returns c = sym (seven-biased _ _ (c.biased.ensures.0 ∙ seen _ c.ranges.d.sfits))
