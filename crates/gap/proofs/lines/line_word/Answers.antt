-- `line_word` meets its contract: its two halves make `line_word`.
use Rattle.gap.proofs.LineBits.{word-make}
use Rattle.gap.proofs.lines.line_word.Goals as goal

pub returns : goal.returns
returns c =
    word-make _ _ _ _ _ _ _ c.min.ensures c.saturating_sub.ensures
    c.half_word.ensures c.half_word-2.ensures c.two_halves.ensures
