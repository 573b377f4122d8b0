-- `unit_at` meets its contract: `unit` of the words of each class.
use Rattle.gap.proofs.Walks.{unit-at-make}
use Rattle.gap.proofs.track.unit_at.Goals as goal

pub returns : goal.returns
returns c =
    unit-at-make _ _ _ _ _ _ _ _ _ _ _ c.class_word-x.ensures c.class_word-y.ensures
    c.class_word-b.ensures c.unit.ensures
