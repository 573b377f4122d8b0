-- The four rectangles are those of the tables.
use mathlib.Core.Path.{refl}
use Rattle.decomp.proofs.Fills.{put_step}
use Rattle.decomp.proofs.put_cells.Goals as goal

pub returns : goal.returns
returns c =
    put_step _ _ _ _ _ _ _ _ _ _ _ c.requires.5 c.requires.2 refl c.luma_class-across.ensures c.luma_class-down.ensures c.fill_classes.ensures
    c.fill_cells.ensures c.fill_cells-2.ensures
