-- The tests of the numbers 4, 6, 7 and 10, in the order in which they are asked.
--   shape_bad            4: layout, frame size, superblock size
--   units_along          the units of a plane that are corrected
--   most                 the range of a plane's context
--   context_refused      6, in a plane in which units are corrected
--   length_bad           7: masks
--   number               the number of the first of them; 10 is a start outside the frame
use Rattle.std.specs.Prelude.{Bool, true, false, cond, not, ◌&&◌, ◌||◌, List, ℕ, ◌-◌}
use Rattle.units.specs.Layout.{layout_ok}
use Rattle.units.specs.Frame.{frame_ok, superblock_ok}
use Rattle.units.specs.Memory.{masks_ok}
use Rattle.block.specs.Tests.{context_bad}
use Rattle.correct.specs.declared.Start.{Start}
use Rattle.correct.specs.Start.{w4, h4, first, end, inside, corrects}

abbrev pub shape_bad : Start → Bool
shape_bad t = (not (layout_ok t.layout) || not (frame_ok t.width.0 t.height.0)) || not (superblock_ok t.superblock)

abbrev pub units_along : Start → Bool → ℕ
units_along t luma = end t luma - first t luma

abbrev pub most : Bool → ℕ
most luma = cond luma 2 1

abbrev pub context_refused : Start → Bool → List ℕ → Bool
context_refused t luma context = corrects t luma && context_bad (units_along t luma) (most luma) context

abbrev pub length_bad : Start → ℕ → Bool
length_bad t masks = not (masks_ok masks (w4 t) (h4 t))

unfoldable pub number : Start → ℕ → List ℕ → List ℕ → ℕ
number t masks context context-uv =
    cond (shape_bad t) 4
    (cond (context_refused t true context) 6
    (cond (context_refused t false context-uv) 6
    (cond (length_bad t masks) 7
    (cond (not (inside t)) 10 0))))
