-- Lent memory.
--   level_at level-stride x y area    the place of a level byte: area 0 luma columns, 1 luma rows, 2 U, 3 V, at the unit (x, y) of its plane
--   levels_ok len level-stride w4 h4  a stride of w4 units at least, and 4 * stride * h4 bytes
--   plane_ok len stride width height  a stride of the stored width at least, and stride * stored height samples
--   masks_ok len w4 h4                640 words for each record
use Rattle.std.specs.Prelude.{Bool, ◌&&◌, ℕ, ◌+◌, ◌*◌, leb}
use Rattle.units.specs.Frame.{frame_records}

unfoldable pub level_at : ℕ → ℕ → ℕ → ℕ → ℕ
level_at level-stride x y area = 4 * (y * level-stride + x) + area

abbrev pub levels_ok : ℕ → ℕ → ℕ → ℕ → Bool
levels_ok len level-stride w4 h4 = leb w4 level-stride && leb (4 * level-stride * h4) len

abbrev pub plane_ok : ℕ → ℕ → ℕ → ℕ → Bool
plane_ok len stride width height = leb width stride && leb (stride * height) len

abbrev pub masks_ok : ℕ → ℕ → ℕ → Bool
masks_ok len w4 h4 = leb (640 * frame_records w4 h4) len
