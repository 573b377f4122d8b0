-- Layouts, by their numbers 400, 420, 422 and 444.
--   Layout        one of the four, and layout_ok as a test
--   has_chroma    not 4:0:0
--   ss_hor        0 for 4:4:4, else 1
--   ss_ver        1 for 4:2:0, else 0
use Rattle.std.specs.Prelude.{Bool, cond, not, ◌||◌, ◌≡◌, ℕ, eqb}

pub data Layout (layout : ℕ) : Type 0 where
  is-400 : layout ≡ 400 → Layout layout
  is-420 : layout ≡ 420 → Layout layout
  is-422 : layout ≡ 422 → Layout layout
  is-444 : layout ≡ 444 → Layout layout

abbrev pub layout_ok : ℕ → Bool
layout_ok layout = (eqb layout 400 || eqb layout 420) || (eqb layout 422 || eqb layout 444)

abbrev pub has_chroma : ℕ → Bool
has_chroma layout = not (eqb layout 400)

abbrev pub ss_hor : ℕ → ℕ
ss_hor layout = cond (eqb layout 444) 0 1

abbrev pub ss_ver : ℕ → ℕ
ss_ver layout = cond (eqb layout 420) 1 0
