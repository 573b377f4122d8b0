-- The level at an edge, 01, "One line of samples".
--   level_used l before       the unit's own byte l, or if it is 0 that of the unit before the edge
--   current_at s at           the byte of the unit at a place
--   earlier_at s at back      that of the unit `back` bytes earlier
use Rattle.std.specs.Prelude.{cond, List, ℕ, ◌-◌, eqb, get_or}

abbrev pub level_used : ℕ → ℕ → ℕ
level_used l before = cond (eqb l 0) before l

abbrev pub current_at : List ℕ → ℕ → ℕ
current_at s at = get_or s at 0

abbrev pub earlier_at : List ℕ → ℕ → ℕ → ℕ
earlier_at s at back = get_or s (at - back) 0
