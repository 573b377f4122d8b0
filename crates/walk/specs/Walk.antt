-- The walk over the mask bits of one line of units (01, "One line of samples").
--   thresholds depth e i lvl     what 7.14.6.2 and 7.14.6.3 compare with, from the limit table's e and i
--   highest m₁ m₂ n              the highest class set at place n
--   luma_len c, chroma_len c     the width of a class
--   len_of luma c                that of a luma plane or of a chroma plane
--   width_of plane c             that of a plane by its number
--   len_in classes c             that of a plane with so many classes: luma has 3, chroma 2
--   set_in u                     the set places of a line of units
--   len_at, index_at u n         the width and the index of q0 at place n
--   level_at levels u n          the level there
--   visit, visit_at              what is done at a set place, by its width, level and index, and by the place
--   walked                       what the walk does
use Rattle.std.specs.Prelude.{ℕ, zero, suc, ◌+◌, ◌-◌, ◌*◌, ◌/◌, ◌^◌, Bool, cond, List, ◌==◌, bit_or, nat_lt, slice_index}
use Rattle.bits.specs.Bit.{has_bit}
use Rattle.bits.specs.Walk.{visits}
use Rattle.standard.specs.declared.Bounds.{Bounds}
use Rattle.plane.specs.Line.{piece_at}
use Rattle.view.specs.Level.{level_used}
use Rattle.line.specs.Rule.{rule}
use Rattle.walk.specs.declared.UnitLine.{UnitLine}

unfoldable pub thresholds : ℕ → List ℕ → List ℕ → ℕ → Bounds
thresholds depth e i lvl =
    record {
      e = slice_index e lvl * 2 ^ (depth - 8);
      i = slice_index i lvl * 2 ^ (depth - 8);
      h = lvl / 16 * 2 ^ (depth - 8);
      f = 2 ^ (depth - 8);
      half = 128 * 2 ^ (depth - 8);
    }

abbrev pub highest : ℕ → ℕ → ℕ → ℕ
highest m₁ m₂ n = cond (has_bit m₂ n) 2 (cond (has_bit m₁ n) 1 0)

abbrev pub luma_len : ℕ → ℕ
luma_len zero = 4
luma_len (suc zero) = 8
luma_len (suc (suc c)) = 16

abbrev pub chroma_len : ℕ → ℕ
chroma_len zero = 4
chroma_len (suc c) = 6

abbrev pub len_of : Bool → ℕ → ℕ
len_of luma c = cond luma (luma_len c) (chroma_len c)

abbrev pub width_of : ℕ → ℕ → ℕ
width_of plane = len_of (plane == 0)

abbrev pub len_in : ℕ → ℕ → ℕ
len_in classes = len_of (nat_lt 2 classes)

abbrev pub set_in : UnitLine → ℕ
set_in u = bit_or (bit_or u.m0 u.m1) u.m2

abbrev pub len_at : UnitLine → ℕ → ℕ
len_at u n = len_in u.classes (highest u.m1 u.m2 n)

abbrev pub level_at : List ℕ → UnitLine → ℕ → ℕ
level_at levels u n = level_used (slice_index levels (u.at + n * u.along)) (slice_index levels (u.at + n * u.along - u.back))

abbrev pub index_at : UnitLine → ℕ → ℕ
index_at u n = u.q + n * (4 * u.line_step)

-- one piece, if its level is not 0
unfoldable pub visit : ℕ → List ℕ → List ℕ → ℕ → ℕ → ℕ → ℕ → ℕ → List ℕ → List ℕ
visit depth e i line_step sample-step len lvl q s = cond (lvl == 0) s (piece_at line_step sample-step (rule len (thresholds depth e i lvl)) q s)

abbrev pub visit_at : ℕ → List ℕ → List ℕ → List ℕ → UnitLine → ℕ → List ℕ → List ℕ
visit_at depth e i levels u n = visit depth e i u.line_step u.sample_step (len_at u n) (level_at levels u n) (index_at u n)

-- each set place, lowest first
unfoldable pub walked : ℕ → List ℕ → List ℕ → List ℕ → UnitLine → List ℕ → List ℕ
walked depth e i levels u = visits 32 (set_in u) (visit_at depth e i levels u)
