-- The worked cases of document 01 over the definitions of `standard` and `correct`, as one table and one theorem.
--   limits s lvl             i and e: C1 to C5
--   line len depth s lvl xs  a line's samples once it is filtered: C6 to C11
--   tile context             a tile start with one unit, the bits of classes 1 and 2 set: the number, and the edge's class after: C12
--   cases                    the table
use Rattle.std.specs.Prelude.{◌≡◌, refl, List, [], ◌∷◌, ℕ, zero, suc, ◌-◌, ◌/◌, length, get_or}
use Rattle.std.proofs.Math.Option.{Option, some, none}
use Rattle.standard.specs.Math.{Clip3, Round2}
use Rattle.standard.specs.Strength.{limit, blimit, thresh, bounds}
use Rattle.standard.specs.Masks.{hev_mask, filter_mask, flat_mask, flat_mask2}
use Rattle.standard.specs.Narrow.{filter4_clamp, base_filter, filter12, moved, narrowed, narrow}
use Rattle.standard.specs.Wide.{wide_at, wide}
use Rattle.standard.specs.Line.{changed, filtered}
use Rattle.loops.specs.Any.{any_below}
use Rattle.bits.specs.Bit.{has_bit}
use Rattle.bits.specs.Mark.{is_set, mark, unmark}
use Rattle.plane.specs.Line.{columns}
use Rattle.units.specs.Masks.{luma_bit}
use Rattle.edges.specs.Edges.{Grid, luma_grid, edge_bit, edge}
use Rattle.correct.specs.declared.Start.{Start}
use Rattle.correct.specs.Correct.{cleared, corrected, correct_line, done}
use Rattle.correct.specs.Tests.{number}
use Rattle.correct.specs.Answer.{column_of}

abbrev pub limits : ℕ → ℕ → List ℕ
limits s lvl = limit s lvl ∷ blimit s lvl ∷ []

-- f at k, k + 1, .., n of them
abbrev from : (ℕ → ℕ) → ℕ → ℕ → List ℕ
from f k zero = []
from f k (suc n) = f k ∷ from f (suc k) n

-- the samples xs stand evenly about the edge, so the first has place 8 - length xs / 2
abbrev pub line : ℕ → ℕ → ℕ → ℕ → List ℕ → List ℕ
line len depth s lvl xs =
    let first = 8 - length xs / 2 in
    from (filtered len (bounds depth s lvl) (λ k. get_or xs (k - first) 0)) first (length xs)

-- 128 by 4 samples of 4:0:0, the tile begins at superblock 1 of 64: at unit 16
abbrev start : Start
start = column_of 128 4 400 64 0 1

abbrev plane : Grid
plane = luma_grid 32 1

abbrev both : List ℕ
both = mark (mark (from (λ _. 0) 0 640) (edge_bit plane columns (16, 0) 1)) (edge_bit plane columns (16, 0) 2)

abbrev class : Option ℕ → List ℕ
class none = []
class (some c) = c ∷ []

abbrev pub tile : ℕ → List ℕ
tile context =
    number start 640 (context ∷ []) [] ∷ class (edge plane (done start (context ∷ []) [] both) columns (16, 0))

pub cases :
    (limits 0 0
    ∷ limits 0 63
    ∷ limits 4 63
    ∷ limits 5 63
    ∷ limits 7 3
    ∷ line 4 8 0 32 (100 ∷ 100 ∷ 110 ∷ 110 ∷ [])
    ∷ line 4 8 0 32 (90 ∷ 100 ∷ 110 ∷ 110 ∷ [])
    ∷ line 4 8 0 32 (100 ∷ 100 ∷ 141 ∷ 141 ∷ [])
    ∷ line 4 8 0 32 (100 ∷ 100 ∷ 140 ∷ 140 ∷ [])
    ∷ line 8 10 0 32 (100 ∷ 100 ∷ 100 ∷ 100 ∷ 104 ∷ 104 ∷ 104 ∷ 104 ∷ [])
    ∷ line 16 12 0 32 (0 ∷ 0 ∷ 0 ∷ 0 ∷ 0 ∷ 0 ∷ 0 ∷ 16 ∷ 16 ∷ 16 ∷ 16 ∷ 16 ∷ 16 ∷ 16 ∷ [])
    ∷ tile 2
    ∷ tile 0
    ∷ [])
    ≡ ((1 ∷ 5 ∷ [])
    ∷ (63 ∷ 193 ∷ [])
    ∷ (5 ∷ 135 ∷ [])
    ∷ (4 ∷ 134 ∷ [])
    ∷ (1 ∷ 11 ∷ [])
    ∷ (102 ∷ 104 ∷ 106 ∷ 108 ∷ [])
    ∷ (90 ∷ 101 ∷ 109 ∷ 110 ∷ [])
    ∷ (100 ∷ 100 ∷ 141 ∷ 141 ∷ [])
    ∷ (108 ∷ 115 ∷ 125 ∷ 132 ∷ [])
    ∷ (100 ∷ 101 ∷ 101 ∷ 102 ∷ 103 ∷ 103 ∷ 104 ∷ 104 ∷ [])
    ∷ (0 ∷ 1 ∷ 2 ∷ 3 ∷ 4 ∷ 5 ∷ 7 ∷ 9 ∷ 11 ∷ 12 ∷ 13 ∷ 14 ∷ 15 ∷ 16 ∷ [])
    ∷ (0 ∷ 2 ∷ [])
    ∷ (0 ∷ 0 ∷ [])
    ∷ [])
unfolding Clip3 Round2 limit blimit thresh bounds hev_mask filter_mask flat_mask flat_mask2 filter4_clamp base_filter filter12 moved narrowed narrow wide_at wide changed
    filtered has_bit is_set mark unmark any_below luma_bit edge_bit edge cleared corrected correct_line number
cases = refl
