-- What a tile correction stores, document 01, "Tile correction".
--   old_class           the old class, from the bits that are set: in luma 2 * bit 2 + bit 1, in chroma bit 1
--   cleared             all bits of an edge cleared; its bit of class c is `bit c`
--   corrected           and that of min (old, context) set
--   correct_line        n units from `first` on, at `across`
--   grid_in, line_done  the plane of a `TileEdge`, and its units corrected
--   plane_done          of one plane at a tile's start
--   done                of all planes
-- and what the code asks
--   Room              of an edge's first bit: up to the highest old class its bits lie in the masks
--   Fits              of a line: its units lie in the frame, and masks and context are long enough
use Rattle.std.specs.Prelude.{Bool, true, false, cond, List, ◌≡◌, ℕ, ◌+◌, ◌*◌, ◌/◌, ◌^◌, ◌≤◌, ◌<◌, min, get_or}
use mir.Val.{bool_byte}
use Rattle.loops.specs.Run.{up_to}
use Rattle.bits.specs.Mark.{is_set, mark, unmark}
use Rattle.plane.specs.Line.{Pass, other, pass_of}
use Rattle.edges.specs.Edges.{Grid, Proper, grid_of, units_of, edge_bit}
use Rattle.units.specs.Frame.{frame_records}
use Rattle.correct.specs.declared.Start.{Start}
use Rattle.correct.specs.declared.TileEdge.{TileEdge}
use Rattle.correct.specs.Start.{line_of, corrects}

abbrev pub old_class : Bool → (ℕ → Bool) → ℕ
old_class true set = 2 * bool_byte (set 2) + bool_byte (set 1)
old_class false set = bool_byte (set 1)

unfoldable pub cleared : Bool → (ℕ → ℕ) → List ℕ → List ℕ
cleared luma bit = up_to (λ c ms. unmark ms (bit c)) (cond luma 3 2)

unfoldable pub corrected : Bool → (ℕ → ℕ) → ℕ → List ℕ → List ℕ
corrected luma bit context ms = mark (cleared luma bit ms) (bit (min (old_class luma (λ c. is_set ms (bit c))) context))

unfoldable pub correct_line : Grid → Pass → ℕ → ℕ → ℕ → List ℕ → List ℕ → List ℕ
correct_line G d across first n context = up_to (λ i. corrected G.luma (edge_bit G d (across, first + i)) (get_or context i 0)) n

abbrev pub grid_in : TileEdge → Grid
grid_in l = grid_of l.luma l.ss_hor l.ss_ver l.w4.0 l.h4.0

abbrev pub line_done : TileEdge → List ℕ → List ℕ → List ℕ
line_done l = correct_line (grid_in l) (pass_of l.rowwise) l.across l.first l.n

abbrev pub plane_done : Start → Bool → List ℕ → List ℕ → List ℕ
plane_done t luma context ms = cond (corrects t luma) (line_done (line_of t luma) context ms) ms

abbrev pub done : Start → List ℕ → List ℕ → List ℕ → List ℕ
done t context context-uv ms = plane_done t false context-uv (plane_done t true context ms)

pub record Room (luma : Bool) (e len : ℕ) : Type 0 where
  pub two : (e + 32) / 16 < len
  pub four : luma ≡ true → (e + 96) / 16 < len
  pub in-usize : e + 96 < 2 ^ 64

pub record Fits (l : TileEdge) (masks context : ℕ) : Type 0 where
  pub proper : Proper (grid_in l)
  pub width : l.w4.0 ≤ 4096
  pub height : l.h4.0 ≤ 4096
  pub across-in : l.across < units_of (grid_in l) (pass_of l.rowwise)
  pub end-in : l.first + l.n ≤ units_of (grid_in l) (other (pass_of l.rowwise))
  pub long : 640 * frame_records l.w4.0 l.h4.0 ≤ masks
  pub context-long : l.n ≤ context
