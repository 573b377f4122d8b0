-- The list of the edges of a frame: by plane, pass, then y, then x, in units of the plane.
--   Held               what is listed from: layout, the frame in luma units, the lent memory
--   Edge               one edge
--   planes s           how many planes there are
--   grid_in s p         the units of plane p
--   area p d           which byte of a unit's levels
--   level_in s p d x y  the level of an edge: the byte of the unit at the edge
--   edge_in             the edge of a class at a unit
--   found              a list of one edge, or of none
--   edges_at            the edge at a unit, if there is one; none at unit 0
--   edges_in, edges_of   those of a pass of a plane; of the frame
--   line_text, lines_text, list_text s   an edge, several and the list as text
use Rattle.std.specs.Prelude.{cond, List, [], ◌∷◌, ◌++◌, ℕ, ◌+◌, eqb, length, get_or}
use Rattle.std.proofs.Math.Option.{Option, some, none}
use Rattle.loops.specs.Run.{cat}
use Rattle.plane.specs.Line.{Pass, columns, rows, pass_no}
use Rattle.plane.specs.Plane.{unit}
use Rattle.units.specs.Layout.{has_chroma, ss_hor, ss_ver}
use Rattle.units.specs.Memory.{level_at}
use Rattle.edges.specs.Edges.{Grid, luma_grid, chroma_grid, units_of, edge}
use Rattle.list_text.specs.Text.{header, edge_text, total_text}

pub record Held : Type 0 where
  pub layout : ℕ
  pub w4 : ℕ
  pub h4 : ℕ
  pub level-stride : ℕ
  pub levels : List ℕ
  pub masks : List ℕ

pub record Edge : Type 0 where
  pub plane : ℕ
  pub pass : Pass
  pub x : ℕ
  pub y : ℕ
  pub class : ℕ
  pub level : ℕ

abbrev pub planes : Held → ℕ
planes s = cond (has_chroma s.layout) 3 1

abbrev pub grid_in : Held → ℕ → Grid
grid_in s p =
    cond (eqb p 0) (luma_grid s.w4 s.h4) (chroma_grid (ss_hor s.layout) (ss_ver s.layout) s.w4 s.h4)

abbrev pub area : ℕ → Pass → ℕ
area p d = cond (eqb p 0) (pass_no d) (p + 1)

unfoldable pub level_in : Held → ℕ → Pass → ℕ → ℕ → ℕ
level_in s p d x y = get_or s.levels (level_at s.level-stride x y (area p d)) 0

abbrev pub edge_in : Held → ℕ → Pass → ℕ → ℕ → ℕ → Edge
edge_in s p d x y c = record { plane = p; pass = d; x = x; y = y; class = c; level = level_in s p d x y }

abbrev pub found : Option ℕ → (ℕ → Edge) → List Edge
found none f = []
found (some c) f = f c ∷ []

unfoldable pub edges_at : Held → ℕ → Pass → ℕ → ℕ → List Edge
edges_at s p d x y =
    cond (eqb (unit d x y).0 0) [] (found (edge (grid_in s p) s.masks d (unit d x y)) (edge_in s p d x y))

unfoldable pub edges_in : Held → ℕ → Pass → List Edge
edges_in s p d = cat (λ y. cat (λ x. edges_at s p d x y) (units_of (grid_in s p) columns)) (units_of (grid_in s p) rows)

unfoldable pub edges_of : Held → List Edge
edges_of s = cat (λ p. edges_in s p columns ++ edges_in s p rows) (planes s)

abbrev pub line_text : Edge → List ℕ
line_text e = edge_text e.plane (pass_no e.pass) e.x e.y e.class e.level

abbrev pub lines_text : List Edge → List ℕ
lines_text [] = []
lines_text (e ∷ l) = line_text e ++ lines_text l

unfoldable pub list_text : Held → List ℕ
list_text s = header ++ (lines_text (edges_of s) ++ total_text (length (edges_of s)))
