-- What is written of the list.
--   held_of             what is listed from, the level bytes' stride being the frame's width
--   held_in, grid_at    of a pass of a plane, and the units of that plane
--   line_in, plane_in   the edges at line y of a pass; of both passes of a plane
--   Puts                s is stored after what t has, and u has both
--   Wrote               the edges l were written after t, which is then u, and the number of edges listed went from n to m
-- and what the code asks
--   Fits              a frame of 256 by 256 samples at most, and memory that is long enough
--   Inside            a unit of a plane of such a frame
--   Has               room for n bytes more
--   Room              room in t for more edges, of 16 bytes each, after n
use Rattle.std.specs.Prelude.{List, [], ◌++◌, ◌≡◌, ℕ, ◌+◌, ◌*◌, ◌^◌, ◌≤◌, ◌<◌, length}
use Rattle.loops.specs.Run.{cat}
use Rattle.plane.specs.Line.{Pass, columns, rows}
use Rattle.units.specs.Frame.{frame_records}
use Rattle.edges.specs.Edges.{Grid, units_of}
use Rattle.list_text.specs.declared.Text.{Text}
use Rattle.list_text.specs.Text.{Put}
use Rattle.list_edges.specs.Listed.{Held, Edge, grid_in, edges_at, edges_in, lines_text}
use Rattle.list_put.specs.declared.Part.{Part}

abbrev pub held_of : ℕ → ℕ → ℕ → List ℕ → List ℕ → Held
held_of layout w4 h4 levels masks = record { layout = layout; w4 = w4; h4 = h4; level-stride = w4; levels = levels; masks = masks }

abbrev pub held_in : Part → List ℕ → List ℕ → Held
held_in p = held_of p.frame.layout p.frame.w4.0 p.frame.h4.0

abbrev pub grid_at : Part → Grid
grid_at p = grid_in (held_in p [] []) p.plane

abbrev pub line_in : Held → ℕ → Pass → ℕ → List Edge
line_in s p d y = cat (λ x. edges_at s p d x y) (units_of (grid_in s p) columns)

abbrev pub plane_in : Held → ℕ → List Edge
plane_in s p = edges_in s p columns ++ edges_in s p rows

abbrev pub Has : Text → ℕ → Type 0
Has t n = t.len + n ≤ 393255

abbrev pub Puts : Text → List ℕ → Text → Type 0
Puts t s u = Put t.bytes t.len s u.bytes u.len

pub record Wrote (t : Text) (n : ℕ) (l : List Edge) (u : Text) (m : ℕ) : Type 0 where
  pub text : Puts t (lines_text l) u
  pub count : m ≡ n + length l

pub record Fits (w4 h4 levels masks : ℕ) : Type 0 where
  pub width : w4 ≤ 64
  pub height : h4 ≤ 64
  pub levels-long : 4 * w4 * h4 ≤ levels
  pub masks-long : 640 * frame_records w4 h4 ≤ masks

pub record Inside (p : Part) (x y : ℕ) : Type 0 where
  pub plane-in : p.plane < 3
  pub width : p.frame.w4.0 ≤ 64
  pub height : p.frame.h4.0 ≤ 64
  pub x-in : x < units_of (grid_at p) columns
  pub y-in : y < units_of (grid_at p) rows

pub record Room (t : Text) (n more : ℕ) : Type 0 where
  pub text : Has t (16 * more)
  pub count : n + more < 2 ^ 64
