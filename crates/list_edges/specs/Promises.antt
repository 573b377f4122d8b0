-- What is promised of the list.
--   IsEdge s e       e is an edge of the frame, with its class and level, and not at unit 0
--   Before e f       e stands before f: by plane, pass, then y, then x
--   Ordered          every element stands before those after it
--   Promises         the list has the edges of the frame, each once, in order
use mathlib.Core.List.{List, [], ◌∷◌, Memᴰ}
use Rattle.std.specs.Prelude.{◌⊎◌, ◌≡◌, ◌<◌}
use Rattle.std.proofs.Math.Option.{some}
use Rattle.loops.specs.Exactly.{Exactly}
use Rattle.loops.specs.Run.{All}
use Rattle.plane.specs.Line.{columns, rows, pass_no}
use Rattle.plane.specs.Plane.{unit}
use Rattle.edges.specs.Edges.{units_of, edge}
use Rattle.list_edges.specs.Listed.{Held, Edge, planes, grid_in, level_in, edges_of}

pub record IsEdge (s : Held) (e : Edge) : Type 0 where
  pub plane-in : e.plane < planes s
  pub x-in : e.x < units_of (grid_in s e.plane) columns
  pub y-in : e.y < units_of (grid_in s e.plane) rows
  pub inner : (unit e.pass e.x e.y).0 ≡ 0 → ⊥
  pub class-is : edge (grid_in s e.plane) s.masks e.pass (unit e.pass e.x e.y) ≡ some e.class
  pub level-is : e.level ≡ level_in s e.plane e.pass e.x e.y

abbrev pub Before : Edge → Edge → Type 0
Before e f =
    (e.plane < f.plane)
    ⊎ ((e.plane ≡ f.plane)
    × ((pass_no e.pass < pass_no f.pass)
    ⊎ ((e.pass ≡ f.pass) × ((e.y < f.y) ⊎ ((e.y ≡ f.y) × (e.x < f.x))))))

abbrev pub Ordered : List Edge → Type 0
Ordered [] = Unit {0}
Ordered (e ∷ l) = All (Before e) l × Ordered l

pub record Promises : Type 0 where
  pub listed : (s : Held) (e : Edge) → Exactly (Memᴰ e (edges_of s)) (IsEdge s e)
  pub ordered : (s : Held) → Ordered (edges_of s)
