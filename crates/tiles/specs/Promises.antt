-- What holds of a frame of several tiles.
use Rattle.std.specs.Prelude.{true, ◌&&◌, ◌||◌, ◌≡◌, ℕ, ◌<◌, eqb}
use mathlib.Core.List.{List, Memᴰ}
use Rattle.bits.specs.Mark.{is_set}
use Rattle.standard.specs.Edge.{Frame}
use Rattle.plane.specs.Line.{Pass, Piece, other}
use Rattle.edges.specs.Edges.{Grid, units_of, classes, edge_bit, edge}
use Rattle.covering.specs.Front.{Tile}
use Rattle.covering.specs.Standard.{applies_at, filtered_edge}
use Rattle.drawn.specs.Run.{drawn_class}
use Rattle.tiles.specs.Example.{Example}
use Rattle.tiles.specs.Tiles.{turned, In, AllApart, TilesRecorded, Fix, InTiles}

pub record Promises : Type 0 where
  -- tiles do not touch each other's units: after all of them, each unit has what its own tile draws
  pub join : (D : Frame) (plane : ℕ) (G : Grid) (start : ℕ) (ts : List Tile) (m n : List ℕ) → TilesRecorded D plane G start ts m n → AllApart ts
      → (d : Pass) (p : Piece) → p.0 < units_of G d → p.1 < units_of G (other d) → (T : Tile) → Memᴰ T ts → In T d p → (c : ℕ) → c < classes G
      → is_set n (edge_bit G d p c) ≡ (is_set m (edge_bit G d p c) || (applies_at D plane d p.1 p.0 && eqb (drawn_class D plane (turned d T) d p) c))
  -- at a tile's start 7.14.2 always filters, as a correction assumes
  pub at-start : (D : Frame) (plane : ℕ) (G : Grid) (start : ℕ) (ts : List Tile) (m n : List ℕ) → TilesRecorded D plane G start ts m n
      → (d : Pass) (p : Piece) (T : Tile) → Memᴰ T ts → In T d p → p.0 ≡ (turned d T).x0 → applies_at D plane d p.1 p.0 ≡ true
  -- once the tiles' starts are corrected, the edge at each unit is 7.14.2's, of 7.14.3's class, and there is none outside the frame
  pub edges : (D : Frame) (plane : ℕ) (G : Grid) (start : ℕ) (ts : List Tile) (l : List Fix) (m n o : List ℕ) → InTiles D plane G start ts l m n o
      → (d : Pass) (p : Piece) → edge G o d p ≡ filtered_edge D plane d p.1 p.0
  -- there is such a frame, recorded and corrected by accepted calls
  pub example : Example
