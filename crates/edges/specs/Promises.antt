-- What is promised of a class.
--   Promises     from the bit of class 0 of a unit of the frame, the class is that of the unit's edge
use Rattle.std.specs.Prelude.{true, List, ◌≡◌, ℕ}
use Rattle.plane.specs.Line.{Pass, Piece}
use Rattle.edges.specs.Edges.{Grid, classes, edge_bit, in_frame, edge}
use Rattle.edges.specs.Class.{class_no, class_in}

pub record Promises : Type 0 where
  pub same : (G : Grid) (ms : List ℕ) (d : Pass) (p : Piece) → in_frame G d p ≡ true
      → class_in ms (classes G) (edge_bit G d p 0) ≡ class_no (edge G ms d p)
