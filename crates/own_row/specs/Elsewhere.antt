-- What a call for one superblock row does not look at: the other rows' own.
--   OtherLevel c i     i is the place of a level byte, of any plane and pass, at a unit line that is not the row's, nor for rows the one above it
--   OtherEdge c e      e is the bit of an edge, of any plane, pass and class, at a unit of the frame that is not the row's
--   Elsewhere c .. ..  level bytes and masks that differ there alone
use Rattle.std.specs.Prelude.{List, ◌≡◌, ℕ, ◌≤◌, ◌<◌, length, get_or}
use Rattle.bits.specs.Mark.{is_set}
use Rattle.plane.specs.Line.{Pass, Piece, other, pass_no}
use Rattle.plane.specs.Plane.{down}
use Rattle.units.specs.Memory.{level_at}
use Rattle.edges.specs.Edges.{units_of, classes, edge_bit}
use Rattle.filter.specs.Filter.{area_of}
use Rattle.checks.specs.declared.Call.{Call}
use Rattle.checks.specs.Call.{call_pass, w4, sb4, grid_of}
use Rattle.apply.specs.Apply.{component_of}
use Rattle.own_row.specs.Own.{OwnLine}

pub record OtherLevel (c : Call) (i : ℕ) : Type 0 where
  pub plane : ℕ
  pub pass : Pass
  pub x : ℕ
  pub y : ℕ
  pub a-plane : plane ≤ 2
  pub right : x < w4 c
  pub line : ¬ OwnLine (grid_of c plane) (sb4 c) c.row (pass_no (call_pass c)) y
  pub at : i ≡ level_at c.level_stride x y (area_of (component_of c plane) pass)

pub record OtherEdge (c : Call) (e : ℕ) : Type 0 where
  pub plane : ℕ
  pub pass : Pass
  pub unit : Piece
  pub class : ℕ
  pub across : unit.0 < units_of (grid_of c plane) pass
  pub along : unit.1 < units_of (grid_of c plane) (other pass)
  pub a-class : class < classes (grid_of c plane)
  pub line : ¬ OwnLine (grid_of c plane) (sb4 c) c.row 0 (down pass unit)
  pub at : e ≡ edge_bit (grid_of c plane) pass unit class

pub record Elsewhere (c : Call) (ls ls' ms ms' : List ℕ) : Type 0 where
  pub levels-long : length ls ≡ length ls'
  pub masks-long : length ms ≡ length ms'
  pub levels : (i : ℕ) → ¬ OtherLevel c i → get_or ls i 0 ≡ get_or ls' i 0
  pub bits : (e : ℕ) → ¬ OtherEdge c e → is_set ms e ≡ is_set ms' e
