-- The samples about a superblock row.
--   WithinRow P n d k i  the sample at index i of the plane stands in the stored lines of superblock row k or, in rows, in the n above. Number 9 looks at 8
--   Agree P n d k s t    two lists of one length that are the same there
use Rattle.std.specs.Prelude.{List, ◌≡◌, ℕ, suc, ◌+◌, ◌*◌, ◌/◌, ◌%◌, ◌≤◌, ◌<◌, length, get_or}
use Rattle.plane.specs.Line.{Pass, pass_no}
use Rattle.plane.specs.Plane.{Plane}

pub record WithinRow (P : Plane) (n : ℕ) (d : Pass) (k i : ℕ) : Type 0 where
  pub right : i % P.stride < 4 * (P.records * P.record_units)
  pub from : 4 * (k * P.sb) ≤ i / P.stride + n * pass_no d
  pub to : i / P.stride < 4 * (suc k * P.sb)

pub record Agree (P : Plane) (n : ℕ) (d : Pass) (k : ℕ) (s t : List ℕ) : Type 0 where
  pub long : length s ≡ length t
  pub same : (i : ℕ) → WithinRow P n d k i → get_or s i 0 ≡ get_or t i 0
