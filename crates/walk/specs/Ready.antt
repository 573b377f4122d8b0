-- What the walk asks for, at the set places alone.
--   Ready levels u size n     at place n the level bytes are there and at most 63, and the samples are in a list of that size
--   Walkable levels u size    at every set place; a step along the level bytes is no longer than their list
--   InRange m u s             the samples read at the set places are below m
use Rattle.std.specs.Prelude.{◌≡◌, ℕ, ◌+◌, ◌-◌, ◌*◌, ◌<◌, ◌≤◌, true, List, length, slice_index_or}
use Rattle.bits.specs.Bit.{has_bit}
use Rattle.line.specs.Width.{reads}
use Rattle.piece.specs.Samples.{PieceUnder}
use Rattle.walk.specs.declared.UnitLine.{UnitLine}
use Rattle.walk.specs.Walk.{set_in, len_at, index_at}

pub record Ready (levels : List ℕ) (u : UnitLine) (size n : ℕ) : Type 0 where
  pub inside : u.at + n * u.along < length levels
  pub behind : u.back ≤ u.at + n * u.along
  pub level : slice_index_or levels (u.at + n * u.along) 0 ≤ 63
  pub before : slice_index_or levels (u.at + n * u.along - u.back) 0 ≤ 63
  pub from : reads (len_at u n) * u.sample_step ≤ index_at u n
  pub to : index_at u n + 3 * u.line_step + (reads (len_at u n) - 1) * u.sample_step < size

pub record Walkable (levels : List ℕ) (u : UnitLine) (size : ℕ) : Type 0 where
  pub step : u.along ≤ length levels
  pub ready : (n : ℕ) → has_bit (set_in u) n ≡ true → Ready levels u size n

pub record InRange (m : ℕ) (u : UnitLine) (s : List ℕ) : Type 0 where
  pub piece : (n : ℕ) → has_bit (set_in u) n ≡ true → PieceUnder m (reads (len_at u n)) u.line_step u.sample_step (index_at u n) s
