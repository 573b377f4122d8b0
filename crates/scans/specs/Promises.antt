-- What the tests of numbers 8 and 9 say, in document 01's words.
--   LevelHigh       a level byte of this area above 63 at a unit of the row, or of the `above` lines of units before it
--   SampleHigh      a sample above max among the row's stored lines, or the `above` before them
--   Promises        the tests are true exactly when these hold
use Rattle.std.specs.Prelude.{List, ℕ, ◌+◌, ◌*◌, ◌≤◌, ◌<◌, get_or}
use Rattle.loops.specs.Exactly.{Reflects}
use Rattle.units.specs.Memory.{level_at}
use Rattle.scans.specs.Scan.{levels_high, samples_high}

pub record LevelHigh (ls : List ℕ) (level-stride area width height sb above k : ℕ) : Type 0 where
  pub x : ℕ
  pub y : ℕ
  pub right : x < width
  pub down : y < height
  pub from : k * sb ≤ y + above
  pub to : y < (k + 1) * sb
  pub too-high : 63 < get_or ls (level_at level-stride x y area) 0

pub record SampleHigh (s : List ℕ) (stride max width sb above k : ℕ) : Type 0 where
  pub x : ℕ
  pub y : ℕ
  pub right : x < width
  pub from : 4 * (k * sb) ≤ y + above
  pub to : y < 4 * ((k + 1) * sb)
  pub too-high : max < get_or s (y * stride + x) 0

pub record Promises : Type 0 where
  pub eight : (ls : List ℕ) (level-stride area width height sb above k : ℕ)
      → Reflects (levels_high ls level-stride area width height sb above k) (LevelHigh ls level-stride area width height sb above k)
  pub nine : (s : List ℕ) (stride max width sb above k : ℕ)
      → Reflects (samples_high s stride max width sb above k) (SampleHigh s stride max width sb above k)
