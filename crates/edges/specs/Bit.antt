-- The bit of an edge, as the code finds it.
--   Near            what is asked: a plane's subsampling, and a width and a unit of a frame
use Rattle.std.specs.Prelude.{ℕ, ◌≤◌}

pub record Near (ss-hor ss-ver w4 across along : ℕ) : Type 0 where
  pub hor-le : ss-hor ≤ 1
  pub ver-le : ss-ver ≤ 1
  pub width : w4 ≤ 4096
  pub across-le : across ≤ 4096
  pub along-le : along ≤ 4096
