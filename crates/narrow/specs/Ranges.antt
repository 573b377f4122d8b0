-- What the narrow filter asks for.
--   Half half       half the number of sample values of a depth, of 12 bits at most
--   Inner half l    the samples that it reads are of that depth
use Rattle.std.specs.Prelude.{ℕ, ◌*◌, ◌<◌, ◌≤◌}
use Rattle.line.specs.declared.LineSamples.{LineSamples}

pub record Half (half : ℕ) : Type 0 where
  pub some : 0 < half
  pub most : half ≤ 2048

pub record Inner (half : ℕ) (l : LineSamples) : Type 0 where
  pub depth : Half half
  pub p1 : l.p1 < 2 * half
  pub p0 : l.p0 < 2 * half
  pub q0 : l.q0 < 2 * half
  pub q1 : l.q1 < 2 * half
