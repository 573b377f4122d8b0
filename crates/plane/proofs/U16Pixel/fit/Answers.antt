-- A sample of 16 bits is below 2 ^ 16, and so below every higher power.
use native.Mathlib.Omega.{arith}
use lib.Pow.{pow_mono}
use borrow.Author.Tests.{leb-true}
use Rattle.plane.proofs.U16Pixel.fit.Goals as goal

pub returns : goal.returns
returns c t k = omega (arith, c.items_fit k, pow_mono (leb-true 16 c.args.depth t))
