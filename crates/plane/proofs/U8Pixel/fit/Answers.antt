-- A sample of 8 bits is below 2 ^ 8, and so below every higher power.
use native.Mathlib.Omega.{arith}
use lib.Pow.{pow_mono}
use borrow.Author.Tests.{leb-true}
use Rattle.plane.proofs.U8Pixel.fit.Goals as goal

pub returns : goal.returns
returns c t k = omega (arith, c.items_fit k, pow_mono (leb-true 8 c.args.depth t))
