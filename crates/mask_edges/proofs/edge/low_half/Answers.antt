-- A mask of ones is a remainder.
use Rattle.bits.proofs.Bits.{one_shl}
use lib.Bits.{and_mask}
use native.Mathlib.Omega.{arith}
use Rattle.mask_edges.proofs.edge.low_half.Goals as goal

pub returns : goal.returns
returns c = rw (one_shl c.args.half 64 (omega arith)) (and_mask c.args.w c.args.half)
