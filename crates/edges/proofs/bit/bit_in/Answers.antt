-- `bit_in` meets its contract, in luma and in chroma.
use native.Mathlib.Omega.{arith}
use Rattle.edges.proofs.EdgeBits.{sides}
use Rattle.edges.proofs.bit.bit_in.Goals as goal

pub chroma_bit-requires : goal.chroma_bit-requires
chroma_bit-requires c = let s = sides c.args.ss 0 (omega arith) in (omega arith, omega arith, omega arith, omega arith)
