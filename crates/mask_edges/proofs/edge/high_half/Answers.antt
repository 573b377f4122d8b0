-- A quotient by one half of a word is below the other.
use lib.Pow.{shr_lt, pow_mono}
use native.Mathlib.Nat.{lt_of_lt_of_le}
use native.Mathlib.Omega.{arith}
use Rattle.mask_edges.proofs.edge.high_half.Goals as goal

pub overflow_cast-result-2 : goal.overflow_cast-result-2
overflow_cast-result-2 c =
    record { fits = lt_of_lt_of_le (shr_lt c.args.half c.args.half c.requires.1) (pow_mono {i = c.args.half} {j = 16} (omega arith)) }
