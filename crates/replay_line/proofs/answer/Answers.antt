-- The samples begin as zeros, which are in range.
use Rattle.std.proofs.Common.{arith}
use Rattle.replay_line.proofs.Caps.{capped-zeros}
use Rattle.replay_line.proofs.answer.Goals as goal

pub filter-requires : goal.filter-requires
filter-requires c = (omega arith, (omega arith, omega arith, omega arith, omega arith, capped-zeros _ 64))

pub filter-requires-in-10 : goal.filter-requires-in-10
filter-requires-in-10 c = (omega arith, (omega arith, omega arith, omega arith, omega arith, capped-zeros _ 64))

pub filter-requires-in_default : goal.filter-requires-in_default
filter-requires-in_default c = (omega arith, (omega arith, omega arith, omega arith, omega arith, capped-zeros _ 64))
