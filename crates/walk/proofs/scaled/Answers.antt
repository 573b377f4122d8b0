-- A byte shifted by at most 4 loses no bit.
use Rattle.std.proofs.Common.{◌-◌, arith, shl_exact}
use Rattle.walk.proofs.scaled.Goals as goal

pub returns : goal.returns
returns c = shl_exact {a = c.args.x} 8 (c.args.depth - 8) 32 (omega arith) (omega arith)
