-- `table` meets its contract: sharpness 0 has a table.
use native.Mathlib.Omega.{arith}
use Rattle.limits.proofs.Lent.{accepted}
use Rattle.two_workers.proofs.calls.table.Goals as goal

pub unwrap-requires : goal.unwrap-requires
unwrap-requires c = accepted 0 (omega arith) _ c.limits.ensures
