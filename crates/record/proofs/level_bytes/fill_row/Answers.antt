-- A row of units by its invariant: the bytes of the units passed.
use lib.ListN.{length-set}
use native.Mathlib.Omega.{arith}
use mathlib.Core.Path.{refl}
use Rattle.record.proofs.Stores.{row-none, row_step}
use Rattle.record.proofs.level_bytes.fill_row.Goals as goal

pub loop-i-init : goal.loop-i-init
loop-i-init c = (omega arith, refl, row-none _ _ _)

pub loop-i-preserved : goal.loop-i-preserved
loop-i-preserved c = (omega arith, simp length-set c.loop-i.invariant.1, row_step _ _ _ _ _ c.loop-i.invariant.2)
