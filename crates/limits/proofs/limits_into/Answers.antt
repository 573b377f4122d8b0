-- `limits_into` meets its contract where it stores: the law of Lent for number 0.
use mathlib.Core.Path.{refl}
use Rattle.limits.proofs.Lent.{done}
use Rattle.limits.proofs.limits_into.Goals as goal

pub returns : goal.returns
returns c = done _ _ c.in_ok-table.ensures _ refl
