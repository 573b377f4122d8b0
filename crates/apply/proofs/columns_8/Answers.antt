-- `columns_8` meets its contract: it is `pass` of its arguments' call.
use mathlib.Core.Path.{ap}
use native.Mathlib.Omega.{arith}
use Rattle.checks.specs.declared.Call.{Call}
use Rattle.apply.proofs.Answers.{of-call}
use Rattle.apply.proofs.columns_8.Goals as goal

pub pass-requires : goal.pass-requires
pass-requires c _ = rw (ap (λ (x : Call). x.depth) c.call-c.ensures) (omega arith)

pub returns : goal.returns
returns c =
    of-call c.call-c.ensures c.pass.ensures
