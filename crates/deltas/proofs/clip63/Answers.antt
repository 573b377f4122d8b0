-- `clip63` meets its contract: the law of the clip.
use mathlib.Core.Path.{sym}
use native.Mathlib.Omega.{arith}
use Rattle.deltas.proofs.Steps.{clip-is}
use Rattle.deltas.proofs.clip63.Goals as goal

pub returns : goal.returns
returns c = (rw (c.min.ensures, c.saturating_sub.ensures) (sym (clip-is c.args.sum c.args.offset)), omega arith)
