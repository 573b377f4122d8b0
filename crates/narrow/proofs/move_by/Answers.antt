-- A moved sample is the standard's: within, below and above the samples' range, which a difference below 0 wraps far above.
use Rattle.std.proofs.Common.{arith}
use Rattle.line.proofs.Narrow.{moved-low, moved_plain, moved-high}
use Rattle.narrow.proofs.move_by.Goals as goal

pub returns-then-x-half : goal.returns-then-x-half
returns-then-x-half c =
    let a = c.args in
    moved_plain a.half a.s a.a a.b _ (omega arith) (omega arith) c.if-x-half.true (omega arith)

pub returns-then-up-b : goal.returns-then-up-b
returns-then-up-b c =
    let a = c.args in moved-low a.half a.s a.a a.b (omega arith) (omega arith)

pub returns-else-up-b : goal.returns-else-up-b
returns-else-up-b c =
    let a = c.args in moved-high a.half a.s a.a a.b (omega arith) (omega arith) (omega arith)
