-- Each part adds its bytes to those read before, and one that adds none is the last.
use Rattle.std.proofs.Common.{arith}
use Rattle.list_reading.proofs.Turns.{reached-more}
use Rattle.list_reading.proofs.parts.Goals as goal

pub returns-then-p-read : goal.returns-then-p-read
returns-then-p-read g c =
    reached-more _ _ _ _ _ _ _ _ _ _ _ _ _ c.loop-p.invariant c.part-p.ensures c.part-p.auto.buf (omega (arith, c.min.ensures))

pub loop-p-preserved : goal.loop-p-preserved
loop-p-preserved g c =
    reached-more _ _ _ _ _ _ _ _ _ _ _ _ _ c.loop-p.invariant c.part-p.ensures c.part-p.auto.buf (omega (arith, c.min.ensures))
