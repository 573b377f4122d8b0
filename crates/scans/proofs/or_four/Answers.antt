-- `or_four` meets its contract: the places passed are or-ed together.
use mathlib.Core.Path.{refl}
use native.Mathlib.Omega.{arith}
use Rattle.bits.proofs.Words.{or-none, or-more}
use Rattle.scans.specs.Or.{four_lines}
use Rattle.scans.proofs.or_four.Goals as goal

pub loop-x-init : goal.loop-x-init
loop-x-init g c = (omega arith, or-none _)

pub loop-x-preserved : goal.loop-x-preserved
unfolding four_lines
loop-x-preserved g c =
    let a = c.args in (
      omega arith,
      rw (c.at.ensures.number, c.at-in-loop-x.ensures.number, c.at-in-loop-x-2.ensures.number, c.at-in-loop-x-3.ensures.number)
          (or-more _ (four_lines (g.P.Pixel.samples a.s.now) a.a a.b a.c a.d) _ _ _ c.loop-x.invariant.1 refl refl),
    )
