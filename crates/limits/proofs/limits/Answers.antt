-- `limits` meets its contract: the tables are filled from the front, and what lies behind the level is still zero.
use mathlib.Core.Path.{◌≡◌}
use Prim.Native.Nat.{◌<◌}
use native.Mathlib.Omega.{arith}
use borrow.Author.Tests.{lt-ltb, le-ltb}
use borrow.Author.Rules.{rules}
use lib.ListN.{replicate}
use Rattle.loops.proofs.Tables.{fill-next}
use Rattle.standard.specs.Strength.{limit, blimit}
use Rattle.limits.specs.Limits.{limits_of}
use Rattle.limits.proofs.limits.Goals as goal

pub returns-then-sharpness-gt7 : goal.returns-then-sharpness-gt7
unfolding limits_of
returns-then-sharpness-gt7 c = simp (lt-ltb 7 _ c.if-sharpness-gt7.true)

pub loop-level-preserved : goal.loop-level-preserved
unfolding blimit
loop-level-preserved c =
    let l = c.loop-level.level in
    let inv = c.loop-level.invariant in
    let hl : l < 64 = search rules in (
      rw (inv.0, c.outer.ensures, c.inner-limit.ensures.0) (fill-next (blimit _) (replicate 64 0) l hl),
      rw (inv.1, c.inner-limit.ensures.0) (fill-next (limit _) (replicate 64 0) l hl),
    )

pub returns : goal.returns
unfolding limits_of
returns c =
    let inv = c.loop-level.invariant in
    let e : c.loop-level.level ≡ 64 = omega arith in
    simp (le-ltb 7 _ c.if-sharpness-gt7.false, inv.0, inv.1, e, c.from.ensures, c.cap.ensures)
