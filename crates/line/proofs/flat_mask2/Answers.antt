-- The outer flat test is the standard's: each return by what the tests before it answered.
use Rattle.standard.specs.Masks.{flat_mask2}
use Rattle.loops.proofs.Bools.{no, yes}
use Rattle.line.proofs.flat_mask2.Goals as goal

pub returns-then-not-both_near : goal.returns-then-not-both_near
unfolding flat_mask2
returns-then-not-both_near c = rw (no c.both_near.ensures c.if-not-both_near.true)

pub returns-then-not-both_near-2 : goal.returns-then-not-both_near-2
unfolding flat_mask2
returns-then-not-both_near-2 c =
    rw (
      yes c.both_near.ensures c.if-not-both_near.false,
      no c.both_near-2.ensures c.if-not-both_near-2.true,
    )

pub returns : goal.returns
unfolding flat_mask2
returns c =
    rw (
      yes c.both_near.ensures c.if-not-both_near.false,
      yes c.both_near-2.ensures c.if-not-both_near-2.false,
      c.both_near-3.ensures,
    )
