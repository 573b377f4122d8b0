-- The flat test is the standard's: each return by what the tests before it answered.
use Rattle.std.proofs.Common.{le-ltb, lt-ltb}
use Rattle.standard.specs.Masks.{flat_mask}
use Rattle.loops.proofs.Bools.{no, yes}
use Rattle.line.proofs.flat_mask.Goals as goal

pub returns-then-not-both_near : goal.returns-then-not-both_near
unfolding flat_mask
returns-then-not-both_near c = rw (no c.both_near.ensures c.if-not-both_near.true)

pub returns-then-not-both_near-2 : goal.returns-then-not-both_near-2
unfolding flat_mask
returns-then-not-both_near-2 c =
    rw (
      yes c.both_near.ensures c.if-not-both_near.false,
      no c.both_near-2.ensures c.if-not-both_near-2.true,
    )

pub returns-then-wd-lt8 : goal.returns-then-wd-lt8
unfolding flat_mask
returns-then-wd-lt8 c =
    rw (
      yes c.both_near.ensures c.if-not-both_near.false,
      yes c.both_near-2.ensures c.if-not-both_near-2.false,
      lt-ltb c.args.wd 8 c.if-wd-lt8.true,
    )

pub returns : goal.returns
unfolding flat_mask
returns c =
    rw (
      yes c.both_near.ensures c.if-not-both_near.false,
      yes c.both_near-2.ensures c.if-not-both_near-2.false,
      le-ltb c.args.wd 8 c.if-wd-lt8.false,
      c.both_near-3.ensures,
    )
