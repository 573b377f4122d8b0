-- The limit test is the standard's, once its inner part is known to hold: each return by what the tests before it answered.
use Rattle.std.proofs.Common.{arith, le-ltb, lt-ltb}
use Rattle.line.specs.Place.{of}
use Rattle.loops.proofs.Bools.{no, yes}
use Rattle.line.proofs.Flags.{beyond}
use Rattle.line.proofs.filter_mask.Goals as goal

pub returns-then-wd-lt6 : goal.returns-then-wd-lt6
returns-then-wd-lt6 c =
    let w = c.args.wd in
    rw (
      beyond c.args.wd c.args.t (of c.args.l) c.requires,
      lt-ltb w 6 c.if-wd-lt6.true,
      lt-ltb w 8 (omega arith),
    )

pub returns-then-not-both_near : goal.returns-then-not-both_near
returns-then-not-both_near c =
    rw (
      beyond c.args.wd c.args.t (of c.args.l) c.requires,
      le-ltb c.args.wd 6 c.if-wd-lt6.false,
      no c.both_near.ensures c.if-not-both_near.true,
    )

pub returns-then-wd-lt8 : goal.returns-then-wd-lt8
returns-then-wd-lt8 c =
    let w = c.args.wd in
    rw (
      beyond c.args.wd c.args.t (of c.args.l) c.requires,
      le-ltb w 6 c.if-wd-lt6.false,
      yes c.both_near.ensures c.if-not-both_near.false,
      lt-ltb w 8 c.if-wd-lt8.true,
    )

pub returns : goal.returns
returns c =
    let w = c.args.wd in
    rw (
      beyond c.args.wd c.args.t
          (of c.args.l) c.requires,
      le-ltb w 6 c.if-wd-lt6.false,
      yes c.both_near.ensures c.if-not-both_near.false,
      le-ltb w 8 c.if-wd-lt8.false,
      c.both_near-2.ensures,
    )
