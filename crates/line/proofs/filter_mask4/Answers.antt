-- The limit test of p1 p0 q0 q1 is the standard's at length 4: each return by what the tests before it answered.
use Rattle.standard.specs.Masks.{filter_mask}
use Rattle.loops.proofs.Bools.{no, yes}
use Rattle.line.proofs.Flags.{and-true}
use Rattle.line.proofs.filter_mask4.Goals as goal

pub returns-then-not-both_near : goal.returns-then-not-both_near
unfolding filter_mask
returns-then-not-both_near c = rw (no c.both_near.ensures c.if-not-both_near.true)

pub returns : goal.returns
unfolding filter_mask
returns c = rw (yes c.both_near.ensures c.if-not-both_near.false, c.from.ensures, c.abs_diff.ensures, c.from-2.ensures, c.abs_diff-2.ensures) (and-true _)
