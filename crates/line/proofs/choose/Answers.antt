-- The answer is the standard's choice: each return by what the tests before it answered.
use Rattle.std.proofs.Common.{sym, ◌∙◌, eq-eqb, ne_eqb}
use Rattle.line.specs.Choice.{choice}
use Rattle.loops.proofs.Bools.{no, yes}
use Rattle.line.proofs.choose.Goals as goal

pub returns-then-not-filter_mask : goal.returns-then-not-filter_mask
unfolding choice
returns-then-not-filter_mask c = rw (no c.filter_mask.ensures c.if-not-filter_mask.true)

pub returns-then-wd-eq4 : goal.returns-then-wd-eq4
unfolding choice
returns-then-wd-eq4 c =
    rw (
      yes c.filter_mask.ensures c.if-not-filter_mask.false,
      eq-eqb c.args.wd 4 c.if-wd-eq4.true,
    )

pub returns-then-not-flat_mask : goal.returns-then-not-flat_mask
unfolding choice
returns-then-not-flat_mask c =
    rw (
      yes c.filter_mask.ensures c.if-not-filter_mask.false,
      ne_eqb c.args.wd 4 c.if-wd-eq4.false,
      no c.flat_mask.ensures c.if-not-flat_mask.true,
    )

pub returns-then-wd-eq6 : goal.returns-then-wd-eq6
unfolding choice
returns-then-wd-eq6 c =
    rw (
      yes c.filter_mask.ensures c.if-not-filter_mask.false,
      yes c.flat_mask.ensures c.if-not-flat_mask.false,
      c.if-wd-eq6.true,
    )

pub returns-then-wd-ne16 : goal.returns-then-wd-ne16
unfolding choice
returns-then-wd-ne16 c =
    rw (
      yes c.filter_mask.ensures c.if-not-filter_mask.false,
      ne_eqb c.args.wd 4 c.if-wd-eq4.false,
      yes c.flat_mask.ensures c.if-not-flat_mask.false,
      ne_eqb c.args.wd 16 c.if-wd-ne16.true,
      ne_eqb c.args.wd 6 c.if-wd-eq6.false,
    )

pub returns-then-flat_mask2 : goal.returns-then-flat_mask2
unfolding choice
returns-then-flat_mask2 c =
    rw (
      yes c.filter_mask.ensures c.if-not-filter_mask.false,
      yes c.flat_mask.ensures c.if-not-flat_mask.false,
      sym c.flat_mask2.ensures ∙ c.if-flat_mask2.true,
      c.if-wd-ne16.false,
    )

pub returns-else-flat_mask2 : goal.returns-else-flat_mask2
unfolding choice
returns-else-flat_mask2 c =
    rw (
      yes c.filter_mask.ensures c.if-not-filter_mask.false,
      yes c.flat_mask.ensures c.if-not-flat_mask.false,
      sym c.flat_mask2.ensures ∙ c.if-flat_mask2.false,
      c.if-wd-ne16.false,
    )
