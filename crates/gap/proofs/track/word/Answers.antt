-- `word` meets its contract: `word_at` of the halves that it reads.
use borrow.Author.Tests.{eq-eqb, ne_eqb}
use Rattle.gap.specs.Track.{word_at}
use Rattle.gap.proofs.track.word.Goals as goal

pub returns-then-halves-eq2 : goal.returns-then-halves-eq2
unfolding word_at
returns-then-halves-eq2 c = rw (eq-eqb c.args.halves 2 c.if-halves-eq2.true) c.two_halves.ensures

pub returns : goal.returns
unfolding word_at
returns c = rw (ne_eqb c.args.halves 2 c.if-halves-eq2.false) c.two_halves-2.ensures
