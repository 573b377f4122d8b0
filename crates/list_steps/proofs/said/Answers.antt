-- A line that is too long says nothing; any other is read.
use Rattle.list_steps.specs.Steps.{said}
use borrow.Author.Tests.{lt-ltb, le-ltb}
use mathlib.Core.Path.{refl}
use Rattle.list_steps.proofs.said.Goals as goal

pub returns-then-line-gt-LONGEST : goal.returns-then-line-gt-LONGEST
unfolding said
returns-then-line-gt-LONGEST c = rw (lt-ltb _ _ c.if-line-gt-LONGEST.true) refl

pub returns : goal.returns
unfolding said
returns c = rw (le-ltb _ _ c.if-line-gt-LONGEST.false) c.read_line.ensures
