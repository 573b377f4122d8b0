-- The laws of a line hold: they are proved in Laws.
use Rattle.line.proofs.Laws.{line-laws}
use Rattle.line.proofs.line_laws.Goals as goal

pub returns : goal.returns
returns c = line-laws
