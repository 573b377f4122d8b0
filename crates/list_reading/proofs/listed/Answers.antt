-- The memory is that of the start, and what `put_text` stores is the output.
use Rattle.std.proofs.Common.{ap, ◌∙◌}
use Rattle.list_steps.specs.Steps.{Kept}
use Rattle.list_call.proofs.Runs.{start-line}
use Rattle.list_reading.proofs.Turns.{answered}
use Rattle.list_reading.proofs.listed.Goals as goal

pub read_script-r-requires : goal.read_script-r-requires
read_script-r-requires g c = ap (λ (k : Kept). k.state.line) c.start.ensures ∙ start-line

pub returns : goal.returns
returns g c = answered _ _ _ _ _ _ _ _ c.start.ensures c.read_script-r.ensures c.put_text.ensures
