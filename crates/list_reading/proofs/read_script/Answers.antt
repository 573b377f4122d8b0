-- What is left of the last part is no line or one.
use Rattle.list_reading.proofs.Turns.{ended}
use Rattle.list_reading.proofs.read_script.Goals as goal

pub returns : goal.returns
returns g c = ended _ _ _ _ _ _ _ _ c.parts-p.ensures c.run.ensures
