-- `start` meets its contract: `start_t` is its own literal.
use mathlib.Core.Path.{refl}
use Rattle.gap.specs.Track.{start_t}
use Rattle.gap.proofs.track.start.Goals as goal

pub returns : goal.returns
unfolding start_t
returns c = refl
