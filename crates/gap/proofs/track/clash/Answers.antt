-- `clash` meets its contract: `clash_w` is its own expression.
use mathlib.Core.Path.{refl}
use Rattle.gap.specs.Track.{clash_w}
use Rattle.gap.proofs.track.clash.Goals as goal

pub returns : goal.returns
unfolding clash_w
returns c = refl
