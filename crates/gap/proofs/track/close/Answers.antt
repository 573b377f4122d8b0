-- `close` meets its contract, with what `clash` ensures.
use mathlib.Core.Path.{ap}
use lib.Bits.{bit_or}
use Rattle.gap.specs.Track.{close_t}
use Rattle.gap.proofs.track.close.Goals as goal

pub returns : goal.returns
unfolding close_t
returns c = ap (bit_or c.args.s.bad) c.clash.ensures
