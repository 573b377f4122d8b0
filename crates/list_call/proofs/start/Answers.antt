-- `start` meets its contract by computation.
use mathlib.Core.Path.{refl}
use Rattle.list_call.specs.Listing.{start}
use Rattle.list_call.proofs.start.Goals as goal

pub returns : goal.returns
unfolding start
returns c = refl
