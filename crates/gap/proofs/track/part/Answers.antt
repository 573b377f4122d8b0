-- `part` meets its contract: the units of the frame, then those past it.
use mathlib.Core.Bool.{false}
use mathlib.Core.Path.{ap, ◌∙◌}
use Prim.Native.Nat.{◌+◌, ◌-◌}
use Rattle.gap.specs.Track.{run_t, part_t}
use Rattle.gap.proofs.track.part.Goals as goal

pub returns : goal.returns
unfolding part_t
returns c =
    let a = c.args in
    c.chunk.ensures
    ∙ ap (run_t a.masks.now a.luma a.halves false a.at (a.from + a.n) (a.end - a.n)) c.chunk-t.ensures
