-- Each sample is capped as it is stored.
use Rattle.std.proofs.Common.{◌-◌, ◌*◌}
use Rattle.replay_line.specs.Capped.{Capped}
use Rattle.replay_line.proofs.load.Given as goal

abbrev pub invariant-loop-n : goal.invariant-loop-n
invariant-loop-n g l = Capped (256 * l.scale - 1) (g.P.Pixel.samples l.s)
