-- `chunk` meets its contract: the units passed have been taken on, one by one.
use mathlib.Core.Path.{◌≡◌}
use Prim.Native.Nat.{◌≤◌}
use Rattle.gap.specs.Track.{run_t}
use Rattle.gap.proofs.track.chunk.Given as goal

abbrev pub invariant-loop-i : goal.invariant-loop-i
invariant-loop-i l = (l.i ≤ l.m) × (l.t ≡ run_t l.masks l.luma l.halves l.inside l.at l.from l.i l.initial.t)
