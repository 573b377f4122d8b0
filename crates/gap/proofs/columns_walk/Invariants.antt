-- `columns_walk` meets its contract: after rec records the state is that of their units.
use mathlib.Core.Path.{◌≡◌}
use Prim.Native.Nat.{◌*◌, ◌/◌, ◌^◌, ◌≤◌}
use Rattle.gap.specs.Track.{track, column_words}
use Rattle.gap.proofs.columns_walk.Given as goal

abbrev pub invariant-loop-rec : goal.invariant-loop-rec
invariant-loop-rec l = (l.rec ≤ l.records) × (l.t ≡ track (column_words l.masks l.luma l.halves l.base (32 / 2 ^ l.ss)) l.width (l.rec * (32 / 2 ^ l.ss)))
