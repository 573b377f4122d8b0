-- `take_lines` meets its contract: what is left of the bytes goes on from what is kept as all of them did, from one line's end to the next.
use Prim.Native.Nat.{◌-◌}
use lib.ListN.{length}
use Rattle.list_steps.specs.Steps.{kept_of}
use Rattle.list_call.proofs.LinesTaken.{Taking}
use Rattle.list_call.proofs.take_lines.Given as goal

abbrev pub invariant-loop-e : goal.invariant-loop-e
invariant-loop-e l = Taking (kept_of l.initial.k l.initial.levels l.initial.masks) l.part (kept_of l.k l.levels l.masks) l.at l.e

abbrev pub decreases-loop-e : goal.decreases-loop-e
decreases-loop-e l = length l.part - l.at
