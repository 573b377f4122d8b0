-- By recursion on two minus depth: the parts of a split stand where they may, and their calls one after the other are the split.
use Prim.Native.Nat.{◌-◌}
use Rattle.decomp.proofs.+decomp_tx.Given as goal

abbrev pub decreases-decomp_tx : goal.decreases-decomp_tx
decreases-decomp_tx l = 2 - l.depth
