-- The sides and the place are those of the standard's size.
use native.Mathlib.Omega.{arith}
use Rattle.decomp.proofs.Fills.{inside}
use Rattle.decomp.proofs.put_tx.Goals as goal

pub put_cells-requires : goal.put_cells-requires
put_cells-requires c =
    let i = inside _ c.args.y c.args.x _ _ c.requires.0 c.requires.1 c.requires.2 c.tx_wide-w.ensures
    c.tx_high-h.ensures in
    omega arith
