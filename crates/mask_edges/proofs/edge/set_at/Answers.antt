-- The word is that of the bit.
use native.Mathlib.Omega.{arith}
use mathlib.Core.Path.{◌≡◌}
use Prim.Native.Nat.{◌+◌, ◌*◌, ◌/◌, ◌%◌}
use Rattle.bits.specs.Mark.{mark}
use Rattle.mask_edges.proofs.edge.set_at.Goals as goal

pub returns : goal.returns
unfolding mark
returns c =
    let a = c.args in
    let q : (16 * a.at + a.k) / 16 ≡ a.at = omega (arith, c.requires.1) in
    let r : (16 * a.at + a.k) % 16 ≡ a.k = omega (arith, c.requires.1) in
    rw (q, r, c.set_bits.ensures, c.bit16.ensures)
