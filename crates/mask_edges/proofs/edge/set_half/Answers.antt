-- With no bits the word is as it was.
use mathlib.Core.Path.{◌≡◌, sym}
use native.Mathlib.Omega.{arith}
use lib.Bits.{or_zero_r}
use lib.ListN.{get_or}
use lib.Seq.{set-get_or}
use Rattle.mask_edges.proofs.edge.set_half.Goals as goal

pub returns-else-bits-gt0 : goal.returns-else-bits-gt0
returns-else-bits-gt0 c =
    let a = c.args in
    let e : a.bits ≡ 0 = omega arith in
    rw (e, or_zero_r (get_or a.masks.now a.at 0)) (sym (set-get_or a.masks.now a.at 0))
