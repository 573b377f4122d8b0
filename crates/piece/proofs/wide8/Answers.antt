-- The wide output of three samples a side is stored: by the contract of the filter.
use lib.Dec.{lit≤}
use native.Mathlib.Omega.{arith}
use Rattle.line.proofs.Sums.{form8}
use Rattle.piece.proofs.Lines.{less-below, held-below}
use Rattle.piece.proofs.FilterStores.{wide-stored, wide-range}
use Rattle.piece.proofs.wide8.Goals as goal

pub store3-requires : goal.store3-requires
store3-requires g c =
    let b = wide-range form8 c.args.l c.wide-f.result c.wide-f.ensures g.P.Pixel.top (less-below {k = 4} (omega arith) (held-below c.requires.2)) in (
      c.requires.0,
      c.requires.1,
      b 0 (lit≤ tt),
      b 1 (lit≤ tt),
      b 2 (lit≤ tt),
      b 3 (lit≤ tt),
      b 4 (lit≤ tt),
      b 5 (lit≤ tt),
    )

pub returns : goal.returns
returns g c =
    let w = c.wide-f in
    let a = c.args in
    wide-stored form8 a.l w.result w.ensures a.q a.sample_step (g.P.Pixel.samples a.s.now) _ c.store3.ensures
