-- The wide output of six samples a side is stored: by the contract of the filter.
use lib.Dec.{lit≤}
use Rattle.line.proofs.Sums.{form16}
use Rattle.piece.proofs.Lines.{held-below}
use Rattle.piece.proofs.FilterStores.{wide-stored, wide-range}
use Rattle.piece.proofs.wide16.Goals as goal

pub store6-requires : goal.store6-requires
store6-requires g c =
    let b = wide-range form16 c.args.l c.wide-f.result c.wide-f.ensures g.P.Pixel.top (held-below c.requires.2) in (
      c.requires.0,
      c.requires.1,
      b 0 (lit≤ tt),
      b 1 (lit≤ tt),
      b 2 (lit≤ tt),
      b 3 (lit≤ tt),
      b 4 (lit≤ tt),
      b 5 (lit≤ tt),
      b 6 (lit≤ tt),
      b 7 (lit≤ tt),
      b 8 (lit≤ tt),
      b 9 (lit≤ tt),
      b 10 (lit≤ tt),
      b 11 (lit≤ tt),
    )

pub returns : goal.returns
returns g c =
    let w = c.wide-f in
    let a = c.args in
    wide-stored form16 a.l w.result w.ensures a.q a.sample_step (g.P.Pixel.samples a.s.now) _ c.store6.ensures
