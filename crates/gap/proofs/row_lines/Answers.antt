-- `row_lines` meets its contract: the row's lines lie in its halves.
use native.Mathlib.Omega.{arith}
use Rattle.gap.proofs.Shapes.{halves, row-lines}
use Rattle.gap.proofs.row_lines.Goals as goal

pub line_word-requires : goal.line_word-requires
line_word-requires c =
    let a = c.args in
    let k = row-lines a.g.ss_ver a.g.h4.0 a.sb4.0 a.k (omega arith) c.requires.2 (omega arith) in
    let v = halves a.g.ss_ver (omega arith) in
    (omega (arith, v.most, c.half_units.ensures), omega (arith, k.room, v.two, c.half_units.ensures, c.row_units.ensures))
