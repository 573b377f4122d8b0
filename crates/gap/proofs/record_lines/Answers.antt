-- `record_lines` meets its contract: the lines of one record.
use native.Mathlib.Omega.{arith}
use Rattle.gap.proofs.Shapes.{halves}
use Rattle.gap.proofs.record_lines.Goals as goal

pub line_word-requires : goal.line_word-requires
line_word-requires c =
    let k = halves c.args.g.ss_hor (omega arith) in
    (omega (arith, k.most, c.half_units.ensures), omega (arith, c.in_record-n.ensures, k.two, c.half_units.ensures))
