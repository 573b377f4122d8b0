-- Each answer is the one of its count of fields.
use native.Mathlib.Omega.{arith}
use Rattle.list_script.proofs.Lines.{has_of, line-five, line-seven, line-form}
use Rattle.list_script.proofs.read_line.Goals as goal

pub level-requires : goal.level-requires
level-requires c = has_of _ 5 _ c.requires (omega arith) c.start_of.ensures c.if-start_of-s.true

pub returns-then-start_of-s : goal.returns-then-start_of-s
returns-then-start_of-s c = line-five _ _ _ c.start_of.ensures c.if-start_of-s.true c.level.ensures

pub seven-requires : goal.seven-requires
seven-requires c = has_of _ 7 _ c.requires (omega arith) c.start_of-else-start_of-s.ensures c.if-start_of-s-2.true

pub returns-then-start_of-s-2 : goal.returns-then-start_of-s-2
returns-then-start_of-s-2 c =
    line-seven _ _ _ _ c.start_of.ensures c.if-start_of-s.false c.start_of-else-start_of-s.ensures
    c.if-start_of-s-2.true c.seven.ensures

pub returns-else-start_of-s-2 : goal.returns-else-start_of-s-2
returns-else-start_of-s-2 c = line-form _ _ _ c.start_of.ensures c.if-start_of-s.false c.start_of-else-start_of-s.ensures c.if-start_of-s-2.false
