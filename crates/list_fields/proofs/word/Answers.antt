-- A word of more than 7 bytes has the number 0; of the others what is left is empty at the end.
use Rattle.std.proofs.Common.{arith}
use Rattle.list_fields.proofs.Words.{packed-long, packed-done}
use Rattle.list_fields.proofs.word.Goals as goal

pub returns-then-s-gt7 : goal.returns-then-s-gt7
returns-then-s-gt7 c = packed-long _ c.if-s-gt7.true

pub returns : goal.returns
returns c = packed-done c.args.s.now c.loop-b.b-index _ (omega arith) (omega arith) c.loop-b.invariant.pack
