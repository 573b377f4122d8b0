-- A value of at most 9 digits fits; at the end it is the number.
use Rattle.std.proofs.Common.{arith, rules, ◌≤◌, length}
use Rattle.list_decimal.proofs.Numerals.{fits, number-done}
use Rattle.list_decimal.proofs.number.Goals as goal

pub overflow_mul-n : goal.overflow_mul-n
overflow_mul-n c = omega (arith, fits c.loop-b.b-index c.loop-b.n 48 (omega arith) c.loop-b.invariant.small (omega arith))

pub overflow_add-n : goal.overflow_add-n
overflow_add-n c =
    omega (
      arith,
      c.from.ensures,
      fits c.loop-b.b-index c.loop-b.n 57 (omega arith) c.loop-b.invariant.small (omega arith),
    )

pub returns-clause-some : goal.returns-clause-some
returns-clause-some c =
    let some : 1 ≤ length c.args.s.now = search rules in
    number-done c.args.s.now c.loop-b.b-index _ some (omega arith) (omega arith) c.loop-b.invariant.digits c.loop-b.invariant.value
