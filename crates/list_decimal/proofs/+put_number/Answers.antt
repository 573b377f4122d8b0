-- `put_number` meets its contract: a number of several digits is its tenth and one digit more; the measure is the number.
use mathlib.Core.Path.{ap}
use native.Mathlib.Omega.{arith}
use lib.ListN.{length}
use Rattle.list_decimal.proofs.Numerals.{decimal-one, put_one, put-more, longer}
use Rattle.list_decimal.proofs.+put_number.Goals as goal

pub bounds-out-at : goal.bounds-out-at
bounds-out-at t c = omega (arith, ap length (decimal-one _ c.if-n-lt10.true), c.requires)

pub returns-then-n-lt10 : goal.returns-then-n-lt10
returns-then-n-lt10 t c = put_one _ _ _ c.if-n-lt10.true c.requires

pub put_number-e-requires : goal.put_number-e-requires
put_number-e-requires t c =
    let m = longer _ c.if-n-lt10.false in
    (omega arith, omega arith)

pub bounds-out-e : goal.bounds-out-e
bounds-out-e t c =
    let m = longer _ c.if-n-lt10.false in
    omega (arith, c.put_number-e.ensures.0, c.put_number-e.auto.out)

pub overflow_add-result-2 : goal.overflow_add-result-2
overflow_add-result-2 t c =
    let m = longer _ c.if-n-lt10.false in
    omega (arith, c.put_number-e.ensures.0, c.put_number-e.auto.out)

pub returns : goal.returns
returns t c = put-more _ _ _ _ _ c.if-n-lt10.false c.requires c.put_number-e.ensures.0 c.put_number-e.ensures.1
