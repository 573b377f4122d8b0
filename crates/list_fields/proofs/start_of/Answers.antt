-- Each turn goes to the next field.
use Rattle.std.proofs.Common.{arith, ◌+◌}
use Rattle.list_fields.proofs.Cuts.{place_none, place-step, place-le}
use Rattle.list_fields.proofs.start_of.Goals as goal

pub loop-init : goal.loop-init
loop-init c = place_none _ _

pub overflow_add-at : goal.overflow_add-at
overflow_add-at c =
    let e = place-step c.args.d c.args.s.now c.loop.counter _ _ c.loop.invariant c.end_of-at.ensures in
    omega (arith, place-le c.args.d c.args.s.now (c.loop.counter + 1))

pub loop-preserved : goal.loop-preserved
loop-preserved c = place-step _ _ _ _ _ c.loop.invariant c.end_of-at.ensures
