-- `take_lines` meets its contract: what is left of the bytes goes on from what is kept as all of them did, from one line's end to the next.
use native.Mathlib.Omega.{arith}
use Rattle.list_call.proofs.LinesTaken.{taking-none, taking_step, taken-all}
use Rattle.list_call.proofs.take_lines.Goals as goal

pub loop-e-init : goal.loop-e-init
loop-e-init c = taking-none _ _ _ c.end_of-e.ensures

pub step-k-requires : goal.step-k-requires
step-k-requires c =
    let i = c.loop-e.invariant in
    omega (arith, i.line, i.at-end)

pub loop-e-preserved : goal.loop-e-preserved
loop-e-preserved c =
    taking_step _ _ _ _ _ _ _ c.loop-e.invariant c.loop-e-test.true c.step-k.ensures c.end_of-e-in-loop-e.ensures

pub returns : goal.returns
returns c = taken-all _ _ _ _ _ c.loop-e.invariant c.loop-e-test.false
