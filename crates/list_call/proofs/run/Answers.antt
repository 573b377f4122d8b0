-- `run` meets its contract: after the whole lines, what is left is no line or one.
use Rattle.list_call.proofs.LinesTaken.{run-last, run-whole}
use Rattle.list_call.proofs.run.Goals as goal

pub returns-then-at-script : goal.returns-then-at-script
returns-then-at-script c =
    run-last _ _ _ _ _ c.take_lines-r.ensures c.if-at-script.true c.step.ensures

pub returns : goal.returns
returns c = run-whole _ _ _ _ c.take_lines-r.ensures c.if-at-script.false
