-- After a refusal nothing changes; else the line is counted, and taken.
use Rattle.std.proofs.Common.{◌∙◌, ap}
use Rattle.list_steps.specs.Steps.{Kept, kept_of, said, taken}
use Rattle.list_steps.proofs.Lines.{step-none, step-taken}
use Rattle.list_steps.proofs.step.Goals as goal

pub returns-then-c-ne0 : goal.returns-then-c-ne0
returns-then-c-ne0 c = step-none (kept_of c.args.c c.args.levels.now c.args.masks.now) _ c.if-c-ne0.true

pub returns-in-Ok : goal.returns-in-Ok
returns-in-Ok c =
    let a = c.args in
    step-taken (kept_of a.c a.levels.now a.masks.now) a.line.now c.if-c-ne0.false
    (c.in-Ok.ensures ∙ ap (λ (k : Kept). taken k (said a.line.now)) (c.counted-d.ensures a.levels.now a.masks.now))

pub returns-in-Err : goal.returns-in-Err
returns-in-Err c =
    let a = c.args in
    step-taken (kept_of a.c a.levels.now a.masks.now) a.line.now c.if-c-ne0.false
    (c.refused.ensures c.taken.new.levels c.taken.new.masks ∙ c.in-Err.ensures
    ∙ ap (λ (k : Kept). taken k (said a.line.now)) (c.counted-d.ensures a.levels.now a.masks.now))
