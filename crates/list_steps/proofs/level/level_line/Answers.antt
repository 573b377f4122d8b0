-- The line is refused by its number, or leaves the level values.
use Rattle.std.proofs.Common.{rules, ◌≡◌, Err, ap, refl}
use Rattle.list_steps.specs.Steps.{kept_of, after_line}
use Rattle.list_steps.specs.declared.Fault.TheVariants.{Refused}
use Rattle.list_steps.proofs.Faults.{refused-some}
use Rattle.list_steps.proofs.Lines.{level-refused, level-done}
use Rattle.list_steps.proofs.level.level_line.Goals as goal

pub returns-in_err-values : goal.returns-in_err-values
returns-in_err-values c = λ l m.
    let e : c.from_residual.result ≡ Err (Refused c.in_err-values.field-0.0) = search rules in
    level-refused (kept_of c.args.c l m) _ _ _ _ c.if-c.false c.in_err-values.ensures.number (refused-some _) (ap (after_line c.args.c l m) e)

pub returns : goal.returns
returns c = λ l m.
    level-done (kept_of c.args.c l m) _ _ _ _ c.if-c.false c.in_ok-values.ensures.number refl c.in_ok-values.ensures.values refl
