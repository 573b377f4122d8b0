-- The line is refused by its number, or begins the frame.
use Rattle.std.proofs.Common.{rules, ◌≡◌, Err, ap, refl}
use Rattle.list_steps.specs.Steps.{kept_of, after_line}
use Rattle.list_steps.specs.declared.Fault.TheVariants.{Refused}
use Rattle.list_steps.proofs.Faults.{refused-some}
use Rattle.list_steps.proofs.Lines.{frame_refused, frame-done}
use Rattle.list_steps.proofs.frame.frame_line.Goals as goal

pub returns-in_err-frame_ok : goal.returns-in_err-frame_ok
returns-in_err-frame_ok c = λ l m.
    let e : c.from_residual.result ≡ Err (Refused c.in_err-frame_ok.field-0.0) = search rules in
    frame_refused (kept_of c.args.c l m) _ _ _ _ _ _ c.if-c.false c.in_err-frame_ok.ensures (refused-some _) (ap (after_line c.args.c l m) e)

pub returns : goal.returns
returns c = λ l m.
    frame-done (kept_of c.args.c l m) _ _ _ _ _ _ c.if-c.false c.in_ok-frame_ok.ensures refl refl
