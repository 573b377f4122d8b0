-- Six numbers make a frame line.
use Rattle.std.proofs.Common.{arith, ap, refl, ◌∙◌}
use Rattle.list_script.specs.Line.{line_said}
use Rattle.list_script.proofs.Lines.{frame-form, frame-line}
use Rattle.list_script.proofs.NumeralsRead.{number-stored, numbers-all}
use Rattle.list_script.proofs.frame.Goals as goal

pub returns-in_err-width : goal.returns-in_err-width
returns-in_err-width c = ap line_said c.from_residual.ensures ∙ frame-form _ (c.in_err-width.ensures.none.0 refl)

pub returns : goal.returns
returns c =
    let n = c.in_ok-width.ensures in
    frame-line _ _ _ _ _ _ _ (numbers-all _ n.none.1) (number-stored 6 0 _ _ n.some (omega arith)) (number-stored 6 1 _ _ n.some (omega arith)) (number-stored 6 2 _ _ n.some (omega arith)) (number-stored 6 3 _ _ n.some (omega arith)) (number-stored 6 4 _ _ n.some (omega arith)) (number-stored 6 5 _ _ n.some (omega arith))
