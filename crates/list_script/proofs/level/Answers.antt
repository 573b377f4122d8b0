-- The word and four numbers make a level line.
use Rattle.std.proofs.Common.{arith, ap, refl, sym, ◌∙◌}
use Rattle.list_fields.specs.Word.{packed}
use Rattle.list_script.specs.Line.{line_said}
use Rattle.list_script.proofs.Lines.{level-other, level-form, level-line}
use Rattle.list_script.proofs.NumeralsRead.{number-stored, numbers-all}
use Rattle.list_script.proofs.level.Goals as goal

pub returns-then-word : goal.returns-then-word
returns-then-word c = level-other _ _ (c.word.ensures ∙ ap packed c.field_at.ensures) (λ e. c.if-word.true (e ∙ sym c.word-2.ensures))

pub returns-in_err-columns : goal.returns-in_err-columns
returns-in_err-columns c = ap line_said c.from_residual.ensures ∙ level-form _ (c.in_err-columns.ensures.none.0 refl)

pub returns : goal.returns
returns c =
    let n = c.in_ok-columns.ensures in
    level-line _ _ _ _ _ _ (c.word.ensures ∙ ap packed c.field_at.ensures) (c.if-word.false ∙ c.word-2.ensures) (numbers-all _ n.none.1)
    (number-stored 4 0 _ _ n.some (omega arith)) (number-stored 4 1 _ _ n.some (omega arith)) (number-stored 4 2 _ _ n.some (omega arith)) (number-stored 4 3 _ _ n.some (omega arith))
