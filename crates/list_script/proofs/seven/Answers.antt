-- The word says which line.
use Rattle.std.proofs.Common.{ap, sym, ◌∙◌}
use Rattle.list_fields.specs.Word.{packed}
use Rattle.list_script.proofs.Lines.{seven-frame, seven-block, seven-form}
use Rattle.list_script.proofs.seven.Goals as goal

pub returns-then-w-word : goal.returns-then-w-word
returns-then-w-word c =
    seven-frame _ _ _ (c.word-w.ensures ∙ ap packed c.field_at.ensures) (c.if-w-word.true ∙ c.word.ensures) c.frame.ensures

pub returns-then-w-word-2 : goal.returns-then-w-word-2
returns-then-w-word-2 c =
    seven-block _ _ _ (c.word-w.ensures ∙ ap packed c.field_at.ensures) (λ e. c.if-w-word.false (e ∙ sym c.word.ensures))
    (c.if-w-word-2.true ∙ c.word-else-w-word.ensures) c.block.ensures

pub returns-else-w-word-2 : goal.returns-else-w-word-2
returns-else-w-word-2 c =
    seven-form _ _ (c.word-w.ensures ∙ ap packed c.field_at.ensures) (λ e. c.if-w-word.false (e ∙ sym c.word.ensures))
    (λ e. c.if-w-word-2.false (e ∙ sym c.word-else-w-word.ensures))
