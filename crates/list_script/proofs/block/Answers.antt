-- Two numbers, three sizes and the word make a block line.
use Rattle.std.proofs.Common.{arith, ap, refl, sym, ◌∙◌}
use Rattle.list_fields.specs.Word.{packed}
use Rattle.list_script.specs.Line.{line_said}
use Rattle.list_script.proofs.Lines.{block-form, block-empty, block-other, block-line}
use Rattle.list_script.proofs.NumeralsRead.{number-stored, numbers-all}
use Rattle.list_script.proofs.block.Goals as goal
use Rattle.list_script.proofs.block.Goals.{then-no_words-via-then-no_words, then-no_words-via-else-no_words+then-word}

pub returns-in_err-x : goal.returns-in_err-x
returns-in_err-x c = ap line_said c.from_residual.ensures ∙ block-form _ (c.in_err-x.ensures.none.0 refl)

pub returns-then-no_words : goal.returns-then-no_words
returns-then-no_words c =
    let n = numbers-all _ c.in_ok-x.ensures.none.1 in
    elim c.then-no_words.branch [
      | then-no_words-via-then-no_words w ↦ block-empty _ n (sym c.no_words.ensures ∙ w.if-no_words.true)
      | then-no_words-via-else-no_words+then-word w ↦
          block-other _ _ n (sym c.no_words.ensures ∙ w.if-no_words.false) (w.word.ensures ∙ ap packed w.field_at.ensures) (λ e. w.if-word.true (e ∙ sym w.word-else-no_words.ensures))
    ]

pub returns : goal.returns
returns c =
    let n = c.in_ok-x.ensures in
    block-line _ _ _ _ (packed c.field_at-4.result.now) _ _ _ _ _ _ (numbers-all _ n.none.1) (sym c.no_words.ensures ∙ c.if-no_words.false)
    (c.word.ensures ∙ ap packed c.field_at.ensures) (c.if-word.false ∙ c.word-else-no_words.ensures)
    (c.word-2.ensures ∙ ap packed c.field_at-2.ensures) (c.word-3.ensures ∙ ap packed c.field_at-3.ensures) (ap packed c.field_at-4.ensures)
    (number-stored 2 0 _ _ n.some (omega arith)) (number-stored 2 1 _ _ n.some (omega arith)) c.block_code.ensures c.tx_code.ensures
    c.uvtx.ensures.0 c.uvtx.ensures.1
