-- `check` meets its contract: each test is asked where those before it have failed.
use mathlib.Core.Path.{sym, ◌∙◌}
use Rattle.block.proofs.TestsPassed.{shaped, placed, sides, unblocked, is-5-too, is-6, is-7, is-0}
use Rattle.block.proofs.refusal.check.Goals as goal

pub returns-then-block_bad : goal.returns-then-block_bad
returns-then-block_bad c =
    is-5-too _ _ _ (sym c.shape_bad.ensures ∙ c.if-shape_bad.false)
    (sym c.code_bad.ensures ∙ c.if-code_bad.false) (sym c.block_bad.ensures ∙ c.if-block_bad.true)

pub contexts_bad-requires : goal.contexts_bad-requires
contexts_bad-requires c =
    let b = c.args.b in
    let p = placed b (unblocked b (sym c.block_bad.ensures ∙ c.if-block_bad.false)) in (
      sides b (sym c.shape_bad.ensures ∙ c.if-shape_bad.false)
          (sym c.code_bad.ensures ∙ c.if-code_bad.false),
      p.2,
      p.3,
      c.block_wide-w.ensures,
      c.block_high-h.ensures,
    )

pub returns-then-contexts_bad : goal.returns-then-contexts_bad
returns-then-contexts_bad c =
    is-6 _ _ _ (sym c.shape_bad.ensures
    ∙ c.if-shape_bad.false) (sym c.code_bad.ensures
    ∙ c.if-code_bad.false) (sym c.block_bad.ensures ∙ c.if-block_bad.false)
    (sym c.contexts_bad.ensures ∙ c.if-contexts_bad.true)

pub length_bad-requires : goal.length_bad-requires
length_bad-requires c =
    let b = c.args.b in
    let s = sym c.shape_bad.ensures ∙ c.if-shape_bad.false in
    (sides b s (sym c.code_bad.ensures ∙ c.if-code_bad.false), (shaped b s).1.0)

pub returns-then-length_bad : goal.returns-then-length_bad
returns-then-length_bad c =
    is-7 _ _ _ (sym c.shape_bad.ensures ∙ c.if-shape_bad.false) (sym c.code_bad.ensures ∙ c.if-code_bad.false) (sym c.block_bad.ensures ∙ c.if-block_bad.false)
    (sym c.contexts_bad.ensures ∙ c.if-contexts_bad.false) (sym c.length_bad.ensures ∙ c.if-length_bad.true)

pub returns : goal.returns
returns c =
    is-0 _ _ _ (sym c.shape_bad.ensures ∙ c.if-shape_bad.false) (sym c.code_bad.ensures ∙ c.if-code_bad.false) (sym c.block_bad.ensures ∙ c.if-block_bad.false)
    (sym c.contexts_bad.ensures ∙ c.if-contexts_bad.false) (sym c.length_bad.ensures ∙ c.if-length_bad.false)
