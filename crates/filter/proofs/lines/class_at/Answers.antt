-- `class_at` meets its contract, in luma and in chroma.
use native.Mathlib.Omega.{arith}
use mathlib.Core.Path.{◌∙◌}
use Rattle.filter.proofs.LineWords.{luma-class, chroma-class, no-class}
use Rattle.filter.proofs.lines.class_at.Goals as goal

pub returns-then-luma : goal.returns-then-luma
returns-then-luma c = c.halves_at.ensures ∙ luma-class c.args.masks.now c.args.luma c.args.at
    c.args.first c.args.n c.args.h c.args.class
    c.if-luma.true (omega arith)

pub returns-then-class-lt2 : goal.returns-then-class-lt2
returns-then-class-lt2 c = c.halves_at-then-class-lt2.ensures ∙ chroma-class c.args.masks.now c.args.luma
    c.args.at c.args.first c.args.n
    c.args.h c.args.class c.if-luma.false (omega arith)

pub returns : goal.returns
returns c =
    no-class c.args.masks.now c.args.luma c.args.at
    c.args.first c.args.n c.args.h c.args.class
    c.if-luma.false (omega arith)
