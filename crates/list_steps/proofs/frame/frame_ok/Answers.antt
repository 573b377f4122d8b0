-- Each return rewrites the definition by the tests that led there.
use Rattle.list_steps.specs.Steps.{frame_number}
use borrow.Author.Tests.{lt-ltb, le-ltb}
use mathlib.Core.Path.{refl, sym, ◌∙◌}
use Rattle.list_steps.proofs.frame.frame_ok.Goals as goal

pub returns-then-f-gt7 : goal.returns-then-f-gt7
unfolding frame_number
returns-then-f-gt7 c = rw (lt-ltb _ _ c.if-f-gt7.true) refl

pub returns-then-not-depth_ok : goal.returns-then-not-depth_ok
unfolding frame_number
returns-then-not-depth_ok c = rw (le-ltb _ _ c.if-f-gt7.false, sym c.depth_ok.ensures ∙ c.if-not-depth_ok.true) refl

pub returns-then-layout_ok-side_ok : goal.returns-then-layout_ok-side_ok
unfolding frame_number
returns-then-layout_ok-side_ok c =
    rw (
      le-ltb _ _ c.if-f-gt7.false,
      sym c.depth_ok.ensures
          ∙ c.if-not-depth_ok.false,
      sym c.layout_ok.ensures,
      sym c.side_ok.ensures,
      sym c.side_ok-2.ensures,
      sym c.superblock_ok.ensures,
      c.if-layout_ok-side_ok.true,
    ) refl

pub returns : goal.returns
unfolding frame_number
returns c =
    rw (
      le-ltb _ _ c.if-f-gt7.false,
      sym c.depth_ok.ensures
          ∙ c.if-not-depth_ok.false,
      sym c.layout_ok.ensures,
      sym c.side_ok.ensures,
      sym c.side_ok-2.ensures,
      sym c.superblock_ok.ensures,
      c.if-layout_ok-side_ok.false,
    ) refl
