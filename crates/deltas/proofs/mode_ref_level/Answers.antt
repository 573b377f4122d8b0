-- `mode_ref_level` meets its contract: no deltas, reference 0 and the others are the three laws of the deltas in Steps.
use mathlib.Core.Path.{◌∙◌}
use Rattle.deltas.proofs.Steps.{delta-none, delta-intra, delta-inter}
use Rattle.deltas.proofs.Bias.{seen}
use Rattle.deltas.proofs.mode_ref_level.Goals as goal

pub returns-then-enabled-eq0 : goal.returns-then-enabled-eq0
returns-then-enabled-eq0 c = (delta-none _ _ _ _ _ _ c.if-enabled-eq0.true, c.requires.0)

pub returns-then-r-eq0 : goal.returns-then-r-eq0
returns-then-r-eq0 c =
    let u = c.biased-u in (
      delta-intra _ _ _ _ _ _ c.if-enabled-eq0.false u.result _ (u.ensures.0 ∙ seen _ c.biased-arg-1.given)
          c.if-r-eq0.true c.plus_delta.ensures.0,
      c.plus_delta.ensures.1,
    )

pub returns : goal.returns
returns c =
    let u = c.biased-u in
    let v = c.biased-v in (
      delta-inter _ _ _ _ _ _ c.if-enabled-eq0.false u.result _ (u.ensures.0 ∙ seen _ c.biased-arg-1.given)
          c.if-r-eq0.false c.requires.0 v.result (v.ensures.0
          ∙ seen _ c.biased-arg-2-1.given) c.plus_delta-2.ensures.0,
      c.plus_delta-2.ensures.1,
    )
