-- `calc_lf_value` meets its contract: the invariant says that the first j values are stored.
use mathlib.Core.Path.{◌≡◌, refl}
use native.Mathlib.Omega.{arith}
use lib.ListN.{length-set}
use Rattle.levels.proofs.Fills.{stores-none, stores-again}
use Rattle.levels.proofs.Sixteen.{biased-level-is}
use Rattle.levels.proofs.Header.calc_lf_value.Goals as goal

pub loop-j-init : goal.loop-j-init
loop-j-init c = (refl, stores-none _ _ _)

pub loop-j-preserved : goal.loop-j-preserved
loop-j-preserved c =
    let l = c.loop-j in (
      simp length-set l.invariant.0,
      stores-again _ _ l.j _ _ _ l.invariant.1
          (biased-level-is _ _ _ _ _ _ l.j _ _ c.segment_base-base.ensures.0 c.mode_ref_level.ensures.0),
    )

pub returns : goal.returns
returns c = let e : c.loop-j.j ≡ 16 = omega arith in rw (← e) c.loop-j.invariant.1
