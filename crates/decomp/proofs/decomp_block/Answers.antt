-- The rows passed are done, each as wide as the width counts.
use mathlib.Core.Path.{◌≡◌}
use native.Mathlib.Omega.{arith}
use Rattle.units.proofs.Rules.{tx-rule}
use Rattle.decomp.proofs.Blocks.{place_at, block-done}
use Rattle.decomp.proofs.decomp_block.Goals as goal

pub tx_count-columns-requires : goal.tx_count-columns-requires
tx_count-columns-requires c =
    let v = c.requires in
    (v.width.0, v.width.1, rw c.tx_wide.ensures (tx-rule _ v.code).width.low)

pub tx_count-rows-requires : goal.tx_count-rows-requires
tx_count-rows-requires c =
    let v = c.requires in
    (v.height.0, v.height.1, rw c.tx_high.ensures (tx-rule _ v.code).height.low)

pub decomp_row-requires : goal.decomp_row-requires
decomp_row-requires c =
    λ x l. place_at c.args.tx_masks.now _ _ _ _ _ _ _ c.tx_wide.ensures c.tx_high.ensures c.tx_count-columns.ensures
    c.tx_count-rows.ensures c.requires _ x c.loop-y_off-test.true l

pub returns : goal.returns
returns c =
    let e : c.loop-y_off.y_off ≡ c.tx_count-rows.result = omega arith in
    block-done c.args.tx_masks.now _ _ _ _ _ _ _ c.tx_wide.ensures c.tx_high.ensures c.tx_count-columns.ensures
    c.tx_count-rows.ensures _ _ _ e c.loop-y_off.invariant
