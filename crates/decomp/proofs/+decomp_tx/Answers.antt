-- By recursion on two minus depth: the parts of a split stand where they may, and their calls one after the other are the split.
use mathlib.Core.Path.{sym, ◌∙◌}
use Prim.Native.Nat.{◌<◌}
use native.Mathlib.Omega.{arith}
use lib.Arith.{lt_of_le-ne}
use Rattle.decomp.proofs.Splits.{decomp-whole, parts, four, across, down}
use Rattle.decomp.proofs.+decomp_tx.Goals as goal

pub returns-then-not-is_split : goal.returns-then-not-is_split
returns-then-not-is_split t c = c.put_tx.ensures ∙ sym (decomp-whole _ _ _ _ _ (sym c.is_split.ensures ∙ c.if-not-is_split.true))

pub decomp_tx-requires : goal.decomp_tx-requires
decomp_tx-requires t c =
    let a = c.args in
    let k = parts a.tx_masks.now a.from a.depth a.y_off a.x_off _ _ _ c.requires (sym c.is_split.ensures ∙ c.if-not-is_split.false)
    c.tx_split-sub.ensures c.tx_wide-w.ensures c.tx_high-h.ensures in
    (omega (arith, k.deeper, c.requires), k.place 0 0 (omega arith) (omega arith) (λ e. omega arith) (λ e. omega arith))

pub decomp_tx-requires-then-h-w : goal.decomp_tx-requires-then-h-w
decomp_tx-requires-then-h-w t c =
    let a = c.args in
    let k = parts a.tx_masks.now a.from a.depth a.y_off a.x_off _ _ _ c.requires (sym c.is_split.ensures ∙ c.if-not-is_split.false)
    c.tx_split-sub.ensures c.tx_wide-w.ensures c.tx_high-h.ensures in
    (omega (arith, k.deeper, c.requires), k.place 0 1 (omega arith) (omega arith) (λ e. omega arith) (λ _. omega (arith, c.if-h-w.true)))

pub decomp_tx-requires-then-h-w-2 : goal.decomp_tx-requires-then-h-w-2
decomp_tx-requires-then-h-w-2 t c =
    let a = c.args in
    let k = parts a.tx_masks.now a.from a.depth a.y_off a.x_off _ _ _ c.requires (sym c.is_split.ensures ∙ c.if-not-is_split.false)
    c.tx_split-sub.ensures c.tx_wide-w.ensures c.tx_high-h.ensures in
    (omega (arith, k.deeper, c.requires), k.place 1 0 (omega arith) (omega arith) (λ _. omega (arith, c.if-h-w.true)) (λ e. omega arith))

pub decomp_tx-requires-then-h-w-3 : goal.decomp_tx-requires-then-h-w-3
decomp_tx-requires-then-h-w-3 t c =
    let a = c.args in
    let k = parts a.tx_masks.now a.from a.depth a.y_off a.x_off _ _ _ c.requires (sym c.is_split.ensures ∙ c.if-not-is_split.false)
    c.tx_split-sub.ensures c.tx_wide-w.ensures c.tx_high-h.ensures in
    (omega (arith, k.deeper, c.requires), k.place 1 1 (omega arith) (omega arith) (λ _. omega (arith, c.if-h-w.true)) (λ _. omega (arith, c.if-h-w.true)))

pub returns-then-h-w : goal.returns-then-h-w
returns-then-h-w t c =
    let a = c.args in
    let k = parts a.tx_masks.now a.from a.depth a.y_off a.x_off _ _ _ c.requires (sym c.is_split.ensures ∙ c.if-not-is_split.false)
    c.tx_split-sub.ensures c.tx_wide-w.ensures c.tx_high-h.ensures in
    four k _ _ c.decomp_tx.ensures _ _ _ c.if-h-w.true c.decomp_tx-then-h-w.ensures c.decomp_tx-then-h-w-2.ensures c.decomp_tx-then-h-w-3.ensures

pub decomp_tx-requires-then-h-w-2-2 : goal.decomp_tx-requires-then-h-w-2-2
decomp_tx-requires-then-h-w-2-2 t c =
    let a = c.args in
    let k = parts a.tx_masks.now a.from a.depth a.y_off a.x_off _ _ _ c.requires (sym c.is_split.ensures ∙ c.if-not-is_split.false)
    c.tx_split-sub.ensures c.tx_wide-w.ensures c.tx_high-h.ensures in
    (omega (arith, k.deeper, c.requires), k.place 0 1 (omega arith) (omega arith) (λ e. omega arith) (λ _. omega (arith, c.if-h-w-2.true)))

pub returns-then-h-w-2 : goal.returns-then-h-w-2
returns-then-h-w-2 t c =
    let a = c.args in
    let k = parts a.tx_masks.now a.from a.depth a.y_off a.x_off _ _ _ c.requires (sym c.is_split.ensures ∙ c.if-not-is_split.false)
    c.tx_split-sub.ensures c.tx_wide-w.ensures c.tx_high-h.ensures in
    across k _ _ c.decomp_tx.ensures _ c.if-h-w-2.true c.decomp_tx-then-h-w-2-2.ensures

pub decomp_tx-requires-2 : goal.decomp_tx-requires-2
decomp_tx-requires-2 t c =
    let a = c.args in
    let k = parts a.tx_masks.now a.from a.depth a.y_off a.x_off _ _ _ c.requires (sym c.is_split.ensures ∙ c.if-not-is_split.false)
    c.tx_split-sub.ensures c.tx_wide-w.ensures c.tx_high-h.ensures in
    (omega (arith, k.deeper, c.requires), k.place 1 0 (omega arith) (omega arith) (λ _. omega (arith, c.if-h-w-2.false)) (λ e. omega arith))

pub returns : goal.returns
returns t c =
    let a = c.args in
    let k = parts a.tx_masks.now a.from a.depth a.y_off a.x_off _ _ _ c.requires (sym c.is_split.ensures ∙ c.if-not-is_split.false)
    c.tx_split-sub.ensures c.tx_wide-w.ensures c.tx_high-h.ensures in
    let l : c.tx_wide-w.result.0 < c.tx_high-h.result.0 = lt_of_le-ne c.if-h-w-2.false (λ e. c.if-h-w.false (sym e)) in
    down k _ _ c.decomp_tx.ensures _ l c.decomp_tx-2.ensures
