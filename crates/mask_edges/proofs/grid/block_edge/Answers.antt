-- The units lie in one half, or in both in turn.
use Rattle.mask_edges.proofs.LoopTurns.{edged-none}
use Rattle.mask_edges.proofs.grid.block_edge.Goals as goal

pub returns-then-p-clause-masks : goal.returns-then-p-clause-masks
returns-then-p-clause-masks c =
    let a = c.args in
    let none = edged-none a.p a.class a.ctx.now a.masks.now in
    (c.half_edge.ensures _ _ none).edge

pub returns-then-p-clause-context : goal.returns-then-p-clause-context
returns-then-p-clause-context c =
    let a = c.args in
    let none = edged-none a.p a.class a.ctx.now a.masks.now in
    (c.half_edge.ensures _ _ none).context

pub returns-then-p-n-clause-masks : goal.returns-then-p-n-clause-masks
returns-then-p-n-clause-masks c =
    let a = c.args in
    let none = edged-none a.p a.class a.ctx.now a.masks.now in
    (c.half_edge-then-p-n.ensures _ _ none).edge

pub returns-then-p-n-clause-context : goal.returns-then-p-n-clause-context
returns-then-p-n-clause-context c =
    let a = c.args in
    let none = edged-none a.p a.class a.ctx.now a.masks.now in
    (c.half_edge-then-p-n.ensures _ _ none).context

pub returns-clause-masks : goal.returns-clause-masks
returns-clause-masks c =
    let a = c.args in
    let none = edged-none a.p a.class a.ctx.now a.masks.now in
    (c.half_edge-3.ensures _ _ (c.half_edge-2.ensures _ _ none)).edge

pub returns-clause-context : goal.returns-clause-context
returns-clause-context c =
    let a = c.args in
    let none = edged-none a.p a.class a.ctx.now a.masks.now in
    (c.half_edge-3.ensures _ _ (c.half_edge-2.ensures _ _ none)).context
