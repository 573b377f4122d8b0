-- The narrow output is stored, of one sample a side with high variance or of two, and it is in range: by the contract of the filter.
use Rattle.std.proofs.Common.{true, false, sym, ◌∙◌, arith}
use Rattle.piece.proofs.FilterStores.{narrow-range}
use Rattle.piece.proofs.narrow.Goals as goal

pub store1-requires : goal.store1-requires
store1-requires g c =
    let b = narrow-range c.args.t c.args.l _ true (sym c.if-hev_mask.true ∙ c.hev_mask.ensures) c.in-Some.ensures c.requires.2 c.requires.3 in
    (omega arith, omega arith, b.1, b.2)

pub store1-requires-in-None : goal.store1-requires-in-None
store1-requires-in-None g c =
    let b = narrow-range c.args.t c.args.l _ true (sym c.if-hev_mask.true ∙ c.hev_mask.ensures) c.narrow4-r.ensures c.requires.2 c.requires.3 in
    (omega arith, omega arith, b.1, b.2)

pub store2-requires : goal.store2-requires
store2-requires g c =
    let b = narrow-range c.args.t c.args.l _ false (sym c.if-hev_mask.false ∙ c.hev_mask.ensures) c.in-Some-plain4.ensures c.requires.2 c.requires.3 in
    (c.requires.0, c.requires.1, b.0, b.1, b.2, b.3)

pub store2-requires-in-None-plain4 : goal.store2-requires-in-None-plain4
store2-requires-in-None-plain4 g c =
    let b = narrow-range c.args.t c.args.l _ false (sym c.if-hev_mask.false ∙ c.hev_mask.ensures) c.narrow4-r-in-None-plain4.ensures c.requires.2 c.requires.3 in
    (c.requires.0, c.requires.1, b.0, b.1, b.2, b.3)
