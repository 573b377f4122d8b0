-- Nothing at unit 0, nothing where there is no edge, else the edge's line.
use mathlib.Core.Path.{refl, ◌∙◌}
use native.Mathlib.Omega.{arith}
use Rattle.plane.specs.Line.{pass_of}
use Rattle.list_put.specs.Written.{held_in}
use Rattle.list_put.proofs.Lengths.{small, short-unit}
use Rattle.list_put.proofs.Units.{level-there, pass-no, wrote-first, wrote-no-edge, edge-room, wrote-edge}
use Rattle.list_put.proofs.unit.put_unit.Goals as goal

pub returns-then-across-eq0 : goal.returns-then-across-eq0
returns-then-across-eq0 c = let a = c.args in wrote-first _ _ _ a.x a.y _ _ _ c.across.ensures c.if-across-eq0.true

pub returns-in_default : goal.returns-in_default
returns-in_default c = let a = c.args in
    wrote-no-edge _ _ _ a.x a.y _ _ _ c.across.ensures _ c.in_default.ensures.class c.if-across-eq0.false refl

pub bounds-levels-place : goal.bounds-levels-place
bounds-levels-place c = let a = c.args in
    level-there a.p a.x a.y c.requires.0 _ _ c.level_place-place.ensures
    c.requires.1.levels-long

pub put_edge-requires : goal.put_edge-requires
put_edge-requires c =
    let a = c.args in
    let h = held_in a.p a.levels.now a.masks.now in
    let i = c.requires.0 in
    edge-room h _ _ a.x a.y a.text.now a.edges _ c.across.ensures _
    (c.from-2.ensures ∙ c.in-Some.ensures.class) c.if-across-eq0.false _ _ _
    (λ z. omega (arith, c.from-2.ensures, c.in-Some.ensures.low))
    (c.from.ensures ∙ pass-no a.p.rowwise) c.level_place-place.ensures c.from-3.ensures
    (short-unit h (small _ _ _ _ _ c.requires.1 (λ j. omega
    (arith, c.shared_slice_known-1.given j))) _ (pass_of a.p.rowwise) a.x a.y
    i.plane-in i.x-in i.y-in) c.requires.2

pub returns : goal.returns
returns c =
    let a = c.args in
    wrote-edge (held_in a.p a.levels.now a.masks.now) _ _ a.x a.y _ _ _ c.across.ensures _ (c.from-2.ensures ∙ c.in-Some.ensures.class) c.if-across-eq0.false _ _ _
    (λ z. omega (arith, c.from-2.ensures, c.in-Some.ensures.low)) (c.from.ensures ∙ pass-no a.p.rowwise) c.level_place-place.ensures c.from-3.ensures _ c.put_edge.ensures
