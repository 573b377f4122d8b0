-- By luma or chroma.
use Rattle.list_put.proofs.Units.{luma-room, chroma-room, luma-class, chroma-class}
use Rattle.list_put.proofs.unit.class_at.Goals as goal

pub luma_class-requires : goal.luma_class-requires
luma_class-requires c = let a = c.args in
    luma-room a.p a.x a.y c.requires.0 _ c.bit_at-e.ensures _ c.if-p-eq0.true c.requires.1

pub returns-then-p-eq0-clause-class : goal.returns-then-p-eq0-clause-class
returns-then-p-eq0-clause-class c = let a = c.args in
    luma-class a.p a.x a.y c.requires.0 _ c.bit_at-e.ensures _ _ c.if-p-eq0.true
    c.luma_class.ensures.class

pub chroma_class-requires : goal.chroma_class-requires
chroma_class-requires c = let a = c.args in
    chroma-room a.p a.x a.y c.requires.0 _ c.bit_at-e.ensures _ c.if-p-eq0.false c.requires.1

pub returns-clause-class : goal.returns-clause-class
returns-clause-class c = let a = c.args in
    chroma-class a.p a.x a.y c.requires.0 _ c.bit_at-e.ensures _ _ c.if-p-eq0.false
    c.chroma_class.ensures.class
