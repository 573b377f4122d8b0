-- By luma or chroma.
use native.Mathlib.Omega.{arith}
use Prim.Native.Nat.{◌+◌, ◌<◌}
use mir.Val.{bool_byte}
use Rattle.plane.specs.Line.{pass_of}
use Rattle.units.proofs.Places.{pass-lt}
use Rattle.list_put.proofs.Units.{level-small, pass-no, luma-area, chroma-area}
use Rattle.list_put.proofs.unit.level_place.Goals as goal

pub luma_level_at-requires : goal.luma_level_at-requires
luma_level_at-requires c = let a = c.args in
    let f : bool_byte a.p.rowwise < 2 = rw (pass-no a.p.rowwise) (pass-lt (pass_of a.p.rowwise)) in
    (f, level-small a.p a.x a.y c.requires (bool_byte a.p.rowwise) (omega arith))

pub returns-then-p-eq0 : goal.returns-then-p-eq0
returns-then-p-eq0 c = let a = c.args in luma-area a.p _ a.x a.y c.if-p-eq0.true c.luma_level_at.ensures

pub chroma_level_at-requires : goal.chroma_level_at-requires
chroma_level_at-requires c = let a = c.args in let l = c.requires.plane-in in
    (omega (arith, c.if-p-eq0.false), omega arith, level-small a.p a.x a.y c.requires (a.p.plane + 1) (omega arith))

pub returns : goal.returns
returns c = let a = c.args in chroma-area a.p _ a.x a.y c.if-p-eq0.false c.chroma_level_at.ensures
