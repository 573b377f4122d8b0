-- The line is the standard's where it is known: no sum leaves the range that its clamp keeps.
use Rattle.std.proofs.Common.{◌+◌, ◌-◌, ◌*◌, ◌/◌, true, get_or, sym, refl, ap, ◌∙◌, arith}
use Rattle.standard.specs.Narrow.{narrow}
use Rattle.line.specs.Place.{of}
use Rattle.line.proofs.Narrow.{moved_plain, eighth-small, plain-hev}
use Rattle.line.proofs.Place.{fourteen}
use Rattle.narrow.proofs.plain2.Goals as goal

pub returns : goal.returns
unfolding narrow
returns c =
    let a = c.args in
    let k = c.requires in
    let h = a.half in
    let l = a.l in
    let w = 8 * h + l.p1 - l.q1 in
    let v = w + 3 * l.q0 - 3 * l.p0 in
    let g1 = (v + 4) / 8 in
    let g2 = (v + 3) / 8 in
    let i = c.unclamped.ensures (c.if-not-unclamped.false) in
    let j = c.unclamped-2.ensures (c.if-not-unclamped-2.false) in
    let n = plain-hev h (of l) v j.0 j.1 w i.0 (omega arith) (omega arith) refl (omega arith) refl in
    fourteen _ (narrow h true (of l)) refl refl refl refl refl
    (sym (ap (λ w. get_or w 0 0) n))
    (moved_plain h l.p0 g2 h _ k.depth.most (omega arith) c.if-p0-half.false (omega arith) ∙ sym (ap (λ w. get_or w 1 0) n))
    (moved_plain h l.q0 h g1 _ k.depth.most (eighth-small h (of l) v j.0 j.1 k.depth.most) c.if-q0-half.false (omega arith) ∙ sym (ap (λ w. get_or w 2 0) n))
    (sym (ap (λ w. get_or w 3 0) n))
    refl refl refl refl refl
