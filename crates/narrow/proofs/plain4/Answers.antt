-- The line is the standard's where it is known: no sum leaves the range that its clamp keeps.
use Rattle.std.proofs.Common.{◌+◌, ◌-◌, ◌*◌, ◌/◌, false, get_or, sym, refl, ap, ◌∙◌, arith}
use Rattle.standard.specs.Narrow.{narrow}
use Rattle.line.specs.Place.{of}
use Rattle.line.proofs.Narrow.{moved-mid, moved_plain, plain_flat}
use Rattle.line.proofs.Place.{fourteen}
use Rattle.narrow.proofs.plain4.Goals as goal

pub returns : goal.returns
unfolding narrow
returns c =
    let a = c.args in
    let k = c.requires in
    let h = a.half in
    let l = a.l in
    let v = 8 * h + 3 * l.q0 - 3 * l.p0 in
    let g1 = (v + 4) / 8 in
    let g2 = (v + 3) / 8 in
    let g3 = (g1 + 1 + h) / 2 in
    let j = c.unclamped.ensures (c.if-not-unclamped.false) in
    let n = plain_flat h (of l) v j.0 j.1 (omega arith) refl in
    fourteen _ (narrow h false (of l)) refl refl refl refl refl
    (moved_plain h l.p1 g3 h _ k.depth.most (omega arith) c.if-p1-half.false (omega arith) ∙ sym (ap (λ w. get_or w 0 0) n))
    (moved-mid h l.p0 g2 h (omega arith) (omega arith) ∙ sym (ap (λ w. get_or w 1 0) n))
    (moved-mid h l.q0 h g1 (omega arith) (omega arith) ∙ sym (ap (λ w. get_or w 2 0) n))
    (moved_plain h l.q1 h g3 _ k.depth.most (omega arith) c.if-q1-half.false (omega arith) ∙ sym (ap (λ w. get_or w 3 0) n))
    refl refl refl refl refl
