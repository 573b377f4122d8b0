-- The variance test is the standard's: a distance above h is one that is not near.
use Rattle.std.proofs.Common.{not, sym, ap, ◌∙◌}
use Rattle.standard.specs.Masks.{hev_mask}
use Rattle.loops.proofs.Bools.{yes}
use Rattle.line.proofs.Flags.{far}
use Rattle.line.proofs.hev_mask.Goals as goal

pub returns-then-not-is_near : goal.returns-then-not-is_near
unfolding hev_mask
returns-then-not-is_near c =
    let a = c.args in
    rw (far a.t.h a.l.p1 a.l.p0, ← c.is_near.ensures, c.if-not-is_near.true)

pub returns-else-not-is_near : goal.returns-else-not-is_near
unfolding hev_mask
returns-else-not-is_near c =
    let a = c.args in
    rw (far a.t.h a.l.p1 a.l.p0, yes c.is_near.ensures c.if-not-is_near.false)
    (ap not c.is_near-else-not-is_near.ensures ∙ sym (far a.t.h a.l.q1 a.l.q0))
