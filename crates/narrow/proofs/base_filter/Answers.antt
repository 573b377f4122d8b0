-- The filter value is the standard's, with the offset 8 * half: with high variance and without.
use Rattle.std.proofs.Common.{arith}
use Rattle.line.specs.Place.{of}
use Rattle.line.proofs.Narrow.{filter-hev, filter-flat}
use Rattle.narrow.proofs.base_filter.Goals as goal

pub returns-then-hev : goal.returns-then-hev
returns-then-hev c =
    let a = c.args in
    let G = c.clamp-c in
    let F = c.clamp in (
      rw c.if-hev.true (filter-hev a.half (of a.l) G.result F.result (omega arith) (omega arith) G.ensures.0 F.ensures.0),
      F.ensures.1,
      F.ensures.2,
    )

pub returns : goal.returns
returns c =
    let a = c.args in
    let F = c.clamp-2 in (
      rw c.if-hev.false (filter-flat a.half (of a.l) F.result (omega arith) F.ensures.0),
      F.ensures.1,
      F.ensures.2,
    )
