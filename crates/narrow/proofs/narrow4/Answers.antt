-- The line is the standard's after the narrow filter: its four samples are known by filter1 and filter2.
use Rattle.standard.specs.Narrow.{narrow}
use Rattle.line.specs.Place.{of}
use Rattle.line.proofs.Narrow.{narrowed-by}
use Rattle.narrow.proofs.narrow4.Goals as goal

pub returns-then-hev : goal.returns-then-hev
unfolding narrow
returns-then-hev c =
    let F = c.base_filter-f in
    let f1 = c.eighth-f1 in
    let f2 = c.eighth-f2 in
    let a = c.args in
    rw (
      narrowed-by a.half a.hev (of a.l) F.result f1.result f2.result F.ensures.0 f1.ensures.0 f2.ensures.0,
      c.if-hev.true,
      c.move_by.ensures,
      c.move_by-2.ensures,
    )

pub returns : goal.returns
unfolding narrow
returns c =
    let F = c.base_filter-f in
    let f1 = c.eighth-f1 in
    let f2 = c.eighth-f2 in
    let a = c.args in
    rw (
      narrowed-by a.half a.hev (of a.l) F.result f1.result f2.result F.ensures.0 f1.ensures.0 f2.ensures.0,
      c.if-hev.false,
      c.move_by.ensures,
      c.move_by-2.ensures,
      c.move_by-3.ensures,
      c.move_by-4.ensures,
    )
