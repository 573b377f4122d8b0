-- Four lines are the piece: the invariant is the definition's loop, run as far as i.
use Rattle.std.proofs.Common.{◌+◌, ◌*◌, ap, ◌∙◌, arith}
use Rattle.loops.proofs.Products.{row_in}
use Rattle.loops.proofs.Runs.{up_to-again, up_to-done}
use Rattle.plane.specs.Line.{line_at, piece_at}
use Rattle.line.specs.Rule.{rule}
use Rattle.piece.proofs.Ranges.{next-below}
use Rattle.piece.proofs.piece.Goals as goal

pub line-requires : goal.line-requires
line-requires g c =
    let a = c.args in
    let p = c.requires in
    let l = c.loop-i in
    let r = row_in l.i 4 a.line_step c.loop-i-test.true in
    rw c.known-b.ensures (
      p.0,
      omega arith,
      omega arith,
      p.3,
      p.4,
      λ h. next-below p.0 a.t p.3.some a.sample_step a.line_step a.q (g.P.Pixel.samples a.s.now) p.1 (p.6 h) l.i _ c.loop-i-test.true l.invariant.2,
    )

pub loop-i-preserved : goal.loop-i-preserved
loop-i-preserved g c =
    let a = c.args in
    let l = c.loop-i in (
      omega arith,
      c.line.auto.s ∙ l.invariant.1,
      up_to-again (λ k. line_at a.sample_step (rule a.wd a.t) (a.q + k * a.line_step)) l.i (g.P.Pixel.samples a.s.now) l.invariant.2
          (c.line.ensures ∙ ap (λ t. line_at a.sample_step (rule a.wd t) (a.q + l.i * a.line_step) (g.P.Pixel.samples l.s)) c.known-b.ensures),
    )

pub returns : goal.returns
unfolding piece_at
returns g c =
    up_to-done (λ k. line_at c.args.sample_step (rule c.args.wd c.args.t) (c.args.q + k * c.args.line_step)) c.loop-i.i 4 (g.P.Pixel.samples c.args.s.now)
    c.loop-i.invariant.2 (omega arith)
