-- One line is the rule of its width: each arm stores the output of its choice, or nothing.
use Rattle.std.proofs.Common.{refl, arith}
use Rattle.line.specs.Width.{six, eight, sixteen, reads}
use Rattle.line.proofs.Choices.{output, wide6, wide8, wide16}
use Rattle.line.proofs.Outputs.{two-read}
use Rattle.loops.proofs.Bools.{no}
use Rattle.piece.specs.Samples.{across}
use Rattle.piece.proofs.Lines.{failed-line, inner-held, chosen, kept_line, narrow-line, wide-line, in_list}
use Rattle.piece.proofs.Places.{closer}
use Rattle.piece.proofs.line.Goals as goal

pub returns-then-not-filter_mask4 : goal.returns-then-not-filter_mask4
returns-then-not-filter_mask4 g c =
    let a = c.args in
    let p = c.requires in
    failed-line p.0 a.t a.q a.sample_step (g.P.Pixel.samples a.s.now) p.1 _ c.read2-l.ensures.line (no c.filter_mask4.ensures c.if-not-filter_mask4.true)

pub narrow-requires : goal.narrow-requires
narrow-requires g c =
    let a = c.args in
    let p = c.requires in
    let r = closer 2 (reads a.wd) a.sample_step a.q _ (two-read p.0) p.1 p.2 in (
      r.0,
      omega arith,
      p.4,
      inner-held p.0 a.t.half g.P.Pixel.top (across a.q a.sample_step (g.P.Pixel.samples a.s.now)) _ p.3 p.4 p.5 c.read2-l.ensures.line c.read2-l.ensures.range,
    )

pub read3-l3-requires : goal.read3-l3-requires
read3-l3-requires g c =
    let a = c.args in
    let p = c.requires in
    let d = chosen a.q a.sample_step (g.P.Pixel.samples a.s.now) p.0 p.1 p.2 c.in-Wide6.ensures in
    let r = in_list d 3 (omega arith) (omega arith) in (r.0, r.1, c.read2-l.ensures.line, c.read2-l.ensures.range)

pub read3-l3-requires-in-Wide8 : goal.read3-l3-requires-in-Wide8
read3-l3-requires-in-Wide8 g c =
    let a = c.args in
    let p = c.requires in
    let d = chosen a.q a.sample_step (g.P.Pixel.samples a.s.now) p.0 p.1 p.2 c.in-Wide8.ensures in
    let r = in_list d 3 (omega arith) (omega arith) in (r.0, r.1, c.read2-l.ensures.line, c.read2-l.ensures.range)

pub read4-l4-requires : goal.read4-l4-requires
read4-l4-requires g c =
    let a = c.args in
    let p = c.requires in
    let d = chosen a.q a.sample_step (g.P.Pixel.samples a.s.now) p.0 p.1 p.2 c.in-Wide8.ensures in
    let r = in_list d 4 (omega arith) (omega arith) in (r.0, r.1, c.read3-l3-in-Wide8.ensures.line, c.read3-l3-in-Wide8.ensures.range)

pub wide8-requires : goal.wide8-requires
wide8-requires g c =
    let a = c.args in
    let p = c.requires in
    let d = chosen a.q a.sample_step (g.P.Pixel.samples a.s.now) p.0 p.1 p.2 c.in-Wide8.ensures in
    let r = in_list d 3 (omega arith) (omega arith) in (r.0, r.1, c.read4-l4.ensures.range)

pub read3-l3-requires-in-Wide16 : goal.read3-l3-requires-in-Wide16
read3-l3-requires-in-Wide16 g c =
    let a = c.args in
    let p = c.requires in
    let d = chosen a.q a.sample_step (g.P.Pixel.samples a.s.now) p.0 p.1 p.2 c.in-Wide16.ensures in
    let r = in_list d 3 (omega arith) (omega arith) in (r.0, r.1, c.read2-l.ensures.line, c.read2-l.ensures.range)

pub read4-l4-requires-in-Wide16 : goal.read4-l4-requires-in-Wide16
read4-l4-requires-in-Wide16 g c =
    let a = c.args in
    let p = c.requires in
    let d = chosen a.q a.sample_step (g.P.Pixel.samples a.s.now) p.0 p.1 p.2 c.in-Wide16.ensures in
    let r = in_list d 4 (omega arith) (omega arith) in (r.0, r.1, c.read3-l3-in-Wide16.ensures.line, c.read3-l3-in-Wide16.ensures.range)

pub read7-l7-requires : goal.read7-l7-requires
read7-l7-requires g c =
    let a = c.args in
    let p = c.requires in
    let d = chosen a.q a.sample_step (g.P.Pixel.samples a.s.now) p.0 p.1 p.2 c.in-Wide16.ensures in
    let r = in_list d 7 (omega arith) (omega arith) in (r.0, r.1, c.read4-l4-in-Wide16.ensures.line, c.read4-l4-in-Wide16.ensures.range)

pub wide16-requires : goal.wide16-requires
wide16-requires g c =
    let a = c.args in
    let p = c.requires in
    let d = chosen a.q a.sample_step (g.P.Pixel.samples a.s.now) p.0 p.1 p.2 c.in-Wide16.ensures in
    let r = in_list d 6 (omega arith) (omega arith) in (r.0, r.1, c.read7-l7.ensures.range)

pub returns-in-None : goal.returns-in-None
returns-in-None g c =
    let a = c.args in
    let p = c.requires in
    let d = chosen a.q a.sample_step (g.P.Pixel.samples a.s.now) p.0 p.1 p.2 c.in-None.ensures in
    kept_line d refl

pub returns-in-Narrow : goal.returns-in-Narrow
returns-in-Narrow g c =
    let a = c.args in
    let p = c.requires in
    let d = chosen a.q a.sample_step (g.P.Pixel.samples a.s.now) p.0 p.1 p.2 c.in-Narrow.ensures in
    narrow-line d _ refl c.read2-l.ensures.line c.narrow.ensures

pub returns-in-Wide6 : goal.returns-in-Wide6
unfolding output
returns-in-Wide6 g c =
    let a = c.args in
    let p = c.requires in
    let d = chosen a.q a.sample_step (g.P.Pixel.samples a.s.now) p.0 p.1 p.2 c.in-Wide6.ensures in
    wide-line d six wide6 _ refl c.read3-l3.ensures.line c.wide6.ensures

pub returns-in-Wide8 : goal.returns-in-Wide8
unfolding output
returns-in-Wide8 g c =
    let a = c.args in
    let p = c.requires in
    let d = chosen a.q a.sample_step (g.P.Pixel.samples a.s.now) p.0 p.1 p.2 c.in-Wide8.ensures in
    wide-line d eight wide8 _ refl c.read4-l4.ensures.line c.wide8.ensures

pub returns-in-Wide16 : goal.returns-in-Wide16
unfolding output
returns-in-Wide16 g c =
    let a = c.args in
    let p = c.requires in
    let d = chosen a.q a.sample_step (g.P.Pixel.samples a.s.now) p.0 p.1 p.2 c.in-Wide16.ensures in
    wide-line d sixteen wide16 _ refl c.read7-l7.ensures.line c.wide16.ensures
