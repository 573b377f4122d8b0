-- The choice is that of the line's samples: each return by the struct that holds what the width reads.
use mathlib.Core.Path.{sym, ◌∙◌}
use native.Mathlib.Omega.{arith}
use Rattle.line.specs.Width.{six, eight, sixteen}
use Rattle.piece.specs.Samples.{across}
use Rattle.piece.proofs.Lines.{inner-same, told, narrowest, is-4, is-6, is-8, is-16}
use Rattle.piece.proofs.choose.Goals as goal

pub returns-then-wd-lt6 : goal.returns-then-wd-lt6
returns-then-wd-lt6 g c =
    let a = c.args in
    let p = c.requires in
    narrowest a.wd a.t (across a.q a.sample_step (g.P.Pixel.samples a.s.now)) (is-4 p.0 c.if-wd-lt6.true)
    (sym (inner-same (across a.q a.sample_step (g.P.Pixel.samples a.s.now)) a.l 2 (omega arith) p.3 a.t (omega arith)) ∙ p.4)

pub choose-requires : goal.choose-requires
choose-requires g c =
    let a = c.args in
    let p = c.requires in
    inner-same (across a.q a.sample_step (g.P.Pixel.samples a.s.now)) _ 3 (omega arith) c.read3-l3.ensures.line a.t (omega arith)
    ∙ sym (inner-same (across a.q a.sample_step (g.P.Pixel.samples a.s.now)) a.l 2 (omega arith) p.3 a.t (omega arith)) ∙ p.4

pub returns-then-wd-lt8 : goal.returns-then-wd-lt8
returns-then-wd-lt8 g c =
    let a = c.args in
    let p = c.requires in
    told six a.wd _ a.t (across a.q a.sample_step (g.P.Pixel.samples a.s.now)) _ (is-6 p.0 c.if-wd-lt6.false c.if-wd-lt8.true)
    c.read3-l3.ensures.line c.choose.ensures

pub choose-requires-then-wd-lt16 : goal.choose-requires-then-wd-lt16
choose-requires-then-wd-lt16 g c =
    let a = c.args in
    let p = c.requires in
    inner-same (across a.q a.sample_step (g.P.Pixel.samples a.s.now)) _ 4 (omega arith) c.read4-l4.ensures.line a.t (omega arith)
    ∙ sym (inner-same (across a.q a.sample_step (g.P.Pixel.samples a.s.now)) a.l 2 (omega arith) p.3 a.t (omega arith)) ∙ p.4

pub returns-then-wd-lt16 : goal.returns-then-wd-lt16
returns-then-wd-lt16 g c =
    let a = c.args in
    let p = c.requires in
    told eight a.wd _ a.t (across a.q a.sample_step (g.P.Pixel.samples a.s.now)) _ (is-8 p.0 c.if-wd-lt8.false c.if-wd-lt16.true)
    c.read4-l4.ensures.line c.choose-then-wd-lt16.ensures

pub choose-requires-2 : goal.choose-requires-2
choose-requires-2 g c =
    let a = c.args in
    let p = c.requires in
    inner-same (across a.q a.sample_step (g.P.Pixel.samples a.s.now)) _ 7 (omega arith) c.read7.ensures.line a.t (omega arith)
    ∙ sym (inner-same (across a.q a.sample_step (g.P.Pixel.samples a.s.now)) a.l 2 (omega arith) p.3 a.t (omega arith)) ∙ p.4

pub returns : goal.returns
returns g c =
    let a = c.args in
    let p = c.requires in
    told sixteen a.wd _ a.t (across a.q a.sample_step (g.P.Pixel.samples a.s.now)) _ (is-16 p.0 c.if-wd-lt16.false) c.read7.ensures.line c.choose-2.ensures
