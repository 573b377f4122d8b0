-- `record` meets its contract: after a lines the plane has gone along a of them.
use native.Mathlib.Omega.{arith}
use mathlib.Core.Path.{◌≡◌, refl, sym, ap, ◌∙◌, subst}
use Prim.Native.Nat.{ℕ}
use Rattle.plane.specs.Line.{pass_of}
use Rattle.loops.specs.Run.{up_to}
use Rattle.loops.proofs.Runs.{up_to-again}
use Rattle.filter.specs.Filter.{plane_of, line_of}
use Rattle.filter.specs.Ready.{Stored}
use Rattle.filter.specs.Types.{tables_of}
use Rattle.filter.specs.Lines.{units_across}
use Rattle.filter.proofs.RecordLines.{some-lines, inner_of, start-idle, record-whole}
use Rattle.filter.proofs.record.Goals as goal

pub units_across-n-requires : goal.units_across-n-requires
units_across-n-requires g c = (c.requires.0.proper.ss-hor-le, c.requires.0.proper.ss-ver-le, c.requires.0.width, c.requires.0.height, c.requires.1.row, omega (arith, c.requires.0.width, c.requires.2))

pub loop-a-init : goal.loop-a-init
loop-a-init g c = let a = c.args in (
  omega arith,
  omega (
    arith,
    c.first_unit-first.ensures,
    c.units_across-n.ensures,
    some-lines a.c (tables_of a.t) a.k a.rec _ c.requires.0 (pass_of a.rowwise) c.requires.1.row c.requires.2,
  ),
  refl,
  sym (ap (λ (n : ℕ). up_to (line_of (plane_of a.c (tables_of a.t)) (pass_of a.rowwise) a.k a.rec) n (g.P.Pixel.samples a.dst.now)) c.first_unit-first.ensures
      ∙ start-idle a.c (tables_of a.t) a.k a.rec (g.P.Pixel.samples a.dst.now) (pass_of a.rowwise)),
  c.requires.4,
)

pub line-requires : goal.line-requires
line-requires g c = let a = c.args in let l = c.loop-a in (
  subst (Stored a.c (tables_of a.t))
      (g.met.P.Pixel.length_of a.dst.now ∙ sym l.invariant.2 ∙ sym (g.met.P.Pixel.length_of l.dst)) c.requires.0,
  c.requires.1,
  inner_of a.c (tables_of a.t) a.k a.rec _ c.requires.0 l.a (pass_of a.rowwise) c.requires.2
      (omega (arith, c.first_unit-first.ensures)) (omega (arith, c.units_across-n.ensures)),
  c.requires.3,
  l.invariant.4,
)

pub loop-a-preserved : goal.loop-a-preserved
loop-a-preserved g c = let a = c.args in
    let l = c.loop-a in (
      omega arith,
      omega arith,
      c.line.auto.dst ∙ l.invariant.2,
      up_to-again (line_of (plane_of a.c (tables_of a.t)) (pass_of a.rowwise) a.k a.rec) l.a (g.P.Pixel.samples a.dst.now) l.invariant.3 c.line.ensures.0,
      c.line.ensures.1,
    )

pub shape_of-dst : goal.shape_of-dst
shape_of-dst g c = c.loop-a.invariant.2

pub returns : goal.returns
returns g c = let a = c.args in let l = c.loop-a in
    let e : l.a ≡ units_across a.c (pass_of a.rowwise) a.k a.rec = omega (arith, c.units_across-n.ensures) in (
      l.invariant.3 ∙ ap (λ (n : ℕ). up_to (line_of (plane_of a.c (tables_of a.t)) (pass_of a.rowwise) a.k a.rec) n (g.P.Pixel.samples a.dst.now)) e
          ∙ record-whole a.c (tables_of a.t) a.k a.rec (g.P.Pixel.samples a.dst.now) (pass_of a.rowwise),
      l.invariant.4,
    )
