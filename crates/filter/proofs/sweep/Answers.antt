-- `sweep` meets its contract: after rec records the plane has gone through rec of them.
use native.Mathlib.Omega.{arith}
use mathlib.Core.Path.{◌≡◌, refl, sym, ap, ◌∙◌, subst}
use Prim.Native.Nat.{ℕ}
use Rattle.plane.specs.Line.{pass_of}
use Rattle.loops.specs.Run.{up_to}
use Rattle.loops.proofs.Runs.{up_to-again}
use Rattle.units.specs.Frame.{records}
use Rattle.filter.specs.Filter.{plane_of}
use Rattle.filter.specs.Ready.{Stored}
use Rattle.filter.specs.Types.{tables_of}
use Rattle.filter.specs.Lines.{record_sweep}
use Rattle.filter.proofs.RecordLines.{sweep-whole}
use Rattle.filter.proofs.sweep.Goals as goal

pub records_along-records-requires : goal.records_along-records-requires
records_along-records-requires g c = c.requires.0.width

pub loop-rec-init : goal.loop-rec-init
loop-rec-init g c = (omega arith, refl, refl, c.requires.3)

pub record-requires : goal.record-requires
record-requires g c = let a = c.args in let l = c.loop-rec in (
  subst (Stored a.c (tables_of a.t))
      (g.met.P.Pixel.length_of a.dst.now ∙ sym l.invariant.1 ∙ sym (g.met.P.Pixel.length_of l.dst)) c.requires.0,
  c.requires.1,
  omega (arith, c.records_along-records.ensures),
  c.requires.2,
  l.invariant.3,
)

pub loop-rec-preserved : goal.loop-rec-preserved
loop-rec-preserved g c = let a = c.args in
    let l = c.loop-rec in (
      omega arith,
      c.record.auto.dst ∙ l.invariant.1,
      up_to-again (λ rec. record_sweep (plane_of a.c (tables_of a.t)) (pass_of a.rowwise) a.k rec) l.rec (g.P.Pixel.samples a.dst.now) l.invariant.2
          c.record.ensures.0,
      c.record.ensures.1,
    )

pub shape_of-dst : goal.shape_of-dst
shape_of-dst g c = c.loop-rec.invariant.1

pub returns : goal.returns
returns g c = let a = c.args in let l = c.loop-rec in
    let e : l.rec ≡ records a.c.w4.0 = omega (arith, c.records_along-records.ensures) in
    l.invariant.2 ∙ ap (λ (n : ℕ). up_to (λ rec. record_sweep (plane_of a.c (tables_of a.t)) (pass_of a.rowwise) a.k rec) n (g.P.Pixel.samples a.dst.now)) e
    ∙ sweep-whole (plane_of a.c (tables_of a.t)) (pass_of a.rowwise) a.k (g.P.Pixel.samples a.dst.now)
