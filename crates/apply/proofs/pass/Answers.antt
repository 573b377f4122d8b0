-- `pass` meets its contract: refused, or each plane done.
use mathlib.Core.Path.{◌≡◌, sym}
use Rattle.refusals.specs.Numbers.{number_of}
use Rattle.checks.specs.Call.{lent, luma}
use Rattle.checks.specs.Tests.{number}
use Rattle.checks.proofs.Accepted.{filtered-u, filtered-v}
use Rattle.checks.proofs.Chain.{some-number, same-number}
use Rattle.apply.specs.Apply.{limits}
use Rattle.apply.proofs.ReadyPlanes.{deep, ready-at}
use Rattle.apply.proofs.Answers.{refusal, work}
use Rattle.apply.proofs.pass.Goals as goal

pub returns-in_err-check : goal.returns-in_err-check
returns-in_err-check g c = let refused = c.in_err-check in
    let a = c.args in
    let m = lent (g.P.Pixel.samples a.luma.now) (g.P.Pixel.samples a.u.now) (g.P.Pixel.samples a.v.now) a.levels.now a.masks.now in
    let r = refused.field-0.0 in
    rw (same-number c.from_residual.result r c.from_residual.ensures.1)
    (refusal a.c (limits a.e.now a.i.now) m (number_of r) (some-number r) refused.ensures)

pub sweep-requires : goal.sweep-requires
sweep-requires g c = let accepted = c.in_ok-check.ensures in
    let a = c.args in
    let l = limits a.e.now a.i.now in
    let m = lent (g.P.Pixel.samples a.luma.now) (g.P.Pixel.samples a.u.now) (g.P.Pixel.samples a.v.now) a.levels.now a.masks.now in
    let e : number a.c m ≡ 0 = sym accepted in
    let d = deep a.c l m e in
    (record { least = d.0; most = d.1; stored = c.requires d.1 }, ready-at a.c l m e luma)

pub chroma-requires : goal.chroma-requires
chroma-requires g c = let accepted = c.in_ok-check.ensures in
    let a = c.args in
    let l = limits a.e.now a.i.now in
    let m = lent (g.P.Pixel.samples a.luma.now) (g.P.Pixel.samples a.u.now) (g.P.Pixel.samples a.v.now) a.levels.now a.masks.now in
    let e : number a.c m ≡ 0 = sym accepted in
    let d = deep a.c l m e in (
      record { least = d.0; most = d.1; stored = c.requires d.1 },
      λ o. (ready-at a.c l m e (filtered-u a.c o), ready-at a.c l m e (filtered-v a.c o)),
    )

pub returns : goal.returns
returns g c = let accepted = c.in_ok-check.ensures in
    let a = c.args in
    let l = limits a.e.now a.i.now in
    let m = lent (g.P.Pixel.samples a.luma.now) (g.P.Pixel.samples a.u.now) (g.P.Pixel.samples a.v.now) a.levels.now a.masks.now in
    let e : number a.c m ≡ 0 = sym accepted in
    let p = c.chroma.ensures in
    work a.c l m _ _ _ e c.sweep.ensures p.u p.v
