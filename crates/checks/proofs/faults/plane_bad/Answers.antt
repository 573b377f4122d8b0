-- `plane_bad` meets its contract: a plane too short, a row outside the frame, samples that fit by their type, or a scan of them.
use mathlib.Core.Path.{sym, ◌∙◌}
use Rattle.loops.proofs.Bools.{no, yes}
use Rattle.checks.proofs.Planes.{plane-short, plane-out, plane-fit, plane-read}
use Rattle.checks.proofs.faults.plane_bad.Goals as goal

pub returns-then-plane_short : goal.returns-then-plane_short
returns-then-plane_short g c =
    plane-short c.args.c c.args.plane _ (g.met.P.Pixel.length_of c.args.s.now) (sym c.plane_short.ensures ∙ c.if-plane_short.true)

pub returns-then-not-inside : goal.returns-then-not-inside
returns-then-not-inside g c =
    plane-out c.args.c c.args.plane _ (g.met.P.Pixel.length_of c.args.s.now) (sym c.plane_short.ensures ∙ c.if-plane_short.false)
    (no c.inside.ensures c.if-not-inside.true)

pub returns-then-fit : goal.returns-then-fit
returns-then-fit g c =
    plane-fit c.args.c c.args.plane _ (g.met.P.Pixel.length_of c.args.s.now) (sym c.plane_short.ensures ∙ c.if-plane_short.false)
    (c.fit.ensures c.if-fit.true)

pub returns : goal.returns
returns g c =
    plane-read c.args.c c.args.plane _ (g.met.P.Pixel.length_of c.args.s.now) (sym c.plane_short.ensures ∙ c.if-plane_short.false)
    (yes c.inside.ensures c.if-not-inside.false)
    (rw (
      c.stride_of-stride.ensures,
      c.plane_ss_hor.ensures,
      c.plane_ss_ver.ensures,
      c.superblock_units-sb4.ensures,
    ) at c.samples_high.ensures)
