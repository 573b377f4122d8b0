-- `line` meets its contract: its walk may be made, is what the plane does, and keeps the samples in range.
use native.Mathlib.Omega.{arith}
use mathlib.Core.Path.{sym, ◌∙◌, subst}
use Prim.Native.Nat.{ℕ, ◌^◌}
use lib.ListN.{length}
use Rattle.plane.specs.Line.{pass_of}
use Rattle.walk.specs.Ready.{Walkable}
use Rattle.filter.specs.Ready.{Under}
use Rattle.filter.specs.Lines.{line_in}
use Rattle.filter.specs.Types.{tables_of}
use Rattle.filter.proofs.UnitPlaces.{places-le}
use Rattle.filter.proofs.UnitActs.{line-walked}
use Rattle.filter.proofs.PieceRooms.{walkable}
use Rattle.filter.proofs.Ranges.{in-range, stays}
use Rattle.filter.proofs.RecordLines.{counted}
use Rattle.filter.proofs.line.Goals as goal

pub line_of-l-requires : goal.line_of-l-requires
line_of-l-requires g c = let a = c.args in
    counted a.c (tables_of a.t) a.k a.rec a.a (length (g.P.Pixel.samples a.dst.now)) c.requires.0
    (pass_of a.rowwise) c.requires.1 c.requires.2 (omega (arith, g.met.P.Pixel.length_of a.dst.now)) (omega arith)

pub walk-requires : goal.walk-requires
walk-requires g c = let a = c.args in
    let l = length (g.P.Pixel.samples a.dst.now) in
    rw c.line_of-l.ensures (
      c.requires.3.least,
      c.requires.3.most,
      c.requires.3.stored,
      subst (λ (n : ℕ). Walkable a.t.levels.now (line_in a.c a.t.masks.now (pass_of a.rowwise) a.k a.rec a.a) n) (g.met.P.Pixel.length_of a.dst.now)
          (walkable a.c (tables_of a.t) (pass_of a.rowwise) a.k a.rec a.a l c.requires.0 c.requires.1 c.requires.2 a.t.words),
      λ h. in-range a.c (tables_of a.t) (pass_of a.rowwise) a.k a.rec a.a l (2 ^ a.t.depth) c.requires.0 c.requires.1 c.requires.2
          a.t.words (g.P.Pixel.samples a.dst.now) (c.requires.4 h),
    )

pub returns : goal.returns
returns g c = let a = c.args in
    let s = g.P.Pixel.samples a.dst.now in
    let x = rw c.line_of-l.ensures at c.walk.ensures in (
      x ∙ sym (line-walked a.c (tables_of a.t) a.k a.rec a.a (length s) c.requires.0 (pass_of a.rowwise) c.requires.1 c.requires.2 a.t.words
          (places-le a.c (tables_of a.t) a.k a.rec a.a (length s) c.requires.0 (pass_of a.rowwise)) s),
      λ h. subst (Under (2 ^ a.t.depth) a.c (pass_of a.rowwise) a.k) (sym x)
          (stays a.c (tables_of a.t) (pass_of a.rowwise) a.k a.rec a.a s c.requires.0 c.requires.1 c.requires.2 a.t.words c.requires.3.least (c.requires.4 h)),
    )
