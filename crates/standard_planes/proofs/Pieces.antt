-- With the limit table of a sharpness a piece's rule is that of the standard's bounds, so the piece is the standard's.
use Prim.Native.Nat.{ℕ, ◌*◌, ◌≤◌}
use native.Mathlib.Omega.{arith}
use mathlib.Core.Bool.{Bool, true, false, cond}
use mathlib.Core.List.{List}
use mathlib.Core.Option.{Option, some, none}
use mathlib.Core.Path.{◌≡◌, refl, ap, ◌∙◌, subst⁻¹}
use borrow.Author.Tests.{ne_eqb}
use lib.Dec.{eqb, ltb}
use lib.ListN.{length}
use Rattle.loops.specs.Table.{tabulate}
use Rattle.plane.specs.Line.{Pass, Piece, ix, line_step, sample_step, piece_at}
use Rattle.plane.specs.Plane.{class, act}
use Rattle.plane.proofs.Pieces.{idle}
use Rattle.standard.specs.Strength.{limit, blimit, bounds}
use Rattle.line.specs.Rule.{rule}
use Rattle.line.specs.Width.{reads}
use Rattle.limits.specs.Limits.{LimitAnswer, table_of, no_table, limits_of}
use Rattle.walk.specs.Walk.{thresholds, visit, width_of}
use Rattle.walk.proofs.WidthsThresholds.{width}
use Rattle.walk.proofs.Laws as walk
use Rattle.filter.proofs.UnitActs.{act-visit}
use Rattle.checks.specs.declared.Call.{Call}
use Rattle.checks.specs.Call.{Lent, stride_of}
use Rattle.apply.specs.Apply.{component_of, Limits, limits, tables_of, plane_at}
use Rattle.standard_planes.specs.Piece.{limits_in, piece_level, There, Standard}
use Rattle.standard_planes.proofs.Lines.{piece-standard}

-- the limit table of an accepted answer
pub limits-are : (sharp : ℕ) (a : LimitAnswer) → a ≡ limits_of sharp → a.number ≡ 0 → limits_in a ≡ limits (tabulate (blimit sharp) 64) (tabulate (limit sharp) 64)
unfolding limits_of
limits-are sharp a e z = go (ltb 7 sharp) e
  where
    go : (b : Bool) → a ≡ cond b (record { number = 1; table = no_table }) (record { number = 0; table = table_of sharp })
        → limits_in a ≡ limits (tabulate (blimit sharp) 64) (tabulate (limit sharp) 64)
    go true e = absurd (let o = ap (λ (r : LimitAnswer). r.number) e in omega arith)
    go false e = ap limits_in e

module _ (c : Call) (l : Limits) (m : Lent) (n : ℕ) (d : Pass) (p : Piece) (s : List ℕ) where
  abbrev level : ℕ
  level = piece_level c l m n d p

  -- the piece at its level
  at_level : (cls : ℕ) → class (plane_at c l m n) d p ≡ some cls → act (plane_at c l m n) d p s
      ≡ cond (eqb level 0) s (piece_at (line_step d (stride_of c n)) (sample_step d (stride_of c n)) (rule (width_of n cls) (thresholds c.depth l.e l.i level))
      (ix d (stride_of c n) (4 * p.1) (4 * p.0)) s)
  unfolding visit
  at_level cls e = act-visit (component_of c n) (tables_of c l m) d p cls e s

  pub no-level : level ≡ 0 → act (plane_at c l m n) d p s ≡ s
  no-level z = go (class (plane_at c l m n) d p) refl
    where
      go : (o : Option ℕ) → class (plane_at c l m n) d p ≡ o → act (plane_at c l m n) d p s ≡ s
      go (some cls) e = at_level cls e ∙ rw z refl
      go none e = idle (plane_at c l m n) d p e s

  module _ (sharp cls : ℕ) (e : l ≡ limits (tabulate (blimit sharp) 64) (tabulate (limit sharp) 64)) (is : class (plane_at c l m n) d p ≡ some cls)
      (some_level : ¬ (level ≡ 0)) (small : level ≤ 63) where
    bounds-are : thresholds c.depth l.e l.i level ≡ bounds c.depth sharp level
    bounds-are = ap (λ (x : Limits). thresholds c.depth x.e x.i level) e ∙ (walk.promises).standard c.depth sharp level small

    rule-is : act (plane_at c l m n) d p s
        ≡ piece_at (line_step d (stride_of c n)) (sample_step d (stride_of c n)) (rule (width_of n cls) (bounds c.depth sharp level)) (ix d (stride_of c n) (4 * p.1) (4 * p.0)) s
    rule-is =
        at_level cls is ∙ rw (ne_eqb level 0 some_level)
        (ap (λ t. piece_at (line_step d (stride_of c n)) (sample_step d (stride_of c n)) (rule (width_of n cls) t) (ix d (stride_of c n) (4 * p.1) (4 * p.0)) s) bounds-are)

    pub piece_is : There d (stride_of c n) (reads (width_of n cls)) p (length s)
        → Standard d (stride_of c n) (width_of n cls) (bounds c.depth sharp level) p s (act (plane_at c l m n) d p s)
    piece_is ok =
        subst⁻¹ (λ (r : List ℕ). Standard d (stride_of c n) (width_of n cls) (bounds c.depth sharp level) p s r) rule-is
        (piece-standard d (stride_of c n) (width (eqb n 0) cls) (bounds c.depth sharp level) p (length s) ok s refl)
