-- The pass of a call over a plane is told by what the call looks at: each piece of the row has the same class and level, so it does the same to a line.
use mathlib.Core.Path.{◌≡◌, refl, ap, ◌∙◌}
use mathlib.Core.List.{List}
use mathlib.Core.Option.{Option, some, none}
use Prim.Native.Nat.{ℕ, ◌+◌, ◌-◌, ◌*◌, ◌≤◌, ◌<◌}
use native.Mathlib.Numerals.{add-one}
use native.Mathlib.Omega.{arith}
use lib.Dec.{eqb}
use lib.ListN.{get_or}
use Rattle.loops.proofs.Runs.{up_to-same}
use Rattle.plane.specs.Line.{Pass, columns, rows, Piece, piece, other}
use Rattle.plane.specs.Plane.{Plane, class, inner, rule_of, act, right, down, InRow}
use Rattle.plane.proofs.Pieces.{inner-some}
use Rattle.units.specs.Memory.{level_at}
use Rattle.edges.specs.Edges.{Proper, units_of}
use Rattle.gap.specs.Numbers.{sb_units}
use Rattle.view.specs.Level.{level_used}
use Rattle.walk.specs.Walk.{len_of}
use Rattle.filter.specs.declared.Component.{Component}
use Rattle.gap.proofs.NumbersMean.{edge_in}
use Rattle.filter.specs.Filter.{Tables, grid_of, area_of, before, level_of, change_at, plane_of, first_across, first_along, across, along, line_of, sweep_of}
use Rattle.frames.proofs.GapKept.{Size}
use Rattle.own_row.specs.Own.{SameLevels, SameBits}
use Rattle.own_row.proofs.Bits.{edge_same}

-- ---- a plane by two tables of the same depth and limits

abbrev pub Levels : Component → Pass → ℕ → List ℕ → List ℕ → Type 0
Levels c d k = SameLevels (grid_of c) d c.sb4.0 k c.level_stride (area_of c d)

abbrev level_byte : Component → Pass → List ℕ → Piece → ℕ
level_byte c d ls p = get_or ls (level_at c.level_stride (right d p) (down d p) (area_of c d)) 0

-- a piece's own level byte, and that of the unit before the edge: in rows that is of the line above
unit-levels : (c : Component) (d : Pass) (k : ℕ) (ls ls' : List ℕ) → Levels c d k ls ls' → (p : Piece) → 0 < p.0 → p.0 < units_of (grid_of c) d
    → p.1 < units_of (grid_of c) (other d) → k * sb_units (grid_of c) c.sb4.0 ≤ down d p → down d p < (k + 1) * sb_units (grid_of c) c.sb4.0
    → (level_byte c d ls p ≡ level_byte c d ls' p) × (level_byte c d ls (before p) ≡ level_byte c d ls' (before p))
unit-levels c columns k ls ls' l p h x y a b = (l.same p.0 p.1 x y (omega arith, b), l.same (p.0 - 1) p.1 (omega arith) y (omega arith, b))
unit-levels c rows k ls ls' l p h x y a b = (l.same p.1 p.0 y x (omega arith, b), l.same p.1 (p.0 - 1) y (omega arith) (omega arith, omega arith))

in_row : (P : Plane) (k : ℕ) (d : Pass) (g a v : ℕ) → a < across P d → v < along P d → InRow P d k (first_across P d k g + a, first_along P d k g + v)
in_row P k columns g a v x y = record { from = omega arith; to = omega arith }
in_row P k rows g a v x y = record { from = omega arith; to = omega arith }

module _ (c : Component) (proper : Proper (grid_of c)) (size : Size c.sb4.0) (d : Pass) (k depth : ℕ) (e i ls ls' ms ms' : List ℕ) where
  abbrev t : Tables
  t = record { depth = depth; levels = ls; masks = ms; e = e; i = i }

  abbrev t' : Tables
  t' = record { depth = depth; levels = ls'; masks = ms'; e = e; i = i }

  module _ (l : Levels c d k ls ls') (s : SameBits (grid_of c) d c.sb4.0 k ms ms') where
    level-same : (p : Piece) (cls : ℕ) → InRow (plane_of c t) d k p → class (plane_of c t) d p ≡ some cls → level_of c t d p ≡ level_of c t' d p
    level-same p cls r z =
        let o = inner-some p.0 ((plane_of c t).edge d p) cls z in
        let i = edge_in (grid_of c) t.masks d p cls o.1 in
        let u = unit-levels c d k ls ls' l p o.0 i.0 i.1 r.from (rw add-one r.to) in
        λ q. level_used (u.0 q) (u.1 q)

    class_same : (p : Piece) → InRow (plane_of c t) d k p → class (plane_of c t) d p ≡ class (plane_of c t') d p
    class_same p r = ap (inner p.0) (edge_same (grid_of c) proper c.sb4.0 k size d ms ms' s p (r.from, rw add-one r.to))

    act-same : (p : Piece) → InRow (plane_of c t) d k p → (x : List ℕ) → act (plane_of c t) d p x ≡ act (plane_of c t') d p x
    unfolding act
    act-same p r x = ap (λ rule. piece d c.stride rule p x) (go (class (plane_of c t) d p) refl ∙ ap (rule_of (plane_of c t') d p) (class_same p r))
      where
        go : (o : Option ℕ) → class (plane_of c t) d p ≡ o → rule_of (plane_of c t) d p o ≡ rule_of (plane_of c t') d p o
        go none z = refl
        go (some cls) z =
            λ q.
            record {
              reads = (plane_of c t).widths.reads cls;
              writes = (plane_of c t).widths.writes cls;
              rule = change_at t (len_of (eqb c.plane 0) cls) (level-same p cls r z q);
            }

    pub sweep-same : (x : List ℕ) → sweep_of (plane_of c t) d k x ≡ sweep_of (plane_of c t') d k x
    unfolding sweep_of line_of
    sweep-same =
        up_to-same _ _ (plane_of c t).records (λ g _. up_to-same _ _ (across (plane_of c t) d)
        (λ a h. up_to-same _ _ (along (plane_of c t) d) (λ v w. act-same _ (in_row (plane_of c t) k d g a v h w))))
