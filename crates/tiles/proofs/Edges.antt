-- Each unit of a frame of tiles has the bit of its edge alone: as its tile draws it or, at a tile's start, as the correction leaves it.
use mathlib.Core.Bool.{Bool, ◌&&◌, ◌||◌}
use mathlib.Core.List.{List}
use mathlib.Core.Logic.{by_cases}
use mathlib.Core.Path.{◌≡◌, refl, sym, ap, ◌∙◌}
use Prim.Native.Nat.{ℕ, ◌-◌, ◌<◌, min}
use native.Mathlib.Decide.{dec_lt, ℕ_discrete}
use native.Mathlib.Omega.{arith}
use lib.Dec.{eqb}
use borrow.Author.Tests.{eq-eqb, ne_eqb}
use Rattle.bits.specs.Mark.{is_set}
use Rattle.standard.specs.Edge.{Frame}
use Rattle.plane.specs.Line.{Pass, Piece, other}
use Rattle.edges.specs.Edges.{Grid, units_of, classes, edge_bit, edge}
use Rattle.covering.specs.Front.{Tile}
use Rattle.covering.specs.Standard.{side_at, transform_class, edge_class, applies_at, filtered_edge}
use Rattle.drawn.specs.Run.{drawn_class}
use Rattle.drawn.proofs.EdgesFromBits.{eqb-turn, all_edges}
use Rattle.tiles.specs.Tiles.{turned, In, Fix, InTiles}
use Rattle.tiles.proofs.TilesJoined.{start-applies, tiles-bit}
use Rattle.tiles.proofs.CorrectedBits.{never-stays, once-fixed}

module _ (D : Frame) (plane : ℕ) (G : Grid) (start : ℕ) (ts : List Tile) (l : List Fix) (m n o : List ℕ) (I : InTiles D plane G start ts l m n o) where
  module _ (d : Pass) (p : Piece) (px : p.0 < units_of G d) (py : p.1 < units_of G (other d)) where
    abbrev on : Bool
    on = applies_at D plane d p.1 p.0

    abbrev own : ℕ
    own = transform_class D plane d p.0 p.1

    abbrev T : Tile
    T = (I.parted.every d p px py).0

    inside : In T d p
    inside = (I.parted.every d p px py).2

    drawn : (c : ℕ) → c < classes G → is_set n (edge_bit G d p c) ≡ (on && eqb (drawn_class D plane (turned d T) d p) c)
    drawn c hc =
        tiles-bit D plane G start d p c px py hc ts m n I.recorded I.parted.apart T (I.parted.every d p px py).1 inside
        ∙ ap (λ (b : Bool). b || (on && eqb (drawn_class D plane (turned d T) d p) c)) (I.clear d p c px py hc)

    -- no correction
    as-drawn : ¬ ((p.0 ≡ (turned d T).x0) × (0 < p.0)) → drawn_class D plane (turned d T) d p ≡ edge_class D plane d p
        → (c : ℕ) → c < classes G → is_set o (edge_bit G d p c) ≡ (on && eqb (edge_class D plane d p) c)
    as-drawn free e c hc =
        never-stays G d p px py l n o I.corrected I.starts.frame (I.starts.rest d p px py T (I.parted.every d p px py).1 inside free) c hc ∙ drawn c hc
        ∙ ap (λ (k : ℕ). on && eqb k c) e

    -- one
    as-fixed : p.0 ≡ (turned d T).x0 → 0 < p.0 → (c : ℕ) → c < classes G → is_set o (edge_bit G d p c) ≡ (on && eqb (edge_class D plane d p) c)
    as-fixed e past c hc =
        let a = start-applies D plane G start d p ts m n I.recorded T (I.parted.every d p px py).1 inside e in
        once-fixed G d p px py l n o I.corrected I.starts.frame (transform_class D plane d (p.0 - 1) p.1)
        (I.starts.starts d p px py T (I.parted.every d p px py).1 inside e past)
        own (I.tallies.low (side_at D plane d p.1 p.0)) (λ k hk. drawn k hk ∙ rw (a, eq-eqb p.0 (turned d T).x0 e) refl) c hc
        ∙ eqb-turn c (edge_class D plane d p) ∙ sym (ap (λ (b : Bool). b && eqb (edge_class D plane d p) c) a)

    bits : (c : ℕ) → c < classes G → is_set o (edge_bit G d p c) ≡ (on && eqb (edge_class D plane d p) c)
    bits =
        by_cases (ℕ_discrete p.0 (turned d T).x0)
        (λ e. by_cases (dec_lt 0 p.0) (as-fixed e)
        (λ z. as-drawn (λ q. z q.1) (rw (eq-eqb p.0 (turned d T).x0 e) (first z))))
        (λ e. as-drawn (λ q. e q.0) (rw (ne_eqb p.0 (turned d T).x0 e) refl))
      where
        first : ¬ (0 < p.0) → own ≡ edge_class D plane d p
        first z =
            let f : p.0 ≡ p.0 - 1 = omega arith in
            let g : own ≡ min own own = omega arith in
            g ∙ ap (λ (x : ℕ). min own (transform_class D plane d x p.1)) f

  pub edges : (d : Pass) (p : Piece) → edge G o d p ≡ filtered_edge D plane d p.1 p.0
  edges = all_edges D plane G I.tallies o bits
