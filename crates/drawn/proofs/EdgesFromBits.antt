-- The bits of a plane's units tell its edges: where each unit of the frame has the bit of the standard's edge alone, the edges are the standard's.
use mathlib.Core.Path.{◌≡◌, refl, sym, ap₂, ◌∙◌}
use mathlib.Core.Bool.{Bool, true, false, cond, ◌&&◌}
use mathlib.Core.List.{List}
use mathlib.Core.Logic.{by_cases}
use mathlib.Core.Option.{some, none}
use Prim.Native.Nat.{ℕ, zero, suc, ◌*◌, ◌^◌, ◌≤◌, ◌<◌}
use native.Mathlib.Decide.{dec_lt, ℕ_discrete}
use native.Mathlib.Omega.{arith}
use lib.Dec.{eqb, ltb}
use borrow.Author.Tests.{lt-ltb, le-ltb, eq-eqb, ne_eqb}
use Rattle.bits.specs.Mark.{is_set}
use Rattle.plane.specs.Line.{Pass, columns, rows, Piece, other}
use Rattle.standard.specs.Edge.{Frame}
use Rattle.units.specs.Units.{units_of, chroma_units}
use Rattle.edges.specs.Edges.{Grid, classes, in_frame, highest, edge_bit, edge}
use Rattle.edges.specs.Edges as edges
use Rattle.edges.proofs.Bits.{highest-one, highest-none}
use Rattle.covering.specs.Standard.{side_at, edge_class, visited_row, visited_col, applies_at, filtered_edge}
use Rattle.loops.proofs.Bools.{and-turn}
use Rattle.drawn.specs.Run.{Tallies}

pub eqb-turn : (a b : ℕ) → eqb a b ≡ eqb b a
eqb-turn a b = by_cases (ℕ_discrete a b) (λ e. eq-eqb a b e ∙ sym (eq-eqb b a (sym e))) (λ n. ne_eqb a b n ∙ sym (ne_eqb b a (λ e. n (sym e))))

-- one bit, or none
module _ (G : Grid) (ms : List ℕ) (d : Pass) (p : Piece) (px : p.0 < edges.units_of G d) (py : p.1 < edges.units_of G (other d)) where
  bits-edge : (on : Bool) (k : ℕ) → k < classes G → ((c : ℕ) → c < classes G → is_set ms (edge_bit G d p c) ≡ (on && eqb k c)) → edge G ms d p ≡ cond on (some k) none
  unfolding edge
  bits-edge on k low h = rw (lt-ltb p.0 (edges.units_of G d) px, lt-ltb p.1 (edges.units_of G (other d)) py) (go on h)
    where
      go : (on : Bool) → ((c : ℕ) → c < classes G → is_set ms (edge_bit G d p c) ≡ (on && eqb k c))
          → highest (classes G) (λ c. is_set ms (edge_bit G d p c)) ≡ cond on (some k) none
      go true h = highest-one (classes G) (λ c. is_set ms (edge_bit G d p c)) k (λ c l. h c l ∙ eqb-turn k c) low
      go false h = highest-none (classes G) (λ c. is_set ms (edge_bit G d p c)) h

-- ---- the frame

on-screen : (u W ss : ℕ) → ss ≤ 1 → u < chroma_units ss (units_of W) → 4 * (u * 2 ^ ss) < W
on-screen u W zero h l = omega arith
on-screen u W (suc zero) h l = omega arith
on-screen u W (suc (suc s)) h l = absurd (omega arith)

off-screen : (u W ss : ℕ) → ss ≤ 1 → ¬ (u < chroma_units ss (units_of W)) → W ≤ 4 * (u * 2 ^ ss)
off-screen u W zero h l = omega arith
off-screen u W (suc zero) h l = omega arith
off-screen u W (suc (suc s)) h l = absurd (omega arith)

module _ (D : Frame) (plane : ℕ) (G : Grid) (A : Tallies D plane G) where
  -- the units of the frame, either way
  units-x : chroma_units (D.sx plane) (units_of D.FrameWidth) ≡ edges.units_of G columns
  units-x = ap₂ chroma_units A.right-ss (sym A.width)

  units-y : chroma_units (D.sy plane) (units_of D.FrameHeight) ≡ edges.units_of G rows
  units-y = ap₂ chroma_units A.down-ss (sym A.height)

  pub sx-le : D.sx plane ≤ 1
  sx-le = omega (arith, A.right-ss, A.proper.ss-hor-le)

  pub sy-le : D.sy plane ≤ 1
  sy-le = omega (arith, A.down-ss, A.proper.ss-ver-le)

  abbrev on_screen : Pass → Piece → Bool
  on_screen d p = ltb (4 * visited_col D plane d p.1 p.0) D.FrameWidth && ltb (4 * visited_row D plane d p.1 p.0) D.FrameHeight

  screen : (x y : ℕ) → (ltb (4 * (x * 2 ^ D.sx plane)) D.FrameWidth && ltb (4 * (y * 2 ^ D.sy plane)) D.FrameHeight)
      ≡ (ltb x (edges.units_of G columns) && ltb y (edges.units_of G rows))
  screen x y = ap₂ ◌&&◌ (one x D.FrameWidth (D.sx plane) sx-le (edges.units_of G columns) units-x) (one y D.FrameHeight (D.sy plane) sy-le (edges.units_of G rows) units-y)
    where
      one : (u W ss : ℕ) → ss ≤ 1 → (n : ℕ) → chroma_units ss (units_of W) ≡ n → ltb (4 * (u * 2 ^ ss)) W ≡ ltb u n
      one u W ss h n e =
          by_cases (dec_lt u (chroma_units ss (units_of W)))
          (λ l. lt-ltb _ W (on-screen u W ss h l) ∙ sym (lt-ltb u n (omega arith)))
          (λ l. le-ltb _ W (off-screen u W ss h l) ∙ sym (le-ltb u n (omega arith)))

  in_frame_lem : (d : Pass) (p : Piece) → in_frame G d p ≡ on_screen d p
  in_frame_lem columns p = sym (screen p.0 p.1)
  in_frame_lem rows p = and-turn (ltb p.0 (edges.units_of G rows)) (ltb p.1 (edges.units_of G columns)) ∙ sym (screen p.1 p.0)

  pub all_edges : (ms : List ℕ)
      → ((d : Pass) (p : Piece) → p.0 < edges.units_of G d → p.1 < edges.units_of G (other d) → (c : ℕ) → c < classes G
      → is_set ms (edge_bit G d p c) ≡ (applies_at D plane d p.1 p.0 && eqb (edge_class D plane d p) c))
      → (d : Pass) (p : Piece) → edge G ms d p ≡ filtered_edge D plane d p.1 p.0
  unfolding edge
  all_edges ms h d p =
      by_cases (dec_lt p.0 (edges.units_of G d))
      (λ px. by_cases (dec_lt p.1 (edges.units_of G (other d)))
      (λ py.
      bits-edge G ms d p px py (applies_at D plane d p.1 p.0) (edge_class D plane d p) (omega (arith, A.low (side_at D plane d p.1 p.0))) (h d p px py)
      ∙ rw (sym (in_frame_lem d p), lt-ltb p.0 (edges.units_of G d) px, lt-ltb p.1 (edges.units_of G (other d)) py) refl)
      (λ n. rw (sym (in_frame_lem d p), lt-ltb p.0 (edges.units_of G d) px, le-ltb p.1 (edges.units_of G (other d)) (omega arith)) refl))
      (λ n. rw (sym (in_frame_lem d p), le-ltb p.0 (edges.units_of G d) (omega arith)) refl)
