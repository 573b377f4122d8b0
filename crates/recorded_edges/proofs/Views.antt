-- What an accepted call adds to the bits of a unit: that of the unit's edge in the block, if the unit is visible, and else none, since no two edges of the frame share
-- a bit.
use mathlib.Core.Path.{◌≡◌, refl, sym, ap, ap₂, ◌∙◌}
use mathlib.Core.Bool.{Bool, true, false, ◌&&◌, ◌||◌, or-false}
use mathlib.Core.List.{List}
use mathlib.Core.Logic.{by_cases}
use Prim.Native.Nat.{ℕ, ◌-◌, ◌/◌, ◌<◌}
use native.Mathlib.Decide.{dec_lt}
use native.Mathlib.Nat.{div-add-mod'}
use native.Mathlib.Omega.{arith}
use lib.Dec.{eqb}
use borrow.Author.Tests.{lt-ltb}
use Rattle.bits.specs.Mark.{is_set}
use Rattle.plane.specs.Line.{Pass, columns, rows, Piece, other}
use Rattle.units.proofs.Places.{ss-hor-le, ss-ver-le}
use Rattle.edges.specs.Edges.{units_of, classes, edge_bit}
use Rattle.mask_edges.specs.Recording.{is_edge, class_at}
use Rattle.mask_edges.specs.Recording as recording
use Rattle.block.specs.declared.Block.{Block}
use Rattle.block.specs.Block.{bw4, bh4, cbw4, cbh4, Lent}
use Rattle.record.specs.Record.{Fitting, RecordAnswer}
use Rattle.record.specs.Recorded.{edge_of, luma_block, chroma_block, luma_edge, chroma_edge, Stored}
use Rattle.record.proofs.Answers as record-calls
use Rattle.record.proofs.SoundBlocks.{fitting}
use Rattle.agree.proofs.Marked.{no-unit}
use Rattle.drawn.specs.Owner.{StandsIn, Owns, block_start, sweep_in, frame_bit}
use Rattle.drawn.proofs.Owners.{own, others}
use Rattle.drawn.proofs.Calls.{luma-shape, luma-at, chroma-at, no-chroma, chroma-place-is}
use Rattle.drawn.proofs.ChromaCalls.{no-luma}
use Rattle.recorded_edges.specs.Held.{place_in, block_grid, SeenIn}

-- the block in its record
abbrev pub block_in : Bool → Block → List ℕ → Lent → recording.Block
block_in true b tm m = luma_block b tm m
block_in false b tm m = chroma_block b m

abbrev pub given_in : Bool → Block → Bool
given_in true b = true
given_in false b = b.chroma

module _ (b : Block) (level-stride : ℕ) (values tm : List ℕ) (before after : Lent) (R : RecordAnswer b level-stride values tm 0 before after) where
  abbrev rx : ℕ
  rx = b.x.0 / 32

  abbrev ry : ℕ
  ry = b.y.0 / 32

  stored : Stored b level-stride values tm before after
  stored = ((record-calls.promises).each b level-stride values tm 0 before after R).accepted refl

  pub fits : Fitting b
  fits = fitting b level-stride before (sym R.code)

  abbrev B : Bool → recording.Block
  B luma = block_in luma b tm before

  bits : (luma : Bool) (d : Pass) (p : Piece) (c : ℕ) → c < classes (block_grid luma b)
      → is_set after.masks (edge_bit (block_grid luma b) d p c)
      ≡ (is_set before.masks (edge_bit (block_grid luma b) d p c)
      || (given_in luma b && edge_of (B luma) (frame_bit (block_grid luma b) rx ry (B luma)) (edge_bit (block_grid luma b) d p c)))
  bits true d p c h =
      stored.masks.bits (edge_bit (block_grid true b) d p c)
      ∙ ap (λ (x : Bool). is_set before.masks (edge_bit (block_grid true b) d p c) || x)
      (ap (λ (x : Bool). luma_edge b tm before (edge_bit (block_grid true b) d p c) || x) (no-chroma b fits before d p c h) ∙ or-false _)
  bits false d p c h =
      stored.masks.bits (edge_bit (block_grid false b) d p c)
      ∙ ap (λ (x : Bool). is_set before.masks (edge_bit (block_grid false b) d p c) || x)
      (ap (λ (x : Bool). x || chroma_edge b before (edge_bit (block_grid false b) d p c)) (no-luma b fits tm before d p c h))

  -- ---- where the block lies

  pub place_is : (luma : Bool) (d : Pass) → block_start (block_grid luma b) rx ry (B luma) d ≡ place_in luma b d
  place_is true columns = omega (arith, (luma-shape b tm before).bx4-is, div-add-mod' b.x.0 32)
  place_is true rows = omega (arith, (luma-shape b tm before).by4-is, div-add-mod' b.y.0 32)
  place_is false columns = chroma-place-is b.x.0 _ (ss-hor-le b.layout)
  place_is false rows = chroma-place-is b.y.0 _ (ss-ver-le b.layout)

  pub given : (luma : Bool) (d : Pass) (p : Piece) → SeenIn luma b d p → given_in luma b ≡ true
  given true d p s = refl
  given false d p s = s.given

  wide_is : (B true).w4 ≡ bw4 b
  wide_is = (luma-shape b tm before).w4-is

  high_is : (B true).h4 ≡ bh4 b
  high_is = (luma-shape b tm before).h4-is

  at : (luma : Bool) → given_in luma b ≡ true → 0 < (B luma).w4 → 0 < (B luma).h4 → StandsIn (block_grid luma b) rx ry (B luma)
  at true g w h = luma-at b fits tm before (ap₂ ◌&&◌ (lt-ltb 0 (bw4 b) (omega (arith, wide_is))) (lt-ltb 0 (bh4 b) (omega (arith, high_is))))
  at false g w h = chroma-at b fits before (ap₂ ◌&&◌ g (ap₂ ◌&&◌ (lt-ltb 0 (cbw4 b) w) (lt-ltb 0 (cbh4 b) h)))

  mine : (luma : Bool) (d : Pass) (p : Piece) → SeenIn luma b d p → Owns (block_grid luma b) rx ry (B luma) d p
  mine true columns p s =
      record { across = omega (arith, place_is true columns, wide_is, s.across); along = omega (arith, place_is true rows, high_is, s.down) }
  mine true rows p s =
      record { across = omega (arith, place_is true rows, high_is, s.down); along = omega (arith, place_is true columns, wide_is, s.across) }
  mine false columns p s =
      record { across = omega (arith, place_is false columns, s.across); along = omega (arith, place_is false rows, s.down) }
  mine false rows p s =
      record { across = omega (arith, place_is false rows, s.down); along = omega (arith, place_is false columns, s.across) }

  seen : (luma : Bool) (d : Pass) (p : Piece) → given_in luma b ≡ true → Owns (block_grid luma b) rx ry (B luma) d p → SeenIn luma b d p
  seen true columns p g o =
      record { across = omega (arith, place_is true columns, wide_is, o.across); down = omega (arith, place_is true rows, high_is, o.along) }
  seen true rows p g o =
      record { across = omega (arith, place_is true columns, wide_is, o.along); down = omega (arith, place_is true rows, high_is, o.across) }
  seen false columns p g o =
      record { given = g; across = omega (arith, place_is false columns, o.across); down = omega (arith, place_is false rows, o.along) }
  seen false rows p g o =
      record { given = g; across = omega (arith, place_is false columns, o.along); down = omega (arith, place_is false rows, o.across) }

  pub some-unit : (luma : Bool) (d : Pass) (p : Piece) → Owns (block_grid luma b) rx ry (B luma) d p → (0 < (B luma).w4) × (0 < (B luma).h4)
  some-unit luma columns p o = omega (arith, o.across, o.along)
  some-unit luma rows p o = omega (arith, o.across, o.along)

  -- ---- a visible unit

  module _ (luma : Bool) (d : Pass) (p : Piece) (s : SeenIn luma b d p) where
    abbrev pub across : ℕ
    across = p.0 - place_in luma b d

    abbrev pub along : ℕ
    along = p.1 - place_in luma b (other d)

    pub owned : Owns (block_grid luma b) rx ry (B luma) d p
    owned = mine luma d p s

    pub its-at : StandsIn (block_grid luma b) rx ry (B luma)
    its-at = let u = some-unit luma d p owned in at luma (given luma d p s) u.0 u.1

    pub own-bit : (c : ℕ) → c < classes (block_grid luma b)
        → is_set after.masks (edge_bit (block_grid luma b) d p c)
        ≡ (is_set before.masks (edge_bit (block_grid luma b) d p c)
        || (is_edge (sweep_in d (B luma)) across along && eqb (class_at (sweep_in d (B luma)) across along) c))
    own-bit c h =
        bits luma d p c h
        ∙ ap₂ (λ (g x : Bool). is_set before.masks (edge_bit (block_grid luma b) d p c) || (g && x)) (given luma d p s)
        (own (block_grid luma b) rx ry (B luma) its-at c h d p owned
        ∙ ap₂ (λ (u v : ℕ). is_edge (sweep_in d (B luma)) (p.0 - u) (p.1 - v) && eqb (class_at (sweep_in d (B luma)) (p.0 - u) (p.1 - v)) c)
        (place_is luma d) (place_is luma (other d)))

  -- ---- any other

  pub other-bit : (luma : Bool) (d : Pass) (p : Piece) → ¬ SeenIn luma b d p → p.0 < units_of (block_grid luma b) d → p.1 < units_of (block_grid luma b) (other d)
      → (c : ℕ) → c < classes (block_grid luma b) → is_set after.masks (edge_bit (block_grid luma b) d p c) ≡ is_set before.masks (edge_bit (block_grid luma b) d p c)
  other-bit luma d p n px py c h =
      bits luma d p c h
      ∙ ap (λ (x : Bool). is_set before.masks (edge_bit (block_grid luma b) d p c) || x) (go (given_in luma b) refl)
      ∙ or-false _
    where
      drawn : Bool
      drawn = edge_of (B luma) (frame_bit (block_grid luma b) rx ry (B luma)) (edge_bit (block_grid luma b) d p c)

      none : ¬ ((0 < (B luma).w4) × (0 < (B luma).h4)) → drawn ≡ false
      none z =
          ap₂ ◌||◌
          (no-unit (recording.columns (B luma)) (frame_bit (block_grid luma b) rx ry (B luma) 0) (edge_bit (block_grid luma b) d p c) (λ u v hu hv _. z (omega arith)))
          (no-unit (recording.rows (B luma)) (frame_bit (block_grid luma b) rx ry (B luma) 1) (edge_bit (block_grid luma b) d p c) (λ u v hu hv _. z (omega arith)))

      go : (g : Bool) → given_in luma b ≡ g → (g && drawn) ≡ false
      go false e = refl
      go true e =
          by_cases (dec_lt 0 (B luma).w4)
          (λ w. by_cases (dec_lt 0 (B luma).h4)
          (λ k. others (block_grid luma b) rx ry (B luma) (at luma e w k) c h d p px py (λ o. n (seen luma d p e o)))
          (λ k. none (λ z. k z.1)))
          (λ w. none (λ z. w z.0))
