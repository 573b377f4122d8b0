-- What recording a block comes to, document 01, "Recording", and 7.14.2, 7.14.3 of the standard, in whatever order it is done.
--   Block               a block in its record of masks. Places and sizes are in units of its plane, transforms counted from its corner
--   Sweep               the block as one pass sees it: u counts units across the pass, v along it
--   columns, rows       pass 0 and pass 1
--   is_edge S u v        there is an edge at (u, v): its transform starts there, and it is the block's own edge or inner edges count
--   class_before S u v   the class of the transform before (u, v), which at the block's edge the context tells
--   class_at S u v       the edge's class: the least of its transform's and of the one before
--   context_after S v    the context after the block: the class of its last column or row, where it reaches
--   edges S bit e       e is the bit of an edge
--   Recorded            the bits of the block's edges are set, and no other changes; `bit pass unit class place` is the bit of an edge
--   Contexts            the two contexts after the block
--   Room                what the recorders ask: the block lies in its record, and the contexts reach as far; ss 0 for luma
--   chroma_bits ss-hor ss-ver  the bit of a chroma edge (of luma: luma_bit)
--   intra_block, inter_block, chroma_block   the blocks that the three recorders take: of one transform t, or of those that tx_masks make
--                       of t; inner edges of a skipped inter block do not count; a and l are the contexts above and left
use Rattle.std.specs.Prelude.{◌≡◌, Bool, true, cond, not, ◌&&◌, ◌||◌, List, ℕ, zero, suc, ◌+◌, ◌-◌, ◌*◌, ◌%◌, ◌≤◌, ◌<◌, min, eqb, ltb, length, get_or}
use Rattle.loops.specs.Any.{any_below}
use Rattle.bits.specs.Mark.{is_set}
use Rattle.standard.specs.Sizes.{Tx_Wide, Tx_High}
use Rattle.units.specs.Masks.{chroma_bit, half_units}
use Rattle.units.specs.Sizes.{luma_class, chroma_class}
use Rattle.decomp.specs.Split.{tx_at}

pub record Block : Type 0 where
  pub bx4 : ℕ
  pub by4 : ℕ
  pub w4 : ℕ
  pub h4 : ℕ
  pub tx : ℕ → ℕ → ℕ
  pub inner : Bool
  pub class : ℕ → ℕ
  pub above : ℕ → ℕ
  pub left : ℕ → ℕ

-- the block's place and visible size, across the pass and along it; the side across of the transform at (u, v)
pub record Sweep : Type 0 where
  pub unit : ℕ
  pub place : ℕ
  pub across : ℕ
  pub along : ℕ
  pub side : ℕ → ℕ → ℕ
  pub inner : Bool
  pub class : ℕ → ℕ
  pub context : ℕ → ℕ

abbrev pub columns : Block → Sweep
columns B =
    record {
      unit = B.bx4;
      place = B.by4;
      across = B.w4;
      along = B.h4;
      side = λ u v. Tx_Wide (B.tx u v);
      inner = B.inner;
      class = B.class;
      context = B.left;
    }

abbrev pub rows : Block → Sweep
rows B =
    record {
      unit = B.by4;
      place = B.bx4;
      across = B.h4;
      along = B.w4;
      side = λ u v. Tx_High (B.tx v u);
      inner = B.inner;
      class = B.class;
      context = B.above;
    }

abbrev pub is_edge : Sweep → ℕ → ℕ → Bool
is_edge S u v = eqb (u % S.side u v) 0 && (eqb u 0 || S.inner)

abbrev pub class_before : Sweep → ℕ → ℕ → ℕ
class_before S zero v = S.context v
class_before S (suc u) v = S.class (S.side u v)

abbrev pub class_at : Sweep → ℕ → ℕ → ℕ
class_at S u v = min (S.class (S.side u v)) (class_before S u v)

abbrev pub context_after : Sweep → ℕ → ℕ
context_after S v = cond (ltb v S.along) (S.class (S.side (S.across - 1) v)) (S.context v)

unfoldable pub edges : Sweep → (ℕ → ℕ → ℕ → ℕ) → ℕ → Bool
edges S bit e =
    any_below S.across (λ u. any_below S.along (λ v. is_edge S u v && eqb (bit (S.unit + u) (class_at S u v) (S.place + v)) e))

pub record Recorded (B : Block) (bit : ℕ → ℕ → ℕ → ℕ → ℕ) (before after : List ℕ) : Type 0 where
  pub long : length after ≡ length before
  pub bits : (e : ℕ) → is_set after e ≡ (is_set before e || (edges (columns B) (bit 0) e || edges (rows B) (bit 1) e))

pub record Contexts (B : Block) (above left : List ℕ) : Type 0 where
  pub above-is : (x : ℕ) → get_or above x 0 ≡ context_after (rows B) x
  pub left_is : (y : ℕ) → get_or left y 0 ≡ context_after (columns B) y

-- the bit of a chroma edge: a half holds 16 units, or 16 >> ss of the direction along the pass
abbrev pub chroma_bits : ℕ → ℕ → ℕ → ℕ → ℕ → ℕ → ℕ
chroma_bits ss-hor ss-ver zero = chroma_bit ss-ver 0
chroma_bits ss-hor ss-ver (suc pass) = chroma_bit ss-hor 1

module _ (class : ℕ → ℕ) (inner : Bool) (tx : ℕ → ℕ → ℕ) (by4 bx4 w4 h4 : ℕ) (a l : List ℕ) where
  abbrev pub block_of : Block
  block_of =
      record {
        bx4 = bx4;
        by4 = by4;
        w4 = w4;
        h4 = h4;
        tx = tx;
        inner = inner;
        class = class;
        above = λ x. get_or a x 0;
        left = λ y. get_or l y 0;
      }

abbrev pub intra_block : ℕ → ℕ → ℕ → ℕ → ℕ → List ℕ → List ℕ → Block
intra_block by4 bx4 w4 h4 t a l = block_of luma_class true (λ _ _. t) by4 bx4 w4 h4 a l

abbrev pub inter_block : ℕ → ℕ → ℕ → ℕ → Bool → ℕ → List ℕ → List ℕ → List ℕ → Block
inter_block by4 bx4 w4 h4 skip t tx-masks a l = block_of luma_class (not skip) (tx_at tx-masks t) by4 bx4 w4 h4 a l

abbrev pub chroma_block : ℕ → ℕ → ℕ → ℕ → Bool → ℕ → List ℕ → List ℕ → Block
chroma_block by4 bx4 w4 h4 skip t a l = block_of chroma_class (not skip) (λ _ _. t) by4 bx4 w4 h4 a l

pub record Room (by4 bx4 w4 h4 ss-hor ss-ver words above left : ℕ) : Type 0 where
  pub width : (0 < w4) × (bx4 + w4 ≤ 2 * half_units ss-hor)
  pub height : (0 < h4) × (by4 + h4 ≤ 2 * half_units ss-ver)
  pub record-words : 640 ≤ words
  pub above-units : w4 ≤ above
  pub left-units : h4 ≤ left
