-- A legal block agrees with the standard: the standard looks up the block's own units, and asks there what the recording asks from the block's corner.
use mathlib.Core.Path.{◌≡◌, refl, sym, ap, ap₂, ◌∙◌}
use mathlib.Core.Bool.{Bool, true, false, cond, not, ◌&&◌, ◌||◌, or_assoc, and-false}
use mathlib.Core.List.{List}
use Prim.Native.Nat.{ℕ, zero, suc, ◌+◌, ◌-◌, ◌*◌, ◌/◌, ◌%◌, ◌^◌, ◌≤◌, ◌<◌, min}
use native.Mathlib.Omega.{arith}
use lib.Bits.{bit_or}
use lib.Dec.{eqb, ltb}
use borrow.Author.Tests.{lt-ltb, le-ltb}
use Rattle.standard.specs.Sizes.{Num_4x4_Blocks_Wide, Num_4x4_Blocks_High, Tx_Wide, Tx_High, plane_side}
use Rattle.standard.specs.FilterSize.{filter_size, filter_len}
use Rattle.standard.specs.Edge.{Frame, on_screen, x_p, y_p, prev_tx_sz, is_block_edge, is_tx_edge, apply_filter, edge_size}
use Rattle.units.specs.Masks.{half_units}
use Rattle.units.specs.Sizes.{luma_class, chroma_class, Side, BlockRule}
use Rattle.units.proofs.Rules.{block-rule, tx-rule}
use Rattle.mask_edges.specs.Recording.{Block, Sweep, columns, rows, is_edge, class_before, class_at, context_after, Recorded}
use Rattle.walk.specs.Walk.{width_of}
use Rattle.agree.specs.Legal.{Coded, luma_width, luma_height, left, top, block_width, block_height, row_at, col_at, Legal, class_of, side_of, Shows, Tells}
use Rattle.agree.specs.Promises.{start, Agrees, bits_of, classes, Marks, Promises}
use Rattle.agree.proofs.Widths.{width_same}
use Rattle.agree.proofs.Axis.{own-unit, prev-unit, same-unit, covered, tx-test, block-test}
use Rattle.agree.proofs.Marked.{class_low, in-columns, in_rows}
use Rattle.agree.proofs.Recorders.{intra-shows, inter-shows, chroma-shows}

-- ---- either pass

-- apply_filter, of the transform's test t and the block's e
apply : {t t' e e' skip skip' intra intra' inner : Bool} → t' ≡ t → e' ≡ e → skip' ≡ skip → intra' ≡ intra → inner ≡ (not skip || intra)
    → (t && (e || inner)) ≡ (t' && (e' || not skip' || intra'))
apply {t} {e = e} {skip = skip} {intra = intra} p q r s f = rw (p, q, r, s, f) (ap (λ (b : Bool). t && b) (sym (or_assoc e (not skip) intra)))

side-of : (pass t : ℕ) → t < 19 → Side (side_of pass t) 16
side-of pass t h = go (eqb pass 0)
  where
    go : (b : Bool) → Side (cond b (Tx_Wide t) (Tx_High t)) 16
    go true = (tx-rule t h).width
    go false = (tx-rule t h).height

-- a context that holds the highest class says nothing
at_most : (luma : Bool) (n : ℕ) → cond luma (luma_class n) (chroma_class n) ≤ cond luma 2 1
at_most true n = omega (arith, class_low true n)
at_most false n = omega (arith, class_low false n)

capped : (a b k : ℕ) → a ≤ b → min (min a b) k ≡ min a k
capped a b k h = omega arith

-- a line of the sweep S across the pass, whose units have the transforms T, from `base` on
module _ (plane pass : ℕ) (S : Sweep) (v base : ℕ) (T : ℕ → ℕ) (class : (n : ℕ) → S.class n ≡ class_of plane n)
    (at : (u : ℕ) → u < S.across → (T (base + u) < 19) × (S.side u v ≡ side_of pass (T (base + u)))) where
  own-class : (u : ℕ) → u < S.across → Tells plane pass (T (base + u)) (S.class (S.side u v))
  own-class u h = record { code = (at u h).0; class = class (S.side u v) ∙ ap (class_of plane) (at u h).1 }

  class-before : (u : ℕ) → u < S.across → (u ≡ 0 → Tells plane pass (T (base - 1)) (S.context v)) → Tells plane pass (T (base + u - 1)) (class_before S u v)
  class-before zero h k = let e : base + 0 - 1 ≡ base - 1 = omega arith in rw e (k refl)
  class-before (suc u) h k = let e : base + suc u - 1 ≡ base + u = omega arith in rw e (own-class u (omega arith))

  -- the filter of the transform at u and the one before it
  abbrev filter : ℕ → ℕ
  filter u = filter_len plane (filter_size plane (4 * side_of pass (T (base + u))) (4 * side_of pass (T (base + u - 1))))

  least : (u k : ℕ) → u < S.across → Tells plane pass (T (base + u - 1)) k → width_of plane (min (S.class (S.side u v)) k) ≡ filter u
  least u k h b =
      let a = own-class u h in
      ap₂ (λ (c d : ℕ). width_of plane (min c d)) a.class b.class
      ∙ width_same plane (side_of pass (T (base + u))) (side_of pass (T (base + u - 1))) (side-of pass (T (base + u)) a.code)
      (side-of pass (T (base + u - 1)) b.code)

  width : (u : ℕ) → u < S.across → (u ≡ 0 → Tells plane pass (T (base - 1)) (S.context v)) → width_of plane (class_at S u v) ≡ filter u
  width u h q = least u (class_before S u v) h (class-before u h q)

  corrected : (u : ℕ) → u < S.across → u ≡ 0 → S.context v ≡ start plane → (k : ℕ) → Tells plane pass (T (base - 1)) k
      → width_of plane (min (class_at S u v) k) ≡ filter u
  corrected zero h z e k b =
      let c : base + 0 - 1 ≡ base - 1 = omega arith in
      let m : S.class (S.side 0 v) ≤ S.context v = rw (class (S.side 0 v), e) (at_most (eqb plane 0) (S.side 0 v)) in
      ap (width_of plane) (capped (S.class (S.side 0 v)) (S.context v) k m) ∙ least 0 k h (rw c b)
  corrected (suc u) h z e k b = absurd (omega arith)

-- ---- a block

module _ (D : Frame) (plane : ℕ) (C : Coded) (B : Block) (S : Shows D plane C B) where
  abbrev X : ℕ
  X = left D plane C

  abbrev Y : ℕ
  Y = top D plane C

  -- the transform at a unit of the block
  seen : (x y : ℕ) → x < B.w4 → y < B.h4 → (D.TxSizes plane (Y + y) (X + x) < 19) × (B.tx x y ≡ D.TxSizes plane (Y + y) (X + x))
  seen x y h k = (rw (S.tx x y h k) (S.code x y h k), sym (S.tx x y h k))

  across : (y : ℕ) → y < B.h4 → (x : ℕ) → x < B.w4
      → (D.TxSizes plane (Y + y) (X + x) < 19) × (Tx_Wide (B.tx x y) ≡ Tx_Wide (D.TxSizes plane (Y + y) (X + x)))
  across y k x h = let e = seen x y h k in (e.0, ap Tx_Wide e.1)

  down : (x : ℕ) → x < B.w4 → (y : ℕ) → y < B.h4
      → (D.TxSizes plane (Y + y) (X + x) < 19) × (Tx_High (B.tx x y) ≡ Tx_High (D.TxSizes plane (Y + y) (X + x)))
  down x h y k = let e = seen x y h k in (e.0, ap Tx_High e.1)

  left_after : (y : ℕ) → (y < B.h4 → Tells plane 0 (D.TxSizes plane (Y + y) (X + B.w4 - 1)) (context_after (columns B) y))
      × (B.h4 ≤ y → context_after (columns B) y ≡ B.left y)
  left_after y = (
    λ k. let e : X + B.w4 - 1 ≡ X + (B.w4 - 1) = omega (arith, S.wide-seen.0) in
        rw (e, lt-ltb y B.h4 k) (own-class plane 0 (columns B) y X (D.TxSizes plane (Y + y)) S.class (across y k) (B.w4 - 1) (omega (arith, S.wide-seen.0))),
    λ k. rw (le-ltb y B.h4 k) refl,
  )

  above-after : (x : ℕ) → (x < B.w4 → Tells plane 1 (D.TxSizes plane (Y + B.h4 - 1) (X + x)) (context_after (rows B) x))
      × (B.w4 ≤ x → context_after (rows B) x ≡ B.above x)
  above-after x = (
    λ h. let e : Y + B.h4 - 1 ≡ Y + (B.h4 - 1) = omega (arith, S.high-seen.0) in
        rw (e, lt-ltb x B.w4 h) (own-class plane 1 (rows B) x Y (λ r. D.TxSizes plane r (X + x)) S.class (down x h) (B.h4 - 1) (omega (arith, S.high-seen.0))),
    λ h. rw (le-ltb x B.w4 h) refl,
  )

  module _ (L : Legal D plane C) (x y : ℕ) (h : x < B.w4) (k : y < B.h4) where
    abbrev row : ℕ
    row = row_at D plane C y

    abbrev col : ℕ
    col = col_at D plane C x

    -- what the standard looks up: the block's own transform and the one before it, and the block
    tx-here : D.TxSizes plane (bit_or row (D.sy plane) / 2 ^ D.sy plane) (bit_or col (D.sx plane) / 2 ^ D.sx plane) ≡ D.TxSizes plane (Y + y) (X + x)
    tx-here = ap₂ (D.TxSizes plane) (own-unit (D.sy plane) (Y + y) L.down.sub) (own-unit (D.sx plane) (X + x) L.across.sub)

    tx-left : prev_tx_sz D plane 0 row col ≡ D.TxSizes plane (Y + y) (X + x - 1)
    tx-left = ap₂ (D.TxSizes plane) (same-unit (D.sy plane) (Y + y) L.down.sub) (prev-unit (D.sx plane) (X + x) L.across.sub)

    tx-above : prev_tx_sz D plane 1 row col ≡ D.TxSizes plane (Y + y - 1) (X + x)
    tx-above = ap₂ (D.TxSizes plane) (prev-unit (D.sy plane) (Y + y) L.down.sub) (same-unit (D.sx plane) (X + x) L.across.sub)

    rule : BlockRule C.MiSize
    rule = block-rule C.MiSize L.code

    in-wide : x < block_width D plane C
    in-wide = omega (arith, h, S.wide-seen.1)

    in-high : y < block_height D plane C
    in-high = omega (arith, k, S.high-seen.1)

    own : (D.MiSize (bit_or row (D.sy plane)) (bit_or col (D.sx plane)) ≡ C.MiSize)
        × (D.Skip (bit_or row (D.sy plane)) (bit_or col (D.sx plane)) ≡ C.Skip)
        × (D.is_intra (bit_or row (D.sy plane)) (bit_or col (D.sx plane)) ≡ C.is_intra)
    own =
        L.covers (bit_or row (D.sy plane)) (bit_or col (D.sx plane))
        (covered (luma_height C) rule.height C.MiRow (D.sy plane) L.down y in-high)
        (covered (luma_width C) rule.width C.MiCol (D.sx plane) L.across x in-wide)

    tx-is : D.TxSizes plane (bit_or row (D.sy plane) / 2 ^ D.sy plane) (bit_or col (D.sx plane) / 2 ^ D.sx plane) ≡ B.tx x y
    tx-is = tx-here ∙ S.tx x y h k

    columns-edge : is_edge (columns B) x y ≡ apply_filter D plane 0 row col
    unfolding apply_filter is_tx_edge is_block_edge
    columns-edge =
        apply
        (ap (λ (t : ℕ). eqb (x_p D plane 0 row col % (4 * Tx_Wide t)) 0) tx-is
        ∙ tx-test (D.sx plane) (luma_width C) C.MiCol rule.width L.across x (Tx_Wide (B.tx x y)) (tx-rule (B.tx x y) (S.code x y h k)).width
        (S.fits x y h k).0)
        (ap (λ (b : ℕ). eqb (x_p D plane 0 row col % plane_side (Num_4x4_Blocks_Wide b) (D.sx plane)) 0) own.0
        ∙ block-test (D.sx plane) (luma_width C) C.MiCol rule.width L.across x in-wide)
        own.1 own.2 S.inner

    rows-edge : is_edge (rows B) y x ≡ apply_filter D plane 1 row col
    unfolding apply_filter is_tx_edge is_block_edge
    rows-edge =
        apply
        (ap (λ (t : ℕ). eqb (y_p D plane 1 row col % (4 * Tx_High t)) 0) tx-is
        ∙ tx-test (D.sy plane) (luma_height C) C.MiRow rule.height L.down y (Tx_High (B.tx x y)) (tx-rule (B.tx x y) (S.code x y h k)).height
        (S.fits x y h k).1)
        (ap (λ (b : ℕ). eqb (y_p D plane 1 row col % plane_side (Num_4x4_Blocks_High b) (D.sy plane)) 0) own.0
        ∙ block-test (D.sy plane) (luma_height C) C.MiRow rule.height L.down y in-high)
        own.1 own.2 S.inner

    to-left : filter_len plane (filter_size plane (4 * Tx_Wide (D.TxSizes plane (Y + y) (X + x))) (4 * Tx_Wide (D.TxSizes plane (Y + y) (X + x - 1))))
        ≡ filter_len plane (edge_size D plane 0 row col)
    unfolding edge_size
    to-left = ap₂ (λ (t u : ℕ). filter_len plane (filter_size plane (4 * Tx_Wide t) (4 * Tx_Wide u))) (sym tx-here) (sym tx-left)

    to-above : filter_len plane (filter_size plane (4 * Tx_High (D.TxSizes plane (Y + y) (X + x))) (4 * Tx_High (D.TxSizes plane (Y + y - 1) (X + x))))
        ≡ filter_len plane (edge_size D plane 1 row col)
    unfolding edge_size
    to-above = ap₂ (λ (t u : ℕ). filter_len plane (filter_size plane (4 * Tx_High t) (4 * Tx_High u))) (sym tx-here) (sym tx-above)

    columns-agree : Agrees D plane 0 row col (columns B) x y (D.TxSizes plane (Y + y) (X - 1))
    columns-agree =
        record {
          edge = columns-edge;
          width = λ q. width plane 0 (columns B) y X (D.TxSizes plane (Y + y)) S.class (across y k) x h q ∙ to-left;
          corrected = λ z e c q. corrected plane 0 (columns B) y X (D.TxSizes plane (Y + y)) S.class (across y k) x h z e c q ∙ to-left;
        }

    rows_agree : Agrees D plane 1 row col (rows B) y x (D.TxSizes plane (Y - 1) (X + x))
    rows_agree =
        record {
          edge = rows-edge;
          width = λ q. width plane 1 (rows B) x Y (λ r. D.TxSizes plane r (X + x)) S.class (down x h) y k q ∙ to-above;
          corrected = λ z e c q. corrected plane 1 (rows B) x Y (λ r. D.TxSizes plane r (X + x)) S.class (down x h) y k z e c q ∙ to-above;
        }

    module _ (fits-right : B.bx4 + B.w4 ≤ 2 * half_units (D.sx plane)) (fits-down : B.by4 + B.h4 ≤ 2 * half_units (D.sy plane)) (before after : List ℕ)
        (R : Recorded B (bits_of D plane) before after) where
      low : (n : ℕ) → B.class n < classes plane
      low n = rw (S.class n) (class_low (eqb plane 0) n)

      columns-mark : Marks D plane 0 row col (columns B) x y before after
      columns-mark =
          record {
            bit = λ c q. rw columns-edge at
                (in-columns B (eqb plane 0) (D.sx plane) (D.sy plane) L.across.sub L.down.sub fits-right fits-down low before after R x y h k c q);
          }

      rows-mark : Marks D plane 1 row col (rows B) y x before after
      rows-mark =
          record {
            bit = λ c q. rw rows-edge at
                (in_rows B (eqb plane 0) (D.sx plane) (D.sy plane) L.across.sub L.down.sub fits-right fits-down low before after R x y h k c q);
          }

-- ---- the frame's own border

-- a conjunction whose part says that c is not 0
not_third : (a b : Bool) (c : ℕ) (d : Bool) → c ≡ 0 → (a && b && not (eqb c 0) && d) ≡ false
not_third a b c d e = rw (e, and-false (a && b)) refl

not_last : (a : Bool) (c : ℕ) → c ≡ 0 → (a && not (eqb c 0)) ≡ false
not_last a c e = rw e (and-false a)

first : (ss k : ℕ) → k ≡ 0 → 4 * (k * 2 ^ ss) ≡ 0
first ss k e = ap (λ (u : ℕ). 4 * (u * 2 ^ ss)) e ∙ omega arith

border : (D : Frame) (plane : ℕ) (C : Coded) (x y : ℕ)
    → (left D plane C + x ≡ 0 → on_screen D plane 0 (row_at D plane C y) (col_at D plane C x) ≡ false)
    × (top D plane C + y ≡ 0 → on_screen D plane 1 (row_at D plane C y) (col_at D plane C x) ≡ false)
unfolding on_screen
border D plane C x y = (
  λ e. not_third (ltb (4 * col_at D plane C x) D.FrameWidth) (ltb (4 * row_at D plane C y) D.FrameHeight) (4 * col_at D plane C x) true
      (first (D.sx plane) (left D plane C + x) e),
  λ e. not_last (ltb (4 * col_at D plane C x) D.FrameWidth && ltb (4 * row_at D plane C y) D.FrameHeight && true) (4 * row_at D plane C y)
      (first (D.sy plane) (top D plane C + y) e),
)

pub promises : Promises
promises =
    record {
      sides = width_same;
      agrees = λ D plane C B L S x y h k. (columns-agree D plane C B S L x y h k, rows_agree D plane C B S L x y h k);
      marks = λ D plane C B L S w v before after R x y h k.
          (columns-mark D plane C B S L x y h k w v before after R, rows-mark D plane C B S L x y h k w v before after R);
      border = border;
      left_after = left_after;
      above-after = above-after;
      intra = intra-shows;
      inter = inter-shows;
      chroma = chroma-shows;
    }
