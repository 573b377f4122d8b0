-- An inter block with no transform split is recorded as a block of one: both recordings set the same bits, and words with the same bits are the same.
use mathlib.Core.Path.{◌≡◌, refl, sym, ap, ap₂, ◌∙◌}
use mathlib.Core.Bool.{Bool, true, false, cond, not, ◌&&◌, ◌||◌, false≢true}
use mathlib.Core.List.{List}
use Prim.Native.Nat.{ℕ, zero, suc, ◌+◌, ◌-◌, ◌*◌, ◌/◌, ◌%◌, ◌^◌, ◌<◌, min}
use native.Mathlib.Omega.{arith}
use native.Mathlib.Nat.{div-eq_of_lt}
use lib.Dec.{eqb, leb, ltb}
use lib.Pow.{pow-lt}
use lib.ListN.{length, get_or, set}
use borrow.Author.Tests.{eqb-true, leb-true, not-true}
use Rattle.loops.proofs.Anys.{any_same}
use Rattle.loops.proofs.Runs.{up_to-holds, up_to-same}
use Rattle.bits.specs.Bit.{has_bit}
use Rattle.bits.proofs.Bits.{has_bit-nil}
use Rattle.bits.specs.Mark.{is_set, mark, marks, Words}
use Rattle.bits.proofs.Marks.{is_set-ext, words-or, words-marks}
use Rattle.standard.specs.Sizes.{Tx_Wide, Tx_High}
use Rattle.units.specs.Sizes.{luma_class}
use Rattle.decomp.specs.Cells.{Covers}
use Rattle.decomp.specs.Split.{is_split, tx_at}
use Rattle.mask_edges.specs.declared.edge.BlockPass.{BlockPass}
use Rattle.mask_edges.specs.Recording.{Room, Sweep, class_at, edges}
use Rattle.mask_edges.specs.Folds.{block_edge, step_edges, walk, line_edges, stores, grid_pass, cell_pass, grid_masks, cell_masks}
use Rattle.mask_edges.specs.Folds.{one_masks, inter_masks, luma_masks, last_row, last_column, above_of, left_of, whole_by}
use Rattle.mask_edges.proofs.CellTables.{luma-low, tables-columns, tables-rows}
use Rattle.mask_edges.proofs.Theorems.{bits_of, B, I, one-recorded, inter-recorded}

-- ---- words stay words

words-mark : (ms : List ℕ) (e : ℕ) → Words ms → Words (mark ms e)
unfolding mark
words-mark ms e = words-or ms (e / 16) (2 ^ (e % 16)) (pow-lt {i = e % 16} {j = 16} (omega arith))

module _ (bit : ℕ → ℕ → ℕ → ℕ) where
  words-block : (n : ℕ) (class context : ℕ → ℕ) (ms : List ℕ) → Words ms → Words (block_edge bit n class context ms)
  unfolding block_edge
  words-block n class context ms = words-marks n (λ v. bit 0 (min (class v) (context v)) v) ms

  words-steps : (n step class k : ℕ) (ms : List ℕ) → Words ms → Words (step_edges bit n step class k ms)
  unfolding step_edges
  words-steps n step class k = up_to-holds Words (λ i. marks n (bit ((i + 1) * step) class)) k (λ i _ ms. words-marks n (bit ((i + 1) * step) class) ms)

  words-walk : (across : ℕ) (class step : ℕ → ℕ) (v f x k : ℕ) (ms : List ℕ) → Words ms → Words (walk bit across class step v f x k ms)
  unfolding walk
  words-walk across class step v zero x k ms w = w
  words-walk across class step v (suc f) x k ms w =
      either _ (ltb x across)
      (words-walk across class step v f (x + step x) (class x) (mark ms (bit x (min (class x) k) v)) (words-mark ms (bit x (min (class x) k) v) w))
    where
      either : (ms' : List ℕ) (b : Bool) → Words ms' → Words (cond b ms' ms)
      either ms' true h = h
      either ms' false h = w

  words_lines : (across : ℕ) (class step : ℕ → ℕ → ℕ) (n : ℕ) (ms : List ℕ) → Words ms → Words (line_edges bit across class step n ms)
  unfolding line_edges
  words_lines across class step n =
      up_to-holds Words (λ v. walk bit across (λ u. class u v) (λ u. step u v) v across (step 0 v) (class 0 v)) n
      (λ v _. words-walk across (λ u. class u v) (λ u. step u v) v across (step 0 v) (class 0 v))

  words-grid-pass : (across along step class : ℕ) (skip : Bool) (context : ℕ → ℕ) (ms : List ℕ) → Words ms
      → Words (grid_pass bit across along step class skip context ms)
  unfolding grid_pass
  words-grid-pass across along step class true context ms w = words-block along (λ _. class) context ms w
  words-grid-pass across along step class false context ms w =
      words-steps along step class ((across - 1) / step) (block_edge bit along (λ _. class) context ms) (words-block along (λ _. class) context ms w)

  words-cell-pass : (across along : ℕ) (class step : ℕ → ℕ → ℕ) (skip : Bool) (context : ℕ → ℕ) (ms : List ℕ) → Words ms
      → Words (cell_pass bit across along class step skip context ms)
  unfolding cell_pass
  words-cell-pass across along class step true context ms w = words-block along (class 0) context ms w
  words-cell-pass across along class step false context ms w =
      words_lines across class step along (block_edge bit along (class 0) context ms) (words-block along (class 0) context ms w)

words-grid : (c r : BlockPass) (class : ℕ → ℕ) (t : ℕ) (skip : Bool) (a l ms : List ℕ) → Words ms → Words (grid_masks c r class t skip a l ms)
unfolding grid_masks
words-grid c r class t skip a l ms w = words-grid-pass _ _ _ _ _ skip _ _ (words-grid-pass _ _ _ _ _ skip _ ms w)

words-cells : (c r : BlockPass) (txa : List ℕ) (skip : Bool) (a l ms : List ℕ) → Words ms → Words (cell_masks c r txa skip a l ms)
unfolding cell_masks
words-cells c r txa skip a l ms w = words-cell-pass _ _ _ _ _ skip _ _ (words-cell-pass _ _ _ _ _ skip _ ms w)

-- ---- sides that are the same in the block have the same edges

module _ (unit place across along : ℕ) (inner : Bool) (class context : ℕ → ℕ) (side side' : ℕ → ℕ → ℕ)
    (h : (u v : ℕ) → u < across → v < along → side u v ≡ side' u v) where
  abbrev sweep : (ℕ → ℕ → ℕ) → Sweep
  sweep s = record { unit = unit; place = place; across = across; along = along; side = s; inner = inner; class = class; context = context }

  class_same : (u v : ℕ) → u < across → v < along → class_at (sweep side) u v ≡ class_at (sweep side') u v
  class_same zero v p q = ap (λ (k : ℕ). min (class k) (context v)) (h 0 v p q)
  class_same (suc u) v p q = ap₂ (λ (j k : ℕ). min (class j) (class k)) (h (suc u) v p q) (h u v (omega arith) q)

  edges-same : (bit : ℕ → ℕ → ℕ → ℕ) (e : ℕ) → edges (sweep side) bit e ≡ edges (sweep side') bit e
  unfolding edges
  edges-same bit e =
      any_same across _ _
      (λ u p. any_same along _ _
      (λ v q. ap₂ (λ (s k : ℕ). (eqb (u % s) 0 && (eqb u 0 || inner)) && eqb (bit (unit + u) k (place + v)) e) (h u v p q) (class_same u v p q)))

-- ---- nothing is split

both : (x y : Bool) → (x && y) ≡ true → (x ≡ true) × (y ≡ true)
both true y e = (refl, e)
both false y e = absurd (false≢true e)

module _ (t w4 h4 m x y : ℕ) (p : x < w4) (q : y < h4) where
  first_off : ((leb w4 (Tx_Wide t) && leb h4 (Tx_High t)) && not (has_bit m 0)) ≡ true → has_bit m (y / Tx_High t * 4 + x / Tx_Wide t) ≡ false
  first_off g =
      let a = both (leb w4 (Tx_Wide t) && leb h4 (Tx_High t)) (not (has_bit m 0)) g in
      let d = both (leb w4 (Tx_Wide t)) (leb h4 (Tx_High t)) a.0 in
      let i : x / Tx_Wide t ≡ 0 = div-eq_of_lt (omega (arith, leb-true w4 (Tx_Wide t) d.0)) in
      let j : y / Tx_High t ≡ 0 = div-eq_of_lt (omega (arith, leb-true h4 (Tx_High t) d.1)) in
      rw (i, j) (not-true (has_bit m 0) a.1)

  none-split : whole_by true t w4 h4 (Tx_Wide t) (Tx_High t) m ≡ true → is_split m t x y ≡ false
  unfolding is_split
  none-split = either (eqb t 0) (eqb m 0) refl
    where
      either : (b c : Bool) → eqb m 0 ≡ c → ((b || c) || ((leb w4 (Tx_Wide t) && leb h4 (Tx_High t)) && not (has_bit m 0))) ≡ true
          → (not b && has_bit m (y / Tx_High t * 4 + x / Tx_Wide t)) ≡ false
      either true c e g = refl
      either false true e g = rw (eqb-true m 0 e) (has_bit-nil (y / Tx_High t * 4 + x / Tx_Wide t))
      either false false e g = first_off g

-- by what the code has for the sides; an intra block is whole
module _ (inter : Bool) (t w4 h4 w h m : ℕ) (r : Bool) (e : r ≡ whole_by inter t w4 h4 w h m) where
  pub whole-at : w ≡ Tx_Wide t → h ≡ Tx_High t → r ≡ true → whole_by inter t w4 h4 (Tx_Wide t) (Tx_High t) m ≡ true
  whole-at ew eh s = sym (e ∙ rw (ew, eh) refl) ∙ s

  pub split-inter : r ≡ false → inter ≡ true
  split-inter s = go inter e
    where
      go : (i : Bool) → r ≡ whole_by i t w4 h4 w h m → i ≡ true
      go true g = refl
      go false g = absurd (false≢true (sym s ∙ g))

module _ (tm : List ℕ) (t w4 h4 : ℕ) (h : whole_by true t w4 h4 (Tx_Wide t) (Tx_High t) (get_or tm 0 0) ≡ true) where
  unsplit : (x y : ℕ) → x < w4 → y < h4 → tx_at tm t x y ≡ t
  unfolding tx_at
  unsplit x y p q = rw (none-split t w4 h4 (get_or tm 0 0) x y p q h) refl

  module _ (by4 bx4 : ℕ) (skip : Bool) (a l ms : List ℕ) (r : Room by4 bx4 w4 h4 0 0 (length ms) (length a) (length l)) (c : Covers t w4 h4) where
    whole-masks : Words ms → one_masks by4 bx4 w4 h4 skip t a l ms ≡ inter_masks by4 bx4 w4 h4 skip t tm a l ms
    unfolding B I
    whole-masks w =
        let R = one-recorded by4 bx4 w4 h4 0 0 a l ms r (omega arith) (omega arith) true luma_class luma-low skip t c.code in
        let S = inter-recorded by4 bx4 w4 h4 skip t tm a l ms r c in
        is_set-ext _ _ (R.long ∙ sym S.long) (words-grid _ _ luma_class t skip a l ms w) (words-cells _ _ _ skip a l ms w)
        (λ x. R.bits x ∙ sym (S.bits x ∙ ap₂ (λ (p q : Bool). is_set ms x || (p || q))
        (edges-same bx4 by4 w4 h4 (not skip) luma_class (λ y. get_or l y 0) (λ u v. Tx_Wide (tx_at tm t u v)) (λ _ _. Tx_Wide t)
        (λ u v p q. ap Tx_Wide (unsplit u v p q)) (bits_of true 0 0 0) x)
        (edges-same by4 bx4 h4 w4 (not skip) luma_class (λ y. get_or a y 0) (λ u v. Tx_High (tx_at tm t v u)) (λ _ _. Tx_High t)
        (λ u v p q. ap Tx_High (unsplit v u q p)) (bits_of true 0 0 1) x)))

    whole_above : stores w4 (λ _. luma_class (Tx_High t)) a ≡ stores w4 (last_row tm t w4 h4) a
    unfolding stores
    whole_above =
        up_to-same (λ v c. set c v (luma_class (Tx_High t))) (λ v c. set c v (last_row tm t w4 h4 v)) w4
        (λ v g s. let e : h4 - 1 < h4 = omega (arith, r.height.0) in
        ap (set s v) (sym ((tables-rows by4 bx4 w4 h4 t skip tm a l c).class (h4 - 1) v e g
        ∙ ap (λ (k : ℕ). luma_class (Tx_High k)) (unsplit v (h4 - 1) g e)))) a

    whole-left : stores h4 (λ _. luma_class (Tx_Wide t)) l ≡ stores h4 (last_column tm t w4 h4) l
    unfolding stores
    whole-left =
        up_to-same (λ v c. set c v (luma_class (Tx_Wide t))) (λ v c. set c v (last_column tm t w4 h4 v)) h4
        (λ v g s. let e : w4 - 1 < w4 = omega (arith, r.width.0) in
        ap (set s v) (sym ((tables-columns by4 bx4 w4 h4 t skip tm a l c).class (w4 - 1) v e g
        ∙ ap (λ (k : ℕ). luma_class (Tx_Wide k)) (unsplit (w4 - 1) v e g)))) l

-- ---- a luma block with nothing split

module _ (tm : List ℕ) (t w4 h4 by4 bx4 : ℕ) (skip : Bool) (a l ms : List ℕ) (r : Room by4 bx4 w4 h4 0 0 (length ms) (length a) (length l)) (w : Words ms) where
  pub whole-luma : (inter : Bool) → (inter ≡ true → Covers t w4 h4) → whole_by inter t w4 h4 (Tx_Wide t) (Tx_High t) (get_or tm 0 0) ≡ true
      → (one_masks by4 bx4 w4 h4 (inter && skip) t a l ms ≡ luma_masks by4 bx4 w4 h4 inter skip t tm a l ms)
      × (stores w4 (λ _. luma_class (Tx_High t)) a ≡ stores w4 (above_of inter tm t w4 h4) a)
      × (stores h4 (λ _. luma_class (Tx_Wide t)) l ≡ stores h4 (left_of inter tm t w4 h4) l)
  whole-luma true c h = (
    whole-masks tm t w4 h4 h by4 bx4 skip a l ms r (c refl) w,
    whole_above tm t w4 h4 h by4 bx4 skip a l ms r (c refl),
    whole-left tm t w4 h4 h by4 bx4 skip a l ms r (c refl),
  )
  whole-luma false c h = (refl, refl, refl)
