-- The level bytes that the code leaves are the values of the visible units, and no other byte changes: turn by turn, as no two turns store at one place.
use mathlib.Core.Bool.{Bool, true, false, cond, ◌&&◌, false≢true, and-eq-true_iff}
use mathlib.Core.List.{List}
use mathlib.Core.Logic.{by_cases}
use mathlib.Core.Path.{◌≡◌, refl, sym, ◌∙◌}
use Prim.Native.Nat.{ℕ, zero, suc, ◌+◌, ◌-◌, ◌*◌, ◌<◌, ◌≤◌}
use native.Mathlib.Decide.{ℕ_discrete}
use native.Mathlib.Nat.{add-mul}
use native.Mathlib.Omega.{arith}
use lib.Dec.{ltb}
use lib.ListN.{length, get_or, set, length-set}
use lib.Seq.{get_or-set_same, get_or-set_other}
use borrow.Author.Tests.{lt-ltb}
use Rattle.loops.proofs.Products.{row_in}
use Rattle.loops.proofs.Tables.{each_at}
use Rattle.units.specs.Units.{chroma_unit}
use Rattle.units.specs.Memory.{level_at}
use Rattle.units.proofs.Places.{chroma-units-le, ss-hor-le}
use Rattle.block.specs.declared.Block.{Block}
use Rattle.block.specs.Block.{w4, h4, ss-hor, ss-ver, bw4, bh4, cbw4, cbh4, sees_chroma}
use Rattle.record.specs.Record.{value_of, fill_row, fill_levels, luma_levels, chroma_levels, Fitting}
use Rattle.record.specs.Recorded.{Seen, luma, chroma, Levels}
use Rattle.record.proofs.Rooms.{luma-cut, luma-lines, chroma-cut, chroma-lines}
use Rattle.record.proofs.Stores.{length-row}

module _ (f : ℕ → ℕ) where
  -- ---- the two bytes of a unit

  pair-in : (l : List ℕ) (p k : ℕ) → p + 1 < length l → k < 2 → get_or (set (set l p (f 0)) (p + 1) (f 1)) (p + k) 0 ≡ f k
  pair-in l p k b =
      each_at 2 (λ k. get_or (set (set l p (f 0)) (p + 1) (f 1)) (p + k) 0 ≡ f k)
      (get_or-set_same (set l p (f 0)) (p + 1) (f 1) 0 (rw length-set b), (first, tt)) k
    where
      e : p + 0 ≡ p
      e = omega arith

      first : get_or (set (set l p (f 0)) (p + 1) (f 1)) (p + 0) 0 ≡ f 0
      first = rw e (get_or-set_other (set l p (f 0)) (p + 1) p (f 1) 0 (λ e. omega arith) ∙ get_or-set_same l p (f 0) 0 (omega arith))

  pair-out : (l : List ℕ) (p j : ℕ) → ((k : ℕ) → k < 2 → ¬ (j ≡ p + k)) → get_or (set (set l p (f 0)) (p + 1) (f 1)) j 0 ≡ get_or l j 0
  pair-out l p j n =
      get_or-set_other (set l p (f 0)) (p + 1) j (f 1) 0 (n 1 (omega arith)) ∙ get_or-set_other l p j (f 0) 0 (λ e. n 0 (omega arith) (omega arith))

  -- ---- a row of units

  module _ (at : ℕ) (l : List ℕ) where
    row-stored : (w i k : ℕ) → at + 4 * w ≤ length l + 2 → i < w → k < 2 → get_or (fill_row at w (f 0) (f 1) l) (at + 4 * i + k) 0 ≡ f k
    unfolding fill_row
    row-stored zero i k b q h = absurd (omega arith)
    row-stored (suc w) i k b q h =
        by_cases (ℕ_discrete i w) (λ e. rw e (pair-in (fill_row at w (f 0) (f 1) l) (at + 4 * w) k (rw (length-row at (f 0) (f 1) w l) (omega arith)) h))
        (λ g. pair-out (fill_row at w (f 0) (f 1) l) (at + 4 * w) (at + 4 * i + k) (λ m n e. omega arith) ∙ row-stored w i k (omega arith) (omega arith) h)

    row_kept : (w j : ℕ) → ((i k : ℕ) → i < w → k < 2 → ¬ (j ≡ at + 4 * i + k)) → get_or (fill_row at w (f 0) (f 1) l) j 0 ≡ get_or l j 0
    unfolding fill_row
    row_kept zero j n = refl
    row_kept (suc w) j n =
        pair-out (fill_row at w (f 0) (f 1) l) (at + 4 * w) j (λ k. n w k (omega arith)) ∙ row_kept w j (λ i k q. n i k (omega arith))

  -- ---- rows one after another

  module _ (at level-stride w : ℕ) (l : List ℕ) where
    length-rows : (h : ℕ) → length (fill_levels at level-stride w h (f 0) (f 1) l) ≡ length l
    unfolding fill_levels
    length-rows zero = refl
    length-rows (suc h) = length-row (at + 4 * (h * level-stride)) (f 0) (f 1) w (fill_levels at level-stride w h (f 0) (f 1) l) ∙ length-rows h

    rows-stored : (h i j k : ℕ) → w ≤ level-stride → ((j : ℕ) → j < h → at + 4 * (j * level-stride + w) ≤ length l + 2) → i < w → j < h → k < 2
        → get_or (fill_levels at level-stride w h (f 0) (f 1) l) (at + 4 * (j * level-stride) + 4 * i + k) 0 ≡ f k
    unfolding fill_levels
    rows-stored zero i j k s b p q r = absurd (omega arith)
    rows-stored (suc h) i j k s b p q r =
        by_cases (ℕ_discrete j h)
        (λ e. rw e (row-stored (at + 4 * (h * level-stride)) (fill_levels at level-stride w h (f 0) (f 1) l) w i k (rw (length-rows h) (omega (arith, b h (omega arith)))) p r))
        (λ g. row_kept (at + 4 * (h * level-stride)) (fill_levels at level-stride w h (f 0) (f 1) l) w (at + 4 * (j * level-stride) + 4 * i + k)
        (λ m n a c e. omega (arith, row_in j h level-stride (omega arith)))
        ∙ rows-stored h i j k s (λ j t. b j (omega arith)) p (omega arith) r)

    rows-kept : (h p : ℕ) → ((i j k : ℕ) → i < w → j < h → k < 2 → ¬ (p ≡ at + 4 * (j * level-stride) + 4 * i + k))
        → get_or (fill_levels at level-stride w h (f 0) (f 1) l) p 0 ≡ get_or l p 0
    unfolding fill_levels
    rows-kept zero p n = refl
    rows-kept (suc h) p n =
        row_kept (at + 4 * (h * level-stride)) (fill_levels at level-stride w h (f 0) (f 1) l) w p (λ i k q r. n i h k q (omega arith) r)
        ∙ rows-kept h p (λ i j k a c. n i j k a (omega arith))

-- ---- a rectangle of units

-- the rectangle of w by h units at (x, y), where it is given: its bytes in the two areas from `base` on are f
record Filled (given : Bool) (level-stride x y w h base : ℕ) (f : ℕ → ℕ) (before after : List ℕ) : Type 0 where
  long : length after ≡ length before
  stored : given ≡ true → (i j k : ℕ) → i < w → j < h → k < 2 → get_or after (level_at level-stride (x + i) (y + j) (base + k)) 0 ≡ f k
  kept : (p : ℕ) → (given ≡ true → (i j k : ℕ) → i < w → j < h → k < 2 → ¬ (p ≡ level_at level-stride (x + i) (y + j) (base + k)))
      → get_or after p 0 ≡ get_or before p 0

place : (level-stride x y base i j k : ℕ) → level_at level-stride (x + i) (y + j) (base + k) ≡ level_at level-stride x y base + 4 * (j * level-stride) + 4 * i + k
unfolding level_at
place level-stride x y base i j k = omega (arith, add-mul y j level-stride)

module _ (given : Bool) (level-stride x y w h base : ℕ) (f : ℕ → ℕ) (l : List ℕ) where
  abbrev seen : Bool
  seen = given && (ltb 0 w && ltb 0 h)

  filled : (seen ≡ true → (w ≤ level-stride) × ((j : ℕ) → j < h → level_at level-stride x y base + 4 * (j * level-stride + w) ≤ length l + 2))
      → Filled given level-stride x y w h base f l (cond seen (fill_levels (level_at level-stride x y base) level-stride w h (f 0) (f 1) l) l)
  filled b = go seen refl
    where
      go : (s : Bool) → seen ≡ s → Filled given level-stride x y w h base f l (cond s (fill_levels (level_at level-stride x y base) level-stride w h (f 0) (f 1) l) l)
      go true t =
          record {
            long = length-rows f (level_at level-stride x y base) level-stride w l h;
            stored = λ g i j k p q r. rw (place level-stride x y base i j k) (rows-stored f (level_at level-stride x y base) level-stride w l h i j k (b t).0 (b t).1 p q r);
            kept = λ p n. rows-kept f (level_at level-stride x y base) level-stride w l h p
                (λ i j k a c r e. n ((and-eq-true_iff given (ltb 0 w && ltb 0 h)).0 t).0 i j k a c r (e ∙ sym (place level-stride x y base i j k)));
          }
      go false t =
          record {
            long = refl;
            stored = λ g i j k p q r. absurd (false≢true (sym t ∙ rw (g, lt-ltb 0 w (omega arith), lt-ltb 0 h (omega arith)) refl));
            kept = λ p n. refl;
          }

-- ---- a block

from : {u n : ℕ} → u ≤ n → u + (n - u) ≡ n
from p = omega arith

within : {u n w : ℕ} → (u ≤ n) × (n < u + w) → n - u < w
within p = omega arith

other-area : (level-stride x y area x' y' k : ℕ) → area < 2 → k < 2 → ¬ (level_at level-stride x y area ≡ level_at level-stride x' y' (2 + k))
unfolding level_at
other-area level-stride x y area x' y' k p q e = omega arith

module _ (b : Block) (s : Fitting b) (level-stride : ℕ) (values ls : List ℕ) (width-le : w4 b ≤ level-stride) (long : 4 * level-stride * h4 b ≤ length ls) where
  luma-area : Filled true level-stride b.x.0 b.y.0 (bw4 b) (bh4 b) 0 (value_of b values) ls (luma_levels b level-stride values ls)
  luma-area =
      filled true level-stride b.x.0 b.y.0 (bw4 b) (bh4 b) 0 (value_of b values) ls
      (λ e. (omega (arith, (luma-cut b s e).0), luma-lines b s e level-stride (length ls) width-le long))

  module _ (ms : List ℕ) (same : length ms ≡ length ls) where
    chroma-area : Filled b.chroma level-stride (chroma_unit (ss-hor b) b.x.0) (chroma_unit (ss-ver b) b.y.0) (cbw4 b) (cbh4 b) 2 (λ k. value_of b values (2 + k)) ms
        (chroma_levels b level-stride values ms)
    chroma-area =
        filled b.chroma level-stride (chroma_unit (ss-hor b) b.x.0) (chroma_unit (ss-ver b) b.y.0) (cbw4 b) (cbh4 b) 2 (λ k. value_of b values (2 + k)) ms
        (λ e. (chroma-wide e, chroma-lines b s e level-stride (length ms) width-le (omega arith)))
      where
        chroma-wide : sees_chroma b ≡ true → cbw4 b ≤ level-stride
        chroma-wide e = through (chroma_unit (ss-hor b) b.x.0) (chroma-cut b s e).0 (chroma-units-le (w4 b) (ss-hor b) (ss-hor-le b.layout)) width-le
          where
            through : (u : ℕ) {k m n t : ℕ} → u + k ≤ m → m ≤ n → n ≤ t → k ≤ t
            through u p q r = omega arith

  abbrev after : List ℕ
  after = chroma_levels b level-stride values (luma_levels b level-stride values ls)

  both : Filled b.chroma level-stride (chroma_unit (ss-hor b) b.x.0) (chroma_unit (ss-ver b) b.y.0) (cbw4 b) (cbh4 b) 2 (λ k. value_of b values (2 + k))
      (luma_levels b level-stride values ls) after
  both = chroma-area (luma_levels b level-stride values ls) luma-area.long

  units-stored : (x y area : ℕ) → Seen b x y area → get_or after (level_at level-stride x y area) 0 ≡ value_of b values area
  units-stored x y area (luma h v) =
      both.kept (level_at level-stride x y area) (λ g i j k p q r. other-area level-stride x y area _ _ k h r)
      ∙ rw (from v.across.0, from v.down.0, low) at (luma-area.stored refl (x - b.x.0) (y - b.y.0) area (within v.across) (within v.down) h)
    where
      low : 0 + area ≡ area
      low = omega arith
  units-stored x y area (chroma h v) =
      rw (from v.across.0, from v.down.0, from h.0) at
      (both.stored v.given (x - chroma_unit (ss-hor b) b.x.0) (y - chroma_unit (ss-ver b) b.y.0) (area - 2) (within v.across) (within v.down) (omega arith))

  pub block-levels : Levels b level-stride values ls after
  block-levels =
      record {
        long = both.long ∙ luma-area.long;
        stored = units-stored;
        kept = λ p n. both.kept p (λ g i j k q r t. n _ _ _ (chroma (omega arith, omega arith) (record { given = g; across = (add-le _ _, add-lt _ q); down = (add-le _ _, add-lt _ r) })))
            ∙ luma-area.kept p (λ g i j k q r t. n _ _ _ (luma (omega arith) (record { across = (add-le _ _, add-lt _ q); down = (add-le _ _, add-lt _ r) })));
      }
    where
      add-le : (u i : ℕ) → u ≤ u + i
      add-le u i = omega arith

      add-lt : (u : ℕ) {i w : ℕ} → i < w → u + i < u + w
      add-lt u q = omega arith
