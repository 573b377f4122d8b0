-- The turns of the code's loops and what its calls come to, by the laws of `up_to` and of a part of a list that was changed.
use mathlib.Core.Bool.{true}
use mathlib.Core.List.{List, ◌++◌}
use mathlib.Core.Path.{◌≡◌, refl, sym, ap, ap₂, ◌∙◌}
use Prim.Native.Nat.{ℕ, zero, suc, ◌+◌, ◌-◌, ◌*◌, ◌%◌, ◌≤◌, ◌<◌}
use native.Mathlib.Nat.{zero-add, le-add_right, le_trans}
use native.Mathlib.Omega.{arith}
use lib.ListN.{length, set, take, drop, length-set, take-append-drop}
use lib.Seq.{length-take-le, take-set-le, drop-set-add, set-append_left, drop_at}
use borrow.Rule.Slice.PartMut.{mid_of, post_of, put_mid, mid_len, put_same, take_put}
use Rattle.loops.proofs.Runs.{up_to-again}
use Rattle.loops.proofs.Products.{part-put}
use Rattle.units.specs.Units.{chroma_unit}
use Rattle.mask_edges.specs.Folds as folds
use Rattle.block.specs.declared.Block.{Block}
use Rattle.block.specs.Block.{ss-hor, ss-ver, bw4, bh4, cbw4, cbh4, sees_luma, sees_chroma}
use Rattle.record.specs.Record.{fill_row, fill_levels, record_at, in_record, luma_masks, chroma_masks}

-- ---- levels

pub row-none : (u v : ℕ) (l : List ℕ) → l ≡ fill_row 0 0 u v l
unfolding fill_row
row-none u v l = refl

pub row_step : (u v i : ℕ) (l₀ l : List ℕ) → l ≡ fill_row 0 i u v l₀ → set (set l (4 * i) u) (4 * i + 1) v ≡ fill_row 0 (i + 1) u v l₀
unfolding fill_row
row_step u v i l₀ l e = up_to-again (λ i l. set (set l (0 + 4 * i) u) (0 + 4 * i + 1) v) i l₀ e (rw (zero-add (4 * i)) refl)

pub length-row : (at u v w : ℕ) (l : List ℕ) → length (fill_row at w u v l) ≡ length l
unfolding fill_row
length-row at u v zero l = refl
length-row at u v (suc w) l = simp length-set (length-row at u v w l)

-- a store in a part is one in the whole
set-put : (a k j x : ℕ) (xs ys : List ℕ) → a ≤ length xs → j < length ys → put_mid a k xs (set ys j x) ≡ set (put_mid a k xs ys) (a + j) x
set-put a k j x xs ys h l =
    sym (sym (take-append-drop a (set (put_mid a k xs ys) (a + j) x))
    ∙ ap₂ ◌++◌ (take-set-le a (put_mid a k xs ys) (a + j) x (le-add_right a j) ∙ take_put a k xs ys h)
    (drop-set-add a (put_mid a k xs ys) j x
    ∙ ap (λ (zs : List ℕ). set zs j x) (drop_at (take a xs) (ys ++ post_of a k xs) a (length-take-le a xs h))
    ∙ set-append_left ys (post_of a k xs) j x l))

module _ (a k u v : ℕ) (l : List ℕ) (within : a ≤ length l) where
  pair_put : (i : ℕ) (ys : List ℕ) → 4 * i + 1 < length ys
      → put_mid a k l (set (set ys (0 + 4 * i) u) (0 + 4 * i + 1) v) ≡ set (set (put_mid a k l ys) (a + 4 * i) u) (a + 4 * i + 1) v
  pair_put i ys h =
      let p : a + (0 + 4 * i) ≡ a + 4 * i = omega arith in
      let q : a + (0 + 4 * i + 1) ≡ a + 4 * i + 1 = omega arith in
      rw (← q, ← p)
      (set-put a k (0 + 4 * i + 1) v l (set ys (0 + 4 * i) u) within (rw length-set (omega arith))
      ∙ ap (λ (zs : List ℕ). set zs (a + (0 + 4 * i + 1)) v) (set-put a k (0 + 4 * i) u l ys within (omega arith)))

  -- a row filled in a part is that row of the whole
  row-in-part : (w : ℕ) → 4 * w ≤ length (mid_of a k l) + 2 → put_mid a k l (fill_row 0 w u v (mid_of a k l)) ≡ fill_row a w u v l
  unfolding fill_row
  row-in-part zero h = put_same a k l
  row-in-part (suc w) h =
      pair_put w (fill_row 0 w u v (mid_of a k l)) (rw (length-row 0 u v w (mid_of a k l)) (omega arith))
      ∙ ap (λ (zs : List ℕ). set (set zs (a + 4 * w) u) (a + 4 * w + 1) v) (row-in-part w (omega arith))

pub row_put : (a e w u v : ℕ) (l ys : List ℕ) → a ≤ e → e ≤ length l → 4 * w ≤ e - a + 2 → ys ≡ fill_row 0 w u v (take (e - a) (drop a l))
    → put_mid a (e - a) l ys ≡ fill_row a w u v l
row_put a e w u v l ys h g b q = rw q (row-in-part a (e - a) u v l (le_trans h g) w (omega (arith, mid_len a e l g)))

pub levels-none : (at level-stride w u v : ℕ) (l : List ℕ) → l ≡ fill_levels at level-stride w 0 u v l
unfolding fill_levels
levels-none at level-stride w u v l = refl

pub levels-step : (at level-stride w u v j : ℕ) (l₀ l l' : List ℕ) → l ≡ fill_levels at level-stride w j u v l₀ → l' ≡ fill_row (at + 4 * (j * level-stride)) w u v l
    → l' ≡ fill_levels at level-stride w (j + 1) u v l₀
unfolding fill_levels
levels-step at level-stride w u v j l₀ l l' = up_to-again (λ j. fill_row (at + 4 * (j * level-stride)) w u v) j l₀

-- ---- masks

in-record : (a : ℕ) (xs ys : List ℕ) (g : List ℕ → List ℕ) → ys ≡ g (take (a + 640 - a) (drop a xs)) → put_mid a (a + 640 - a) xs ys ≡ in_record a g xs
unfolding in_record
in-record a xs ys g = part-put a 640 (a + 640) xs ys g refl

module _ (b : Block) (at w h : ℕ) (a l xs ys : List ℕ) (ea : at ≡ record_at b) where
  pub luma-put : (tm : List ℕ) → sees_luma b ≡ true → w ≡ bw4 b → h ≡ bh4 b
      → ys ≡ folds.luma_masks (b.y.0 % 32) (b.x.0 % 32) w h b.inter b.skip b.tx tm a l (take (at + 640 - at) (drop at xs))
      → put_mid at (at + 640 - at) xs ys ≡ luma_masks b tm a l xs
  luma-put tm e ew eh g =
      rw e (in-record at xs ys (folds.luma_masks (b.y.0 % 32) (b.x.0 % 32) w h b.inter b.skip b.tx tm a l) g ∙ rw (ea, ew, eh) refl)

  pub chroma-put : (hor ver cx cy : ℕ) → sees_chroma b ≡ true → w ≡ cbw4 b → h ≡ cbh4 b → hor ≡ ss-hor b → ver ≡ ss-ver b → cx ≡ chroma_unit hor (b.x.0 % 32)
      → cy ≡ chroma_unit ver (b.y.0 % 32) → ys ≡ folds.chroma_masks cy cx w h b.skip b.uvtx hor ver a l (take (at + 640 - at) (drop at xs))
      → put_mid at (at + 640 - at) xs ys ≡ chroma_masks b a l xs
  chroma-put hor ver cx cy e ew eh ehor ever ex ey g =
      rw e (in-record at xs ys (folds.chroma_masks cy cx w h b.skip b.uvtx hor ver a l) g ∙ rw (ea, ew, eh, ex, ey, ehor, ever) refl)
