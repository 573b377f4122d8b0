-- Contexts, levels and masks are always long enough and in range, line by line: an accepted block leaves classes in its contexts, and no other line stores anything.
use mathlib.Core.Bool.{Bool, true, false, cond}
use mathlib.Core.List.{List, []}
use mathlib.Core.Logic.{by_cases}
use mathlib.Core.Path.{◌≡◌, refl, sym, ap, subst, ◌∙◌}
use Prim.Native.Nat.{ℕ, ◌+◌, ◌-◌, ◌*◌, ◌/◌, ◌<◌, ◌≤◌, min}
use native.Mathlib.Decide.{ℕ_discrete, dec_lt}
use native.Mathlib.Omega.{arith}
use lib.Dec.{eqb, ltb}
use lib.ListN.{length, get_or, take, drop, replicate, length-replicate, length-drop, get_or-replicate, get_or-eq_default}
use lib.Seq.{get_or-take, get_or-drop}
use Rattle.loops.proofs.Products.{prod-le}
use Rattle.standard.specs.Sizes.{Tx_Wide, Tx_High}
use Rattle.units.specs.Units.{chroma_units}
use Rattle.block.specs.declared.Block.{Block}
use Rattle.block.specs.Block.{w4, h4, ss-hor, ss-ver, bw4, bh4, cbw4, cbh4, sees_luma, sees_chroma, Lent, cx, cy, at_block}
use Rattle.block.specs.Faults.{ContextFault, fewer, above-range, ContextsFault, above, left, above-uv, left-uv, LengthFault, stride-below, levels-short, masks-short}
use Rattle.mask_edges.specs.Recording.{Contexts}
use Rattle.mask_edges.specs.Recording as recording
use Rattle.mask_edges.proofs.BlockPasses.{chroma-low}
use Rattle.record.specs.Recorded.{Stored, luma_block, chroma_block}
use Rattle.list_script.specs.Line.{Line, Frame, Level, Block as BlockLine, Form}
use Rattle.list_steps.specs.State.{State}
use Rattle.list_steps.specs.Steps.{Kept, said, block_of, step_of}
use Rattle.list_steps.specs.Promises.{Alike, Before}
use Rattle.list_steps.proofs.Outcomes.{promises as steps}
use Rattle.list_call.specs.Listing.{start}

pub record Context (most : ℕ) (c : List ℕ) : Type 0 where
  pub long : length c ≡ 64
  pub low : (i : ℕ) → get_or c i 0 ≤ most

pub record Room (m : Lent) : Type 0 where
  pub levels : length m.levels ≡ 16384
  pub masks : length m.masks ≡ 2560
  pub above : Context 2 m.above
  pub left : Context 2 m.left
  pub above-uv : Context 1 m.above-uv
  pub left-uv : Context 1 m.left-uv

-- ---- at the start

all_of : (n : ℕ) → Context n (replicate 64 n)
all_of n =
    record {
      long = length-replicate {A = ℕ} 64 n;
      low = λ i.
          by_cases (dec_lt i 64) (λ h. rw (get_or-replicate 64 i n 0 h) (omega arith))
          (λ h. rw (get_or-eq_default (replicate 64 n) 0 {n = i} (omega (arith, length-replicate {A = ℕ} 64 n))) (omega arith));
    }

pub start-room : Room start.memory
unfolding start
start-room =
    record {
      levels = length-replicate {A = ℕ} 16384 0;
      masks = length-replicate {A = ℕ} 2560 0;
      above = all_of 2;
      left = all_of 2;
      above-uv = all_of 1;
      left-uv = all_of 1;
    }

-- ---- after a block

-- what stands before a block is as it was, and from it on no value is above the range
patched : (at most : ℕ) (old new : List ℕ) → Context most old → length new ≡ length old → take at new ≡ take at old
    → ((i : ℕ) → get_or (drop at new) i 0 ≤ most) → Context most new
patched at most old new c l t d =
    record {
      long = l ∙ c.long;
      low = λ i.
          by_cases (dec_lt i at)
          (λ h. rw (sym (get_or-take at new i 0 h), t, get_or-take at old i 0 h) (c.low i))
          (λ h. let e : at + (i - at) ≡ i = omega arith in subst (λ (j : ℕ). get_or new j 0 ≤ most) e (rw (get_or-drop at new (i - at) 0) at (d (i - at))));
    }

dropped : (at most : ℕ) (c : List ℕ) → Context most c → (i : ℕ) → get_or (drop at c) i 0 ≤ most
dropped at most c h i = rw (get_or-drop at c i 0) (h.low (at + i))

either-low : (b : Bool) (n m most : ℕ) → n ≤ most → m ≤ most → cond b n m ≤ most
either-low true n m most p q = p
either-low false n m most p q = q

contexts-low : (most : ℕ) (B : recording.Block) (a l : List ℕ) → ((n : ℕ) → B.class n ≤ most) → ((i : ℕ) → B.above i ≤ most) → ((i : ℕ) → B.left i ≤ most)
    → Contexts B a l → ((i : ℕ) → get_or a i 0 ≤ most) × ((i : ℕ) → get_or l i 0 ≤ most)
contexts-low most B a l f g h c = (
  λ i. rw (c.above-is i) (either-low (ltb i B.w4) (B.class (Tx_High (B.tx i (B.h4 - 1)))) (B.above i) most (f _) (g i)),
  λ i. rw (c.left_is i) (either-low (ltb i B.h4) (B.class (Tx_Wide (B.tx (B.w4 - 1) i))) (B.left i) most (f _) (h i)),
)

module _ (s : State) (x y size tx chroma uvtx : ℕ) (m n : Lent) (r : Room m) where
  abbrev b : Block
  b = block_of s x y size tx chroma uvtx

  module _ (values : List ℕ) (st : Stored b (w4 b) values [] (at_block b m) (at_block b n)) where
    luma-low : (t : Bool) → sees_luma b ≡ t → ((i : ℕ) → get_or (drop x n.above) i 0 ≤ 2) × ((i : ℕ) → get_or (drop y n.left) i 0 ≤ 2)
    luma-low true e =
        contexts-low 2 (luma_block b [] (at_block b m)) (drop x n.above) (drop y n.left) (λ i. omega arith)
        (dropped x 2 m.above r.above) (dropped y 2 m.left r.left) (st.luma e)
    luma-low false e = (
      λ i. rw (st.luma-stay e).0 (dropped x 2 m.above r.above i),
      λ i. rw (st.luma-stay e).1 (dropped y 2 m.left r.left i),
    )

    uv-low : (t : Bool) → sees_chroma b ≡ t → ((i : ℕ) → get_or (drop (cx b) n.above-uv) i 0 ≤ 1) × ((i : ℕ) → get_or (drop (cy b) n.left-uv) i 0 ≤ 1)
    uv-low true e =
        contexts-low 1 (chroma_block b (at_block b m)) (drop (cx b) n.above-uv) (drop (cy b) n.left-uv) (λ k. omega (arith, chroma-low k))
        (dropped (cx b) 1 m.above-uv r.above-uv) (dropped (cy b) 1 m.left-uv r.left-uv) (st.chroma e)
    uv-low false e = (
      λ i. rw (st.chroma-stay e).0 (dropped (cx b) 1 m.above-uv r.above-uv i),
      λ i. rw (st.chroma-stay e).1 (dropped (cy b) 1 m.left-uv r.left-uv i),
    )

    block_room : Alike n m → Before b n m → Room n
    block_room a p =
        let luma = luma-low (sees_luma b) refl in
        let uv = uv-low (sees_chroma b) refl in
        record {
          levels = a.levels ∙ r.levels;
          masks = a.masks ∙ r.masks;
          above = patched x 2 m.above n.above r.above a.above p.above luma.0;
          left = patched y 2 m.left n.left r.left a.left p.left luma.1;
          above-uv = patched (cx b) 1 m.above-uv n.above-uv r.above-uv a.above-uv p.above-uv uv.0;
          left-uv = patched (cy b) 1 m.left-uv n.left-uv r.left-uv a.left-uv p.left-uv uv.1;
        }

-- ---- after any line

same-room : {m n : Lent} → n ≡ m → Room m → Room n
same-room e r = subst Room (sym e) r

abbrev is_block : Line → ℕ
is_block (Frame a b c d e f) = 0
is_block (Level a b c d) = 0
is_block (BlockLine a b c d e f) = 1
is_block Form = 0

pub step_room : (k : Kept) (s : List ℕ) → k.state.number ≡ 0 → Room k.memory → Room (step_of k s).memory
step_room k s z r = by_cases (ℕ_discrete (step_of k s).state.number 0) (λ e. go (said s) refl e) (λ f. same-room (steps.refused k s f) r)
  where
    other : (l : Line) → is_block l ≡ 0 → said s ≡ l → Room (step_of k s).memory
    other l h e = same-room (steps.keeps k s (λ x y size tx chroma uvtx p. let q = ap is_block (sym e ∙ p) in omega arith)) r

    go : (l : Line) → said s ≡ l → (step_of k s).state.number ≡ 0 → Room (step_of k s).memory
    go (Frame a b c d f g) e i = other (Frame a b c d f g) refl e
    go (Level a b c d) e i = other (Level a b c d) refl e
    go (BlockLine x y size tx chroma uvtx) e i =
        block_room k.state x y size tx chroma uvtx k.memory (step_of k s).memory r k.values
        (steps.records k s x y size tx chroma uvtx z e i) (steps.alike k s) (steps.before k s x y size tx chroma uvtx e)
    go Form e i = other Form refl e

-- ---- so nothing is missing

context-fine : (n most at : ℕ) (c : List ℕ) → Context most c → 0 < n → at + n ≤ 64 → ¬ ContextFault n most (drop at c)
context-fine n most at c h p l (fewer g) = omega (arith, length-drop at c, h.long)
context-fine n most at c h p l (above-range i g f) = omega (arith, dropped at most c h i)

along : (w u n : ℕ) → w ≤ 64 → 0 < min (w - u) n → u + min (w - u) n ≤ 64
along w u n h g = omega arith

chroma-most : (ss w : ℕ) → ss ≤ 1 → w ≤ 64 → chroma_units ss w ≤ 64
chroma-most ss w s h =
    by_cases (ℕ_discrete ss 0) (λ e. rw e (omega arith)) (λ n. let e : ss ≡ 1 = omega arith in rw e (omega arith))

module _ (b : Block) (m : Lent) (r : Room m) (width-le : b.width.0 ≤ 256) (height-le : b.height.0 ≤ 256) where
  w-most : w4 b ≤ 64
  w-most = omega arith

  h-most : h4 b ≤ 64
  h-most = omega arith

  ss-hor-low : ss-hor b ≤ 1
  ss-hor-low = either-low (eqb b.layout 444) 0 1 1 (omega arith) (omega arith)

  ss-ver-low : ss-ver b ≤ 1
  ss-ver-low = either-low (eqb b.layout 420) 1 0 1 (omega arith) (omega arith)

  pub no-6 : ¬ ContextsFault b (at_block b m)
  unfolding bw4 bh4 cbw4 cbh4
  no-6 (above p f) = context-fine (bw4 b) 2 b.x.0 m.above r.above p.0 (along (w4 b) b.x.0 _ w-most p.0) f
  no-6 (left p f) = context-fine (bh4 b) 2 b.y.0 m.left r.left p.1 (along (h4 b) b.y.0 _ h-most p.1) f
  no-6 (above-uv c p f) =
      context-fine (cbw4 b) 1 (cx b) m.above-uv r.above-uv p.0 (along (chroma_units (ss-hor b) (w4 b)) (cx b) _ (chroma-most (ss-hor b) (w4 b) ss-hor-low w-most) p.0) f
  no-6 (left-uv c p f) =
      context-fine (cbh4 b) 1 (cy b) m.left-uv r.left-uv p.1 (along (chroma_units (ss-ver b) (h4 b)) (cy b) _ (chroma-most (ss-ver b) (h4 b) ss-ver-low h-most) p.1) f

  pub no-7 : ¬ LengthFault b (w4 b) (at_block b m)
  no-7 (stride-below h) = omega arith
  no-7 (levels-short h) = omega (arith, prod-le (4 * w4 b) (h4 b) 256 64 (omega (arith, w-most)) h-most, r.levels)
  no-7 (masks-short h) =
      omega (arith, prod-le ((w4 b + 31) / 32) ((h4 b + 31) / 32) 2 2 (omega (arith, w-most)) (omega (arith, h-most)), r.masks)
