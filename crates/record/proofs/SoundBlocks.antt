-- A block whose number is 0 is as the work behind the number asks, and the lent memory is long enough for it.
use mathlib.Core.Bool.{Bool, true, false, not, ◌&&◌, ◌||◌, false≢true}
use mathlib.Core.List.{List}
use mathlib.Core.Logic.{◌⊎◌, inl, inr, by_cases}
use mathlib.Core.Path.{◌≡◌, refl, sym}
use Prim.Native.Nat.{ℕ, ◌*◌, ◌<◌, ◌≤◌}
use native.Mathlib.Decide.{ℕ_discrete}
use native.Mathlib.Omega.{arith}
use lib.Dec.{ltb}
use lib.ListN.{length, get_or}
use borrow.Author.Tests.{not-false, ltb-false, ne_eqb}
use Rattle.loops.specs.Any.{any_below}
use Rattle.standard.specs.Sizes.{Max_Tx_Size_Rect}
use Rattle.units.specs.Frame.{frame_records}
use Rattle.units.specs.Memory.{levels_ok, masks_ok}
use Rattle.units.proofs.Tests.{reflects-levels, reflects-masks}
use Rattle.block.specs.declared.Block.{Block}
use Rattle.block.specs.Block.{w4, h4, bw4, bh4, cbw4, cbh4, sees_luma, sees_chroma, Lent}
use Rattle.block.specs.Tests.{context_bad, number}
use Rattle.loops.proofs.Bools.{or_off}
use Rattle.block.proofs.TestsPassed.{coded, placed, sides}
use Rattle.block.proofs.NoFault.{Passed, free}
use Rattle.record.specs.Record.{Fitting, Sound}

context-long : (n most : ℕ) (c : List ℕ) → context_bad n most c ≡ false → n ≤ length c
context-long n most c e = ltb-false (length c) n (or_off (ltb (length c) n) (any_below n (λ i. ltb most (get_or c i 0))) e).0

both_long : (p : Bool) (n k most : ℕ) (a l : List ℕ) → (p && (context_bad n most a || context_bad k most l)) ≡ false → p ≡ true → (n ≤ length a) × (k ≤ length l)
both_long p n k most a l e t =
    let o = or_off (context_bad n most a) (context_bad k most l) (rw t at e) in
    (context-long n most a o.0, context-long k most l o.1)

module _ (b : Block) (level-stride : ℕ) (m : Lent) (e : number b level-stride m ≡ 0) where
  all : Passed b level-stride m
  all = free b level-stride m e

  largest : b.inter ≡ true → (b.tx ≡ Max_Tx_Size_Rect b.size) ⊎ (b.tx ≡ 0)
  largest i =
      by_cases (ℕ_discrete b.tx (Max_Tx_Size_Rect b.size)) inl
      (λ n. by_cases (ℕ_discrete b.tx 0) inr
      (λ k. absurd (false≢true (sym (rw (i, ne_eqb b.tx (Max_Tx_Size_Rect b.size) n, ne_eqb b.tx 0 k) at all.max-tx)))))

  reference-in : b.inter ≡ true → b.reference < 8
  reference-in i = omega (arith, ltb-false 7 b.reference (rw i at all.ref))

  pub reference-low : (b.inter ≡ false → b.reference < 8) → b.reference < 8
  reference-low h = go b.inter refl
    where
      go : (t : Bool) → b.inter ≡ t → b.reference < 8
      go true = reference-in
      go false = h

  pub fitting : Fitting b
  fitting =
      let c = coded b all.code in
      let p = placed b all.place in
      record {
        sides = sides b all.shape all.code;
        tx = c.1;
        uvtx = c.2;
        x-on = p.0;
        y-on = p.1;
        x-in = p.2;
        y-in = p.3;
        largest = largest;
      }

  pub sound : b.reference < 8 → b.mode < 2 → Sound b
  sound r k = record { fits = fitting; reference = r; mode = k }

  pub levels-long : (w4 b ≤ level-stride) × (4 * level-stride * h4 b ≤ length m.levels)
  levels-long =
      let g = levels_ok (length m.levels) level-stride (w4 b) (h4 b) in
      let h = masks_ok (length m.masks) (w4 b) (h4 b) in
      (reflects-levels (length m.levels) level-stride (w4 b) (h4 b)).yes (not-false g (or_off (not g) (not h) all.lengths).0)

  pub masks-long : 640 * frame_records (w4 b) (h4 b) ≤ length m.masks
  masks-long =
      let g = levels_ok (length m.levels) level-stride (w4 b) (h4 b) in
      let h = masks_ok (length m.masks) (w4 b) (h4 b) in
      (reflects-masks (length m.masks) (w4 b) (h4 b)).yes (not-false h (or_off (not g) (not h) all.lengths).1)

  pub luma-long : sees_luma b ≡ true → (bw4 b ≤ length m.above) × (bh4 b ≤ length m.left)
  luma-long = both_long (sees_luma b) (bw4 b) (bh4 b) 2 m.above m.left all.luma

  pub chroma-long : sees_chroma b ≡ true → (cbw4 b ≤ length m.above-uv) × (cbh4 b ≤ length m.left-uv)
  chroma-long = both_long (sees_chroma b) (cbw4 b) (cbh4 b) 1 m.above-uv m.left-uv all.chroma
