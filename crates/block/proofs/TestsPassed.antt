-- What a block that passes a test has, from the comparisons that the test is made of.
use mathlib.Core.Bool.{Bool, true, false, cond, not, ◌&&◌, ◌||◌}
use mathlib.Core.Path.{◌≡◌, refl, sym, ap, ◌∙◌}
use Prim.Native.Nat.{ℕ, ◌%◌, ◌<◌, ◌≤◌}
use native.Mathlib.Omega.{arith}
use lib.Dec.{eqb, ltb}
use lib.ListN.{length}
use borrow.Author.Tests.{not-false, ltb-false, eqb-true}
use Rattle.loops.proofs.Tables.{each_at}
use Rattle.loops.proofs.Bools.{or_off}
use Rattle.units.specs.Units.{chroma_unit, chroma_units}
use Rattle.units.specs.Layout.{layout_ok, has_chroma}
use Rattle.units.specs.Frame.{frame_ok}
use Rattle.units.proofs.Tests.{reflects-frame}
use Rattle.block.specs.declared.Block.{Block}
use Rattle.block.specs.Block.{w4, h4, block_width, block_height, Lent, Sides}
use Rattle.block.specs.Tests.{shape_bad, code_bad, place_bad, tx_bad, max_tx_bad, ref_bad, block_bad, luma_contexts_bad, chroma_contexts_bad, contexts_bad, length_bad, number}

module _ (b : Block) where
  pub shaped : shape_bad b ≡ false → ((1 ≤ b.width.0) × (b.width.0 ≤ 16384)) × ((1 ≤ b.height.0) × (b.height.0 ≤ 16384))
  shaped e =
      let f = frame_ok b.width.0 b.height.0 in
      let l = not (layout_ok b.layout) in
      let p = or_off (l || not f) (b.chroma && not (has_chroma b.layout)) e in
      (reflects-frame b.width.0 b.height.0).yes (not-false f (or_off l (not f) p.0).1)

  pub coded : code_bad b ≡ false → (b.size < 22) × (b.tx < 19) × (b.chroma ≡ true → b.uvtx < 19)
  coded e =
      let p = or_off (ltb 21 b.size || ltb 18 b.tx) (b.chroma && ltb 18 b.uvtx) e in
      let q = or_off (ltb 21 b.size) (ltb 18 b.tx) p.0 in
      (omega (arith, ltb-false 21 b.size q.0), omega (arith, ltb-false 18 b.tx q.1), λ c. omega (arith, ltb-false 18 b.uvtx (rw c at p.1)))

  pub placed : place_bad b ≡ false → (b.x.0 % block_width b ≡ 0) × (b.y.0 % block_height b ≡ 0) × (b.x.0 ≤ w4 b) × (b.y.0 ≤ h4 b)
  placed e =
      let i = eqb (b.x.0 % block_width b) 0 in
      let j = eqb (b.y.0 % block_height b) 0 in
      let p = or_off (not i || not j) (ltb (w4 b) b.x.0 || ltb (h4 b) b.y.0) e in
      let q = or_off (not i) (not j) p.0 in
      let r = or_off (ltb (w4 b) b.x.0) (ltb (h4 b) b.y.0) p.1 in
      (eqb-true _ _ (not-false i q.0), eqb-true _ _ (not-false j q.1), ltb-false _ _ r.0, ltb-false _ _ r.1)

  pub sides : shape_bad b ≡ false → code_bad b ≡ false → Sides b
  sides e f = let s = shaped e in (s.0.1, s.1.1, (coded f).0)

  pub unblocked : block_bad b ≡ false → place_bad b ≡ false
  unblocked e = (or_off (place_bad b) (tx_bad b || (max_tx_bad b || ref_bad b)) e).0

-- ---- the number, with the tests of each asked at once

five : (p q r s : Bool) (n : ℕ) → cond (p || (q || (r || s))) 5 n ≡ cond p 5 (cond q 5 (cond r 5 (cond s 5 n)))
five true q r s n = refl
five false true r s n = refl
five false false true s n = refl
five false false false s n = refl

six : (p q : Bool) (n : ℕ) → cond (p || q) 6 n ≡ cond p 6 (cond q 6 n)
six true q n = refl
six false q n = refl

module _ (b : Block) (level-stride : ℕ) (m : Lent) where
  abbrev contexts : Bool
  contexts = contexts_bad b m.above m.left m.above-uv m.left-uv

  abbrev lengths : Bool
  lengths = length_bad b level-stride (length m.levels) (length m.masks)

  numbered : number b level-stride m ≡ cond (shape_bad b) 4 (cond (code_bad b) 5 (cond (block_bad b) 5 (cond contexts 6 (cond lengths 7 0))))
  unfolding number
  numbered =
      ap (λ (n : ℕ). cond (shape_bad b) 4 (cond (code_bad b) 5 n))
      (sym (five (place_bad b) (tx_bad b) (max_tx_bad b) (ref_bad b) _)
      ∙ ap (λ (n : ℕ). cond (block_bad b) 5 n) (sym (six (luma_contexts_bad b m.above m.left) (chroma_contexts_bad b m.above-uv m.left-uv) _)))

  module _ (s : shape_bad b ≡ false) (c : code_bad b ≡ false) where
    pub is-5-too : block_bad b ≡ true → 5 ≡ number b level-stride m
    is-5-too f = sym (numbered ∙ rw (s, c, f) refl)

    pub is-6 : block_bad b ≡ false → contexts ≡ true → 6 ≡ number b level-stride m
    is-6 f e = sym (numbered ∙ rw (s, c, f, e) refl)

    pub is-7 : block_bad b ≡ false → contexts ≡ false → lengths ≡ true → 7 ≡ number b level-stride m
    is-7 f e l = sym (numbered ∙ rw (s, c, f, e, l) refl)

    pub is-0 : block_bad b ≡ false → contexts ≡ false → lengths ≡ false → 0 ≡ number b level-stride m
    is-0 f e l = sym (numbered ∙ rw (s, c, f, e, l) refl)

-- the chroma unit of a place up to the frame's end
pub chroma-unit-le : (u n ss : ℕ) → u ≤ n → ss ≤ 1 → chroma_unit ss u ≤ chroma_units ss n
chroma-unit-le u n ss h l = each_at 2 (λ s. chroma_unit s u ≤ chroma_units s n) (omega arith, (omega arith, tt)) ss (omega arith)
