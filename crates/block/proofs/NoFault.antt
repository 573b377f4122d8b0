-- What number 0 tells: every test of the chain has failed.
use mathlib.Core.Bool.{false, cond}
use mathlib.Core.Path.{◌≡◌}
use Prim.Native.Nat.{ℕ}
use native.Mathlib.Omega.{arith}
use lib.ListN.{length}
use Rattle.loops.proofs.Numbers.{passed}
use Rattle.block.specs.declared.Block.{Block}
use Rattle.block.specs.Block.{Lent}
use Rattle.block.specs.Tests.{shape_bad, code_bad, place_bad, tx_bad, max_tx_bad, ref_bad, luma_contexts_bad, chroma_contexts_bad, length_bad, number}

pub record Passed (b : Block) (level-stride : ℕ) (m : Lent) : Type 0 where
  pub shape : shape_bad b ≡ false
  pub code : code_bad b ≡ false
  pub place : place_bad b ≡ false
  pub tx : tx_bad b ≡ false
  pub max-tx : max_tx_bad b ≡ false
  pub ref : ref_bad b ≡ false
  pub luma : luma_contexts_bad b m.above m.left ≡ false
  pub chroma : chroma_contexts_bad b m.above-uv m.left-uv ≡ false
  pub lengths : length_bad b level-stride (length m.levels) (length m.masks) ≡ false

module _ (b : Block) (level-stride : ℕ) (m : Lent) where
  abbrev from-lengths : ℕ
  from-lengths = cond (length_bad b level-stride (length m.levels) (length m.masks)) 7 0

  abbrev from-chroma : ℕ
  from-chroma = cond (chroma_contexts_bad b m.above-uv m.left-uv) 6 from-lengths

  abbrev from-luma : ℕ
  from-luma = cond (luma_contexts_bad b m.above m.left) 6 from-chroma

  abbrev from-ref : ℕ
  from-ref = cond (ref_bad b) 5 from-luma

  abbrev from-max-tx : ℕ
  from-max-tx = cond (max_tx_bad b) 5 from-ref

  abbrev from-tx : ℕ
  from-tx = cond (tx_bad b) 5 from-max-tx

  abbrev from_place : ℕ
  from_place = cond (place_bad b) 5 from-tx

  abbrev from-code : ℕ
  from-code = cond (code_bad b) 5 from_place

  pub free : number b level-stride m ≡ 0 → Passed b level-stride m
  unfolding number
  free e =
      let p1 = passed (shape_bad b) 4 from-code (omega arith) e in
      let p2 = passed (code_bad b) 5 from_place (omega arith) p1.1 in
      let p3 = passed (place_bad b) 5 from-tx (omega arith) p2.1 in
      let p4 = passed (tx_bad b) 5 from-max-tx (omega arith) p3.1 in
      let p5 = passed (max_tx_bad b) 5 from-ref (omega arith) p4.1 in
      let p6 = passed (ref_bad b) 5 from-luma (omega arith) p5.1 in
      let p7 = passed (luma_contexts_bad b m.above m.left) 6 from-chroma (omega arith) p6.1 in
      let p8 = passed (chroma_contexts_bad b m.above-uv m.left-uv) 6 from-lengths (omega arith) p7.1 in
      let p9 = passed (length_bad b level-stride (length m.levels) (length m.masks)) 7 0 (omega arith) p8.1 in
      record {
        shape = p1.0;
        code = p2.0;
        place = p3.0;
        tx = p4.0;
        max-tx = p5.0;
        ref = p6.0;
        luma = p7.0;
        chroma = p8.0;
        lengths = p9.0;
      }
