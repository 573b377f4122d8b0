-- An accepted block: record's theorem at the memory that begins at the block, and what that leaves of the whole contexts.
use mathlib.Core.List.{List, [], ◌∷◌, ◌++◌, append-nil}
use mathlib.Core.Logic.{by_cases}
use mathlib.Core.Path.{◌≡◌, refl, sym, ap, ◌∙◌}
use Prim.Native.Nat.{ℕ}
use native.Mathlib.Decide.{dec_le}
use native.Mathlib.Omega.{arith}
use lib.ListN.{length, take, drop, length-append, length-take, length-drop, take-append-drop, drop_of_length-le}
use lib.Seq.{length-take-le, drop_at, take_at, take_all}
use Rattle.block.specs.declared.Block.{Block}
use Rattle.block.specs.Block.{w4, Lent, lent, cx, cy, at_block}
use Rattle.block.specs.Tests.{number}
use Rattle.record.specs.Record.{luma_levels, chroma_levels, luma_masks, chroma_masks, luma_above, luma_left, chroma_above, chroma_left}
use Rattle.record.specs.Recorded.{Stored}
use Rattle.record.proofs.Answers as recording
use Rattle.list_steps.specs.Steps.{stored}
use Rattle.list_steps.specs.Promises.{Alike, Before}

empty : (l : List ℕ) → length l ≡ 0 → l ≡ []
empty [] e = refl
empty (x ∷ l) e = absurd (omega arith)

module _ (at : ℕ) (l k : List ℕ) (e : length k ≡ length (drop at l)) where
  end_back : drop at (take at l ++ k) ≡ k
  end_back =
      by_cases (dec_le at (length l)) (λ h. drop_at (take at l) k at (length-take-le at l h))
      (λ h.
      let z : length k ≡ 0 = omega (arith, length-drop at l) in
      drop_of_length-le (take at l ++ k) {i = at} (simp (length-append, length-take) (omega arith)) ∙ sym (empty k z))

  begin-back : take at (take at l ++ k) ≡ take at l
  begin-back =
      by_cases (dec_le at (length l)) (λ h. take_at (take at l) k at (length-take-le at l h))
      (λ h.
      let z : length k ≡ 0 = omega (arith, length-drop at l) in
      take_all at (take at l ++ k) (simp (length-append, length-take) (omega arith)) ∙ ap (λ (j : List ℕ). take at l ++ j) (empty k z) ∙ append-nil (take at l))

  length_back : length (take at l ++ k) ≡ length l
  length_back = length-append (take at l) k ∙ rw e (sym (length-append (take at l) (drop at l))) ∙ ap length (take-append-drop at l)

module _ (b : Block) (values : List ℕ) (m : Lent) (e : number b (w4 b) (at_block b m) ≡ 0) where
  abbrev after : Lent
  after =
      let a = at_block b m in
      lent
      (chroma_levels b (w4 b) values (luma_levels b (w4 b) values a.levels))
      (chroma_masks b a.above-uv a.left-uv (luma_masks b [] a.above a.left a.masks))
      (luma_above b [] a.above) (luma_left b [] a.left) (chroma_above b a.above-uv) (chroma_left b a.left-uv)

  recorded : Stored b (w4 b) values [] (at_block b m) after
  recorded =
      ((recording.promises).each b (w4 b) values [] 0 (at_block b m) after
      (record { code = sym e; levels = refl; masks = refl; above = refl; left = refl; above-uv = refl; left-uv = refl })
      ).accepted refl

  pub stored_is : Stored b (w4 b) values [] (at_block b m) (at_block b (stored b values m))
  stored_is =
      rw (
        end_back b.x.0 m.above _ recorded.above-long,
        end_back b.y.0 m.left _ recorded.left-long,
        end_back (cx b) m.above-uv _ recorded.above-uv-long,
        end_back (cy b) m.left-uv _ recorded.left-uv-long,
      ) recorded

  pub stored-alike : Alike (stored b values m) m
  stored-alike =
      record {
        levels = recorded.levels.long;
        masks = recorded.masks.long;
        above = length_back b.x.0 m.above _ recorded.above-long;
        left = length_back b.y.0 m.left _ recorded.left-long;
        above-uv = length_back (cx b) m.above-uv _ recorded.above-uv-long;
        left-uv = length_back (cy b) m.left-uv _ recorded.left-uv-long;
      }

  pub stored-before : Before b (stored b values m) m
  stored-before =
      record {
        above = begin-back b.x.0 m.above _ recorded.above-long;
        left = begin-back b.y.0 m.left _ recorded.left-long;
        above-uv = begin-back (cx b) m.above-uv _ recorded.above-uv-long;
        left-uv = begin-back (cy b) m.left-uv _ recorded.left-uv-long;
      }
