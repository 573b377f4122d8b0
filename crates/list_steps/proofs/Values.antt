-- The level values of a level line: a base above 63 is number 2, and the first 64 bytes that `levels` writes with no segments are the tabulated ones.
use mathlib.Core.Bool.{true, false, ◌||◌}
use mathlib.Core.List.{List, [], ◌∷◌, ◌++◌}
use mathlib.Core.Path.{◌≡◌, refl, ◌∙◌}
use Prim.Native.Nat.{ℕ, ◌<◌, ◌≤◌}
use borrow.Author.Tests.{ltb-false}
use lib.Dec.{ltb}
use lib.ListN.{length, get_or, take, drop}
use lib.Seq.{take_at, length_front, length-take-le}
use Rattle.loops.specs.Any.{any_below}
use Rattle.loops.specs.Table.{tabulate}
use Rattle.loops.proofs.Anys.{any-each}
use Rattle.loops.proofs.Tables.{length-tabulate}
use Rattle.levels.specs.Levels.{byte_at, levels_done, out_of_range, levels_number}
use Rattle.list_steps.specs.Steps.{bases}

module _ (layout columns rows u v : ℕ) where
  pub above : (ltb 63 columns || ltb 63 rows || ltb 63 u || ltb 63 v) ≡ true → 2 ≡ levels_number layout (bases columns rows u v)
  unfolding levels_number out_of_range any_below
  above h = rw h refl

  pub below : (ltb 63 columns || ltb 63 rows || ltb 63 u || ltb 63 v) ≡ false
      → (k : ℕ) → k < 4 → get_or (columns ∷ rows ∷ u ∷ v ∷ []) k 0 ≤ 63
  unfolding any_below
  below h k l = ltb-false 63 (get_or (columns ∷ rows ∷ u ∷ v ∷ []) k 0) (any-each 4 (λ k. ltb 63 (get_or (columns ∷ rows ∷ u ∷ v ∷ []) k 0)) h k l)

  pub first : (l : List ℕ) → take 64 (levels_done (bases columns rows u v) l) ≡ tabulate (byte_at (bases columns rows u v)) 64
  unfolding levels_done
  first l = front (byte_at (bases columns rows u v)) 64 l
    where
      front : (f : ℕ → ℕ) (n : ℕ) (l : List ℕ) → take n (tabulate f n ++ drop n l) ≡ tabulate f n
      front f n l = take_at (tabulate f n) (drop n l) n (length-tabulate f n)

  pub long : (l : List ℕ) → 64 ≤ length l → length (levels_done (bases columns rows u v) l) ≡ length l
  unfolding levels_done
  long l h = front (byte_at (bases columns rows u v)) 64 h
    where
      front : (f : ℕ → ℕ) (n : ℕ) → n ≤ length l → length (tabulate f n ++ drop n l) ≡ length l
      front f n h = length_front l (tabulate f n) n (length-tabulate f n ∙ rw (length-take-le n l h) refl)
