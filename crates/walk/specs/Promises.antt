-- What holds of every walk.
--   places n m       the places below n whose bit of m is set, lowest first
--   Rising l         each number of a list is below those after it
--   Promises         the promises, one a field
use Rattle.std.specs.Prelude.{◌≡◌, ℕ, zero, suc, ◌^◌, ◌<◌, ◌≤◌, true, cond, List, [], ◌∷◌, ◌++◌, length, slice_index}
use mathlib.Core.List.{Memᴰ}
use Rattle.loops.specs.Run.{run, All}
use Rattle.loops.specs.Table.{tabulate}
use Rattle.loops.specs.Exactly.{Exactly}
use Rattle.bits.specs.Bit.{has_bit}
use Rattle.standard.specs.Strength.{limit, blimit, bounds}
use Rattle.walk.specs.declared.UnitLine.{UnitLine}
use Rattle.walk.specs.Walk.{thresholds, set_in, visit_at, walked}
use Rattle.walk.specs.Ready.{Walkable, InRange}

abbrev pub places : ℕ → ℕ → List ℕ
places zero m = []
places (suc n) m = cond (has_bit m n) (places n m ++ (n ∷ [])) (places n m)

abbrev pub Rising : List ℕ → Type 0
Rising [] = Unit {0}
Rising (x ∷ xs) = All (λ y. x < y) xs × Rising xs

pub record Promises : Type 0 where
  -- the set places below 32, and no other, are visited, each once, in order
  pub visited : (depth : ℕ) (e i levels : List ℕ) (u : UnitLine) (s : List ℕ)
      → walked depth e i levels u s ≡ run (visit_at depth e i levels u) (places 32 (set_in u)) s
  pub set : (m n : ℕ) → Exactly (Memᴰ n (places 32 m)) ((n < 32) × (has_bit m n ≡ true))
  pub rising : (m : ℕ) → Rising (places 32 m)
  -- with the limit table of a sharpness the thresholds are the standard's
  pub standard : (depth s lvl : ℕ) → lvl ≤ 63 → thresholds depth (tabulate (blimit s) 64) (tabulate (limit s) 64) lvl ≡ bounds depth s lvl
  -- no sample is added or lost, and those in the depth's range stay there
  pub keeps : (depth : ℕ) (e i levels : List ℕ) (u : UnitLine) (s : List ℕ) → length (walked depth e i levels u s) ≡ length s
  pub range : (depth : ℕ) (e i levels : List ℕ) (u : UnitLine) (s : List ℕ) → 8 ≤ depth → Walkable levels u (length s) → InRange (2 ^ depth) u s
      → (j : ℕ) → slice_index s j < 2 ^ depth → slice_index (walked depth e i levels u s) j < 2 ^ depth
