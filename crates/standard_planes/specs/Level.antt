-- One level byte as the standard finds it.
--   Segment x s all values     the values are those of segment s, which is in use, of the 512 bytes that `levels` leaves
--   Referred b                 the block of a call: an intra block has reference 0, and a mode is 0 or 1
--   Level x s k q m v          v is the level of area k at segment s, reference q and mode m: 7.14.5's, and 0 where nothing is filtered
use Rattle.std.specs.Prelude.{true, List, ◌⊎◌, ◌≡◌, ℕ, ◌+◌, ◌*◌, ◌<◌, ◌≤◌, get_or}
use Rattle.standard.specs.Level.{filter_level}
use Rattle.deltas.specs.Deltas.{delta}
use Rattle.levels.specs.Levels.{LevelsIn, base_at, lf_delta}
use Rattle.block.specs.declared.Block.{Block}
use Rattle.loops.specs.Flag.{on}

pub record Segment (x : LevelsIn) (s : ℕ) (all values : List ℕ) : Type 0 where
  pub below : s < 8
  pub in_use : x.segmentation ≡ 0 → s ≡ 0
  pub its : (i : ℕ) → i < 64 → get_or values i 0 ≡ get_or all (s * 64 + i) 0

pub record Referred (b : Block) : Type 0 where
  pub reference : (b.inter ≡ true) ⊎ (b.reference ≡ 0)
  pub mode : b.mode < 2

pub record Level (x : LevelsIn) (s k q m v : ℕ) : Type 0 where
  pub no-luma : base_at x 0 ≡ 0 → base_at x 1 ≡ 0 → v ≡ 0
  pub no-chroma : 2 ≤ k → base_at x k ≡ 0 → v ≡ 0
  pub standard : (¬ (base_at x 0 ≡ 0)) ⊎ (¬ (base_at x 1 ≡ 0)) → (k < 2) ⊎ (¬ (base_at x k ≡ 0))
      → v ≡ filter_level (base_at x k) (lf_delta x k) (on x.segmentation) (delta x.seg (s * 4 + k)) (on x.enabled) (delta x.ref) (delta x.mode) q m
