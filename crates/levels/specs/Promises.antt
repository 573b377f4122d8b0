-- What document 01 promises of `levels`, as theorems on its contract alone.
--   LevelFault layout x     what number 2 refuses
--   Place x s k q m         a segment that is written, an area, a reference and a mode
--   byte l s k q m          the byte at [segment][area][reference][mode]
--   Promised                of one answer
--   Promises                of all
use Rattle.std.specs.Prelude.{List, ◌⊎◌, ◌≡◌, ℕ, ◌+◌, ◌*◌, ◌<◌, ◌≤◌, ℤ, get_or}
use Rattle.loops.specs.Exactly.{Exactly}
use Rattle.loops.specs.Flag.{on}
use Rattle.standard.specs.Level.{filter_level}
use Rattle.units.specs.Layout.{Layout}
use Rattle.deltas.specs.Deltas.{delta, Outside}
use Rattle.levels.specs.Levels.{LevelsIn, levels_in, base_at, lf_delta, LevelsAnswer}

pub data LevelFault (layout : ℕ) (x : LevelsIn) : Type 0 where
  base-above-63 : (k : ℕ) → k < 4 → 63 < base_at x k → LevelFault layout x
  ref-outside : (r : ℕ) → r < 8 → Outside 64 (delta x.ref r) → LevelFault layout x
  mode-outside : (m : ℕ) → m < 2 → Outside 64 (delta x.mode m) → LevelFault layout x
  lf-outside : (k : ℕ) → k < 4 → Outside 63 (delta x.lf k) → LevelFault layout x
  seg-outside : (s k : ℕ) → s < 8 → k < 4 → Outside 63 (delta x.seg (s * 4 + k)) → LevelFault layout x
  chroma-at-400 : (k : ℕ) → 2 ≤ k → k < 4 → ¬ (base_at x k ≡ 0) → layout ≡ 400 → LevelFault layout x

pub record Place (x : LevelsIn) (s k q m : ℕ) : Type 0 where
  pub segment : s < 8
  pub in_use : x.segmentation ≡ 0 → s ≡ 0
  pub area : k < 4
  pub reference : q < 8
  pub mode : m < 2

abbrev pub byte : List ℕ → ℕ → ℕ → ℕ → ℕ → ℕ
byte l s k q m = get_or l (((s * 4 + k) * 8 + q) * 2 + m) 0

pub record Promised (layout : ℕ) (x : LevelsIn) (r : ℕ) (before after : List ℕ) : Type 0 where
  -- the numbers, exactly when
  pub two : Exactly (r ≡ 2) (LevelFault layout x)
  pub four : Exactly (r ≡ 4) ((¬ Layout layout) × (¬ LevelFault layout x))
  pub zero : Exactly (r ≡ 0) (Layout layout × (¬ LevelFault layout x))
  -- a refusal stores nothing
  pub refused : ¬ (r ≡ 0) → after ≡ before
  -- segmentation off: the other seven segments stay
  pub stays : x.segmentation ≡ 0 → (i : ℕ) → 64 ≤ i → get_or after i 0 ≡ get_or before i 0
  -- both luma bases 0 give all 0
  pub no-luma : r ≡ 0 → base_at x 0 ≡ 0 → base_at x 1 ≡ 0 → (s k q m : ℕ) → Place x s k q m → byte after s k q m ≡ 0
  -- chroma base 0 gives all 0
  pub no-chroma : r ≡ 0 → (s k q m : ℕ) → Place x s k q m → 2 ≤ k → base_at x k ≡ 0 → byte after s k q m ≡ 0
  -- every other value is the standard's
  pub value : r ≡ 0 → (¬ (base_at x 0 ≡ 0)) ⊎ (¬ (base_at x 1 ≡ 0)) → (s k q m : ℕ) → Place x s k q m → (k < 2) ⊎ (¬ (base_at x k ≡ 0))
      → byte after s k q m
      ≡ filter_level (base_at x k) (lf_delta x k) (on x.segmentation) (delta x.seg (s * 4 + k)) (on x.enabled) (delta x.ref) (delta x.mode) q m
  -- reference 0: both modes alike
  pub intra : r ≡ 0 → (s k : ℕ) → Place x s k 0 0 → byte after s k 0 0 ≡ byte after s k 0 1
  -- a level is at most 63
  pub small : r ≡ 0 → (s k q m : ℕ) → Place x s k q m → byte after s k q m ≤ 63

pub record Promises : Type 0 where
  -- uniqueness: two answers that the contract admits are equal
  pub unique : (layout : ℕ) (x : LevelsIn) (before : List ℕ) (r q : ℕ) (a b : List ℕ)
      → LevelsAnswer layout x r before a → LevelsAnswer layout x q before b → (r ≡ q) × (a ≡ b)
  pub each : (layout : ℕ) (x : LevelsIn) (r : ℕ) (before after : List ℕ)
      → LevelsAnswer layout x r before after → Promised layout x r before after
  -- lf deltas 1, 2, 3 are used only with multi
  pub no-multi : (layout : ℕ) (base : List ℕ) (enabled : ℕ) (ref mode lf lf' : List ℤ) (segmentation : ℕ) (seg : List ℤ) (before a b : List ℕ)
      → delta lf 0 ≡ delta lf' 0
      → LevelsAnswer layout (levels_in base enabled ref mode 0 lf segmentation seg) 0 before a
      → LevelsAnswer layout (levels_in base enabled ref mode 0 lf' segmentation seg) 0 before b
      → a ≡ b
