-- The level values of a frame: document 01, "Limits and levels", by 7.14.5 of the standard.
--   LevelsIn, levels_in         what the values are made of
--   base_at, lf_delta           the base level and the lf delta of an area
--   area_level x s k r m        the value of segment s, area k, reference r and mode m
--   luma_off, level x s k r m   and 0 where both luma bases are 0
--   byte_at x i                 the value of byte i
--   written x, levels_done x l  how many bytes are written, and the 512 bytes l once they are
--   out_of_range ..             what number 2 refuses
--   levels_number layout x      the number answered
--   LevelsAnswer                the contract of `levels`
-- Kinds are 0 luma columns, 1 luma rows, 2 U, 3 V.
use Rattle.std.specs.Prelude.{Bool, not, cond, ◌&&◌, ◌||◌, List, ◌++◌, ◌≡◌, ℕ, ◌+◌, ◌*◌, ◌/◌, ◌%◌, eqb, ltb, ℤ, get_or, drop}
use Rattle.loops.specs.Any.{any_below}
use Rattle.loops.specs.Table.{tabulate}
use Rattle.loops.specs.Flag.{on}
use Rattle.standard.specs.Level.{filter_level}
use Rattle.units.specs.Layout.{layout_ok}
use Rattle.deltas.specs.Deltas.{delta, outside}

pub record LevelsIn : Type 0 where
  -- loop_filter_level[ k ], by area
  pub base : List ℕ
  -- loop_filter_delta_enabled, loop_filter_ref_deltas, loop_filter_mode_deltas
  pub enabled : ℕ
  pub ref : List ℤ
  pub mode : List ℤ
  -- delta_lf_multi, and the block's DeltaLF by area
  pub multi : ℕ
  pub lf : List ℤ
  -- segmentation_enabled, and the level feature of segment s and area k at s * 4 + k
  pub segmentation : ℕ
  pub seg : List ℤ

abbrev pub levels_in : List ℕ → ℕ → List ℤ → List ℤ → ℕ → List ℤ → ℕ → List ℤ → LevelsIn
levels_in base enabled ref mode multi lf segmentation seg =
    record { base = base; enabled = enabled; ref = ref; mode = mode; multi = multi; lf = lf; segmentation = segmentation; seg = seg }

abbrev pub base_at : LevelsIn → ℕ → ℕ
base_at x k = get_or x.base k 0

-- lf deltas 1, 2, 3 only with multi
abbrev pub lf_delta : LevelsIn → ℕ → ℤ
lf_delta x k = delta x.lf (cond (on x.multi) k 0)

unfoldable pub area_level : LevelsIn → ℕ → ℕ → ℕ → ℕ → ℕ
area_level x s k r m =
    cond (ltb 1 k && eqb (base_at x k) 0) 0
    (filter_level (base_at x k) (lf_delta x k) (on x.segmentation) (delta x.seg (s * 4 + k)) (on x.enabled) (delta x.ref) (delta x.mode) r m)

-- both luma bases are 0
abbrev pub luma_off : List ℕ → Bool
luma_off base = eqb (get_or base 0 0) 0 && eqb (get_or base 1 0) 0

unfoldable pub level : LevelsIn → ℕ → ℕ → ℕ → ℕ → ℕ
level x s k r m = cond (luma_off x.base) 0 (area_level x s k r m)

-- all segments, or the first alone
abbrev pub written : LevelsIn → ℕ
written x = cond (on x.segmentation) 512 64

-- byte i of [segment][area][reference][mode]
abbrev pub byte_at : LevelsIn → ℕ → ℕ
byte_at x i = level x (i / 64) (i / 16 % 4) (i / 2 % 8) (i % 2)

unfoldable pub levels_done : LevelsIn → List ℕ → List ℕ
levels_done x l = tabulate (byte_at x) (written x) ++ drop (written x) l

-- deltas that are not in use count too
unfoldable pub out_of_range : ℕ → List ℕ → List ℤ → List ℤ → List ℤ → List ℤ → Bool
out_of_range layout base ref mode lf seg =
    any_below 4 (λ k. ltb 63 (get_or base k 0))
    || any_below 8 (λ r. outside 64 (delta ref r))
    || any_below 2 (λ m. outside 64 (delta mode m))
    || any_below 4 (λ k. outside 63 (delta lf k))
    || any_below 32 (λ i. outside 63 (delta seg i))
    || (eqb layout 400 && (on (get_or base 2 0) || on (get_or base 3 0)))

unfoldable pub levels_number : ℕ → LevelsIn → ℕ
levels_number layout x = cond (out_of_range layout x.base x.ref x.mode x.lf x.seg) 2 (cond (not (layout_ok layout)) 4 0)

pub record LevelsAnswer (layout : ℕ) (x : LevelsIn) (r : ℕ) (before after : List ℕ) : Type 0 where
  pub code : r ≡ levels_number layout x
  pub stored : after ≡ cond (eqb r 0) (levels_done x before) before
