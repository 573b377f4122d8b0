-- Numbers 8 and 9 in superblock row k, of sb lines of units of a plane. `above` is how many lines before the row's own are looked at too.
--   some_from        some number from a on, below b, passes a test
--   level_high       a level byte is above 63
--   levels_high      number 8 of one area: that of some unit in the frame, which has width by height of them, in the row's lines
--   luma_levels_high, chroma_levels_high   that of luma, and of U or V, in a frame of w4 by h4 luma units and superblocks of sb4
--   sample_high      a sample is above max
--   samples_high     number 9 of the samples: some sample of the stored width, in the row's stored lines, four to a unit
use Rattle.std.specs.Prelude.{Bool, ◌||◌, List, ℕ, ◌+◌, ◌-◌, ◌*◌, min, ltb, get_or}
use Rattle.loops.specs.Any.{any_below}
use Rattle.plane.specs.Line.{Pass, pass_no}
use Rattle.units.specs.Memory.{level_at}
use Rattle.units.specs.Units.{chroma_unit, chroma_units}

abbrev pub some_from : ℕ → ℕ → (ℕ → Bool) → Bool
some_from a b test = any_below (b - a) (λ i. test (a + i))

abbrev pub level_high : List ℕ → ℕ → ℕ → ℕ → ℕ → Bool
level_high ls level-stride area x y = ltb 63 (get_or ls (level_at level-stride x y area) 0)

unfoldable pub levels_high : List ℕ → ℕ → ℕ → ℕ → ℕ → ℕ → ℕ → ℕ → Bool
levels_high ls level-stride area width height sb above k =
    some_from (k * sb - above) (min height ((k + 1) * sb)) (λ y. any_below width (λ x. level_high ls level-stride area x y))

abbrev pub luma_levels_high : List ℕ → ℕ → ℕ → ℕ → ℕ → Pass → ℕ → Bool
luma_levels_high ls level-stride w4 h4 sb4 d k = levels_high ls level-stride (pass_no d) w4 h4 sb4 (pass_no d) k

abbrev pub chroma_levels_high : List ℕ → ℕ → ℕ → ℕ → ℕ → ℕ → ℕ → Pass → ℕ → Bool
chroma_levels_high ls level-stride w4 h4 ss-hor ss-ver sb4 d k =
    levels_high ls level-stride 2 (chroma_units ss-hor w4) (chroma_units ss-ver h4) (chroma_unit ss-ver sb4) (pass_no d) k
    || levels_high ls level-stride 3 (chroma_units ss-hor w4) (chroma_units ss-ver h4) (chroma_unit ss-ver sb4) (pass_no d) k

abbrev pub sample_high : List ℕ → ℕ → ℕ → ℕ → ℕ → Bool
sample_high s stride max x y = ltb max (get_or s (y * stride + x) 0)

unfoldable pub samples_high : List ℕ → ℕ → ℕ → ℕ → ℕ → ℕ → ℕ → Bool
samples_high s stride max width sb above k =
    some_from (4 * (k * sb) - above) (4 * ((k + 1) * sb)) (λ y. any_below width (λ x. sample_high s stride max x y))
