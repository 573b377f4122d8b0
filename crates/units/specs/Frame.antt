-- The frame. Sides are in samples, w4 and h4 and places in luma units.
--   frame_ok width height   1 to 16,384 samples each way
--   stored side ss          a side of a plane as it is stored: the frame's rounded up to 128 luma samples, shifted by ss
--   records n               the 128x128 records along n units
--   frame_records w4 h4     those of a frame
--   record_of w4 x y        the record of a unit, in raster order
--   superblock_ok size      64 or 128
--   superblock_units size   the units of its side
--   superblocks n sb4       the superblocks along n units
use Rattle.std.specs.Prelude.{Bool, ◌&&◌, ◌||◌, ℕ, ◌+◌, ◌-◌, ◌*◌, ◌/◌, ◌^◌, eqb, leb}

abbrev pub frame_ok : ℕ → ℕ → Bool
frame_ok width height = (leb 1 width && leb width 16384) && (leb 1 height && leb height 16384)

abbrev pub stored : ℕ → ℕ → ℕ
stored side ss = (side + 127) / 128 * 128 / 2 ^ ss

abbrev pub records : ℕ → ℕ
records n = (n + 31) / 32

abbrev pub frame_records : ℕ → ℕ → ℕ
frame_records w4 h4 = records w4 * records h4

abbrev pub record_of : ℕ → ℕ → ℕ → ℕ
record_of w4 x y = y / 32 * records w4 + x / 32

abbrev pub superblock_ok : ℕ → Bool
superblock_ok size = eqb size 64 || eqb size 128

abbrev pub superblock_units : ℕ → ℕ
superblock_units size = size / 4

abbrev pub superblocks : ℕ → ℕ → ℕ
superblocks n sb4 = (n + (sb4 - 1)) / sb4
