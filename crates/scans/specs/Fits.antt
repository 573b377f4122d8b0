-- What the lower numbers leave to the scans of superblock row k.
--   Superblock      sb4 is that of 64 or of 128 samples
--   SbRow           the row lies in the frame
--   LevelsFit       and the level bytes hold the frame's units
--   SamplesFit      and the plane holds its stored samples
--   LevelsRow       what the scan of one plane's levels asks: width by height units of it in the frame, sb lines of them a row
use Rattle.std.specs.Prelude.{◌≡◌, ◌⊎◌, ℕ, ◌*◌, ◌<◌, ◌≤◌}
use Rattle.units.specs.Frame.{stored}
use Rattle.units.specs.Units.{units_of}

abbrev pub Superblock : ℕ → Type 0
Superblock sb4 = (sb4 ≡ 16) ⊎ (sb4 ≡ 32)

pub record SbRow (h4 sb4 k : ℕ) : Type 0 where
  pub size : Superblock sb4
  pub down : k * sb4 < h4
  pub most : h4 ≤ 4096

pub record LevelsFit (len level-stride w4 h4 sb4 k : ℕ) : Type 0 where
  pub row : SbRow h4 sb4 k
  pub some : 0 < w4
  pub most : w4 ≤ 4096
  pub width : w4 ≤ level-stride
  pub long : 4 * level-stride * h4 ≤ len

pub record SamplesFit (len stride width height ss-hor ss-ver sb4 k : ℕ) : Type 0 where
  pub row : SbRow (units_of height) sb4 k
  pub some : 0 < width
  pub most : width ≤ 16384
  pub right : stored width ss-hor ≤ stride
  pub long : stride * stored height ss-ver ≤ len

pub record LevelsRow (len level-stride width height sb k : ℕ) : Type 0 where
  pub right : width ≤ level-stride
  pub some : 0 < level-stride
  pub long : 4 * (height * level-stride) ≤ len
  pub down : k * sb < height
  pub most : height ≤ 4096
  pub few : sb ≤ 32
