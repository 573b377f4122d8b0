-- What the lower numbers leave to numbers 11 and 12.
--   MasksFit      superblock row k lies in the frame, and the masks hold the frame's records
use Rattle.std.specs.Prelude.{◌≡◌, ◌⊎◌, ℕ, ◌*◌, ◌≤◌, ◌<◌}
use Rattle.units.specs.Frame.{frame_records}

pub record MasksFit (len w4 h4 sb4 k : ℕ) : Type 0 where
  pub size : (sb4 ≡ 16) ⊎ (sb4 ≡ 32)
  pub down : k * sb4 < h4
  pub width : w4 ≤ 4096
  pub height : h4 ≤ 4096
  pub long : 640 * frame_records w4 h4 ≤ len
