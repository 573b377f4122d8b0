-- Units: 4 by 4 samples of their own plane. ss is ss_hor or ss_ver.
--   units_of side       the units of a side of so many samples
--   chroma_unit ss u    the chroma unit that a luma unit lies in
--   chroma_units ss n   the chroma units of n luma units, rounded up
use Rattle.std.specs.Prelude.{ℕ, ◌+◌, ◌/◌, ◌^◌}

abbrev pub units_of : ℕ → ℕ
units_of side = (side + 3) / 4

abbrev pub chroma_unit : ℕ → ℕ → ℕ
chroma_unit ss u = u / 2 ^ ss

abbrev pub chroma_units : ℕ → ℕ → ℕ
chroma_units ss n = (n + ss) / 2 ^ ss
