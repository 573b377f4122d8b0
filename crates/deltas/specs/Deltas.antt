-- Signed deltas, as the calls are given them.
--   delta ds i      delta i of a list
--   outside n d     d is outside -n..63, as a test
--   Outside n d     and as a fact
use Rattle.std.specs.Prelude.{Bool, ◌||◌, List, ◌⊎◌, ℕ, ℤ, pos, neg_ℤ, get_or, ◌<ℤ◌}
use Rattle.std.specs.Int.Signed.{lt_z}

abbrev pub delta : List ℤ → ℕ → ℤ
delta ds i = get_or ds i (pos 0)

unfoldable pub outside : ℕ → ℤ → Bool
outside n d = lt_z d (neg_ℤ (pos n)) || lt_z (pos 63) d

abbrev pub Outside : ℕ → ℤ → Type 0
Outside n d = (d <ℤ neg_ℤ (pos n)) ⊎ (pos 63 <ℤ d)
