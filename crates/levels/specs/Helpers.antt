-- Words for the contracts of the helpers of `levels`.
--   stores f a n l         the list l with f 0, .., f (n - 1) stored from place a on, one after another
--   header_in h            what the values are made of, of the code's struct
--   biased_level .. j      filter_level at reference j / 2 and mode j % 2, with lf and segment delta given 128 above their values
use Rattle.std.specs.Prelude.{true, List, ℕ, ◌+◌, ◌/◌, ◌%◌, ℤ, set}
use Rattle.std.proofs.Math.IntN.{sub_ℕ}
use Rattle.loops.specs.Run.{up_to}
use Rattle.loops.specs.Flag.{on}
use Rattle.standard.specs.Level.{filter_level}
use Rattle.deltas.specs.Deltas.{delta}
use Rattle.levels.specs.Levels.{LevelsIn, levels_in}
use Rattle.levels.specs.declared.Header.{Header}

unfoldable pub stores : (ℕ → ℕ) → ℕ → ℕ → List ℕ → List ℕ
stores f a n l = up_to (λ j t. set t (a + j) (f j)) n l

unfoldable pub biased_level : ℕ → ℕ → ℕ → ℕ → List ℤ → List ℤ → ℕ → ℕ
biased_level level lf seg enabled refs modes j =
    filter_level level (sub_ℕ lf 128) true (sub_ℕ seg 128) (on enabled) (delta refs) (delta modes) (j / 2) (j % 2)

abbrev pub header_in : Header → LevelsIn
header_in h = levels_in h.base h.enabled h.refs h.modes h.multi h.lf h.segmentation h.seg
