-- The bits that say some parameters: 5.9.11 the other way round.
--   levels_digits n l        the levels, with n planes
--   switch_digits s e u      sharpness, delta_enabled, and delta_update where that is 1
--   delta_digits u d         an update bit, and its delta where it is 1
--   deltas_digits us ds n    the first n of them
--   printed n p, print g p   all fields, where bits are sent, and else no bits
--   OneBits p                delta_enabled, delta_update and all update bits are 0 or 1
use Rattle.std.specs.Prelude.{cond, List, [], ◌++◌, ℕ, zero, suc, ◌*◌, ◌<◌, ℤ, get_or}
use Rattle.standard.specs.Header.{Bit, Given, is_off}
use Rattle.standard.specs.declared.Params.{Params}
use Rattle.deltas.specs.Deltas.{delta}
use Rattle.bit_place.specs.Place.{digits}
use Rattle.bit_place.specs.Seven.{seven_of}
use Rattle.params_read.specs.Reads.{chroma_bits}

abbrev pub levels_digits : ℕ → List ℕ → List Bit
levels_digits planes l =
    digits 6 (get_or l 0 0) ++ digits 6 (get_or l 1 0) ++ digits (chroma_bits planes l) (get_or l 2 0) ++ digits (chroma_bits planes l) (get_or l 3 0)

abbrev pub switch_digits : ℕ → ℕ → ℕ → List Bit
switch_digits s e u = digits 3 s ++ digits 1 e ++ digits e u

abbrev pub delta_digits : ℕ → ℤ → List Bit
delta_digits u d = digits 1 u ++ digits (7 * u) (seven_of d)

unfoldable pub deltas_digits : List ℕ → List ℤ → ℕ → List Bit
deltas_digits us ds zero = []
deltas_digits us ds (suc i) = deltas_digits us ds i ++ delta_digits (get_or us i 0) (delta ds i)

unfoldable pub printed : ℕ → Params → List Bit
printed planes p =
    levels_digits planes p.level
    ++ switch_digits p.sharpness p.delta_enabled p.delta_update
    ++ deltas_digits p.update_ref p.ref_delta (8 * p.delta_update)
    ++ deltas_digits p.update_mode p.mode_delta (2 * p.delta_update)

abbrev pub print : Given → Params → List Bit
print g p = cond (is_off g) [] (printed g.planes p)

pub record OneBits (p : Params) : Type 0 where
  pub enabled : p.delta_enabled < 2
  pub update : p.delta_update < 2
  pub refs : (i : ℕ) → i < 8 → get_or p.update_ref i 0 < 2
  pub modes : (i : ℕ) → i < 2 → get_or p.update_mode i 0 < 2
