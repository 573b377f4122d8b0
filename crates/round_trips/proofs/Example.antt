-- The two headers of the witness are read by computing; what was read fits, since it was read, and so it is written.
use mathlib.Core.Bool.{true, false}
use mathlib.Core.List.{List, [], ◌∷◌}
use mathlib.Core.Option.{some}
use mathlib.Core.Path.{◌≡◌, refl, sym, ap, ◌∙◌}
use Prim.Native.Nat.{ℕ}
use native.Mathlib.Omega.{arith}
use lib.ListN.{length, get_or, replicate}
use Rattle.bits.specs.Bit.{has_bit}
use Rattle.standard.specs.Header.{◌>>=◌, f, su7, levels, updated, updates, deltas, sent, parse}
use Rattle.bit_place.specs.Place.{bit_at, bits_from, digits, laid}
use Rattle.params_lay.specs.Print.{deltas_digits, printed, print}
use Rattle.params_unfit.specs.Unfit.{unfit}
use Rattle.params.specs.Calls.{ParamsAnswer, read_of, write_number, WriteAnswer}
use Rattle.round_trips.specs.Promises.{SizedGiven, Sized}
use Rattle.round_trips.specs.Witness.{before, header, place, header_params, changed, changed_params}
use Rattle.round_trips.proofs.Printing.{parse-reads}
use Rattle.round_trips.proofs.Answers.{written_read}

pub real : read_of before header place ≡ record { number = 0; count = 29; params = header_params }
unfolding read_of parse sent levels f deltas updates updated su7 ◌>>=◌ bit_at has_bit
real = refl

pub changed-read : read_of before changed 3 ≡ record { number = 0; count = 60; params = changed_params }
unfolding read_of parse sent levels f deltas updates updated su7 ◌>>=◌ bit_at has_bit
changed-read = refl

sized : SizedGiven before
sized = record { refs = refl; modes = refl }

changed-sized : Sized changed_params
changed-sized = record { levels = refl; ref-bits = refl; mode-bits = refl; refs = refl; modes = refl }

changed-says : parse before (bits_from changed 3) ≡ some (changed_params, true ∷ [])
unfolding parse sent levels f deltas updates updated su7 ◌>>=◌ bit_at has_bit
changed-says = refl

changed-fits : unfit before changed_params ≡ false
changed-fits = (parse-reads before changed_params (bits_from changed 3) (true ∷ []) sized changed-says).fits

long : length (print before changed_params) ≡ 60
unfolding printed deltas_digits digits
long = refl

abbrev noise : List ℕ
noise = replicate 10 170

abbrev after : List ℕ
after = laid (print before changed_params) 13 noise

changed-written : WriteAnswer before changed_params 13 0 60 noise after
unfolding write_number
changed-written = record { code = rw (changed-fits, long) refl; count = sym long; stored = refl }

-- noise says other levels
noise-level : get_or (read_of before noise 13).params.level 0 0 ≡ 21
unfolding read_of parse sent levels f deltas updates updated su7 ◌>>=◌ bit_at has_bit
noise-level = refl

other : ¬ (after ≡ noise)
other e =
    let back = written_read before changed_params 13 60 noise after sized changed-sized changed-written in
    let level : ◌≡◌ {A = ℕ} 16 21 = sym (ap (λ (a : ParamsAnswer). get_or a.params.level 0 0) back) ∙ ap (λ (l : List ℕ). get_or (read_of before l 13).params.level 0 0) e ∙ noise-level in
    absurd (omega (arith, level))

pub changed-trip : (l : List ℕ) × WriteAnswer before changed_params 13 0 60 noise l × (¬ (l ≡ noise))
changed-trip = (after, changed-written, other)
