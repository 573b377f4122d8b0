-- The contracts of `params`.
--   given_by h            what the syntax asks for beside the bits, of the code's struct
--   no_params             zeros
--   ParamsAnswer          a number, a count of bits and parameters
--   answered n, read_of   what `read` answers: number 23, or parameters and how many bits they took
--   read_answer           what a result of `read` says, as such an answer
--   count_of              the count of bits of a result of `write`, 0 where it refuses
--   write_number          the number that `write` answers, with so many bits of room
--   WriteAnswer           its contract: the number, the count and every byte
--   Lent, lent_of         what `read_into` is lent beside the bytes
--   shown                 parameters in those arrays
--   ReadLent              its contract: the same number, and a refusal stores nothing
--   fields_of             the parameters in the arrays of `write_from`
--   WriteLent             its contract
use Rattle.std.specs.Prelude.{cond, List, [], ◌∷◌, ◌++◌, ◌≡◌, ℕ, ◌+◌, ◌-◌, ◌*◌, eqb, ltb, ℤ, pos, length, get_or, replicate, Result, Ok, Err}
use Rattle.std.proofs.Math.Option.{Option, some, none}
use Rattle.loops.specs.Table.{tabulate}
use Rattle.loops.specs.Flag.{on}
use Rattle.standard.specs.Header.{Bit, Given, given, parse}
use Rattle.standard.specs.declared.Params.{Params}
use Rattle.bit_place.specs.Place.{bits_from, laid}
use Rattle.params_lay.specs.Print.{print}
use Rattle.params_unfit.specs.Unfit.{unfit}
use Rattle.refusals.specs.declared.Refusal.{Refusal}
use Rattle.refusals.specs.Numbers.{number_of}
use Rattle.params_read.specs.declared.Taken.{Taken}
use Rattle.params.specs.declared.FrameHeader.{FrameHeader}

abbrev pub given_by : FrameHeader → Given
given_by h = given h.planes (on h.lossless) (on h.intrabc) h.refs h.modes

abbrev pub no_params : Params
no_params = record {
  level = replicate 4 0;
  sharpness = 0;
  delta_enabled = 0;
  delta_update = 0;
  update_ref = replicate 8 0;
  update_mode = replicate 2 0;
  ref_delta = replicate 8 (pos 0);
  mode_delta = replicate 2 (pos 0);
}

pub record ParamsAnswer : Type 0 where
  pub number : ℕ
  pub count : ℕ
  pub params : Params

abbrev pub answered : ℕ → Option (Params × List Bit) → ParamsAnswer
answered n none = record { number = 23; count = 0; params = no_params }
answered n (some r) = record { number = 0; count = n - length r.1; params = r.0 }

unfoldable pub read_of : Given → List ℕ → ℕ → ParamsAnswer
read_of g bytes at = answered (length (bits_from bytes at)) (parse g (bits_from bytes at))

abbrev pub read_answer : Result Taken Refusal → ParamsAnswer
read_answer (Ok t) = record { number = 0; count = t.count; params = t.params }
read_answer (Err r) = record { number = number_of r; count = 0; params = no_params }

abbrev pub count_of : Result ℕ Refusal → ℕ
count_of (Ok n) = n
count_of (Err r) = 0

unfoldable pub write_number : Given → Params → ℕ → ℕ
write_number g p room = cond (unfit g p) 24 (cond (ltb room (length (print g p))) 23 0)

-- r is the number and n the count
pub record WriteAnswer (g : Given) (p : Params) (at r n : ℕ) (before after : List ℕ) : Type 0 where
  pub code : r ≡ write_number g p (8 * length before - at)
  pub count : n ≡ cond (eqb r 0) (length (print g p)) 0
  pub stored : after ≡ cond (eqb r 0) (laid (print g p) at before) before

pub record Lent : Type 0 where
  pub level : List ℕ
  -- sharpness, delta_enabled, delta_update
  pub bits : List ℕ
  -- of eight references and two modes
  pub update : List ℕ
  pub ref : List ℤ
  pub mode : List ℤ
  pub count : List ℕ

abbrev pub lent_of : List ℕ → List ℕ → List ℕ → List ℤ → List ℤ → List ℕ → Lent
lent_of level bits update ref mode count = record { level = level; bits = bits; update = update; ref = ref; mode = mode; count = count }

abbrev pub shown : ParamsAnswer → Lent
shown a =
    lent_of
    a.params.level
    (a.params.sharpness ∷ a.params.delta_enabled ∷ a.params.delta_update ∷ [])
    (tabulate (λ i. get_or a.params.update_ref i 0) 8 ++ tabulate (λ i. get_or a.params.update_mode i 0) 2)
    a.params.ref_delta
    a.params.mode_delta
    (a.count ∷ [])

pub record ReadLent (a : ParamsAnswer) (r : ℕ) (before after : Lent) : Type 0 where
  pub code : r ≡ a.number
  pub stored : after ≡ cond (eqb r 0) (shown a) before

abbrev pub fields_of : List ℕ → List ℕ → List ℕ → List ℤ → List ℤ → Params
fields_of level bits update ref mode = record {
  level = level;
  sharpness = get_or bits 0 0;
  delta_enabled = get_or bits 1 0;
  delta_update = get_or bits 2 0;
  update_ref = tabulate (λ i. get_or update i 0) 8;
  update_mode = tabulate (λ i. get_or update (8 + i) 0) 2;
  ref_delta = ref;
  mode_delta = mode;
}

pub record WriteLent (g : Given) (p : Params) (at r : ℕ) (before after counted counts : List ℕ) : Type 0 where
  pub code : r ≡ write_number g p (8 * length before - at)
  pub count : counts ≡ cond (eqb r 0) (length (print g p) ∷ []) counted
  pub stored : after ≡ cond (eqb r 0) (laid (print g p) at before) before
