-- The bits of the table: what is printed of parameters that fit is as long as the steps say.
use mathlib.Core.Bool.{Bool, true, false, cond}
use mathlib.Core.List.{List}
use mathlib.Core.Logic.{by_cases}
use mathlib.Core.Path.{◌≡◌, refl}
use Prim.Native.Nat.{ℕ, zero, suc, ◌+◌, ◌*◌}
use native.Mathlib.Decide.{ℕ_discrete}
use native.Mathlib.Omega.{arith}
use borrow.Author.Tests.{eq-eqb, ne_eqb}
use lib.Dec.{eqb}
use lib.IntN.{ℤ}
use lib.ListN.{length, get_or}
use Rattle.standard.specs.Header.{Given, is_off, has_chroma}
use Rattle.standard.specs.declared.Params.{Params}
use Rattle.params_read.specs.Reads.{chroma_bits}
use Rattle.params_lay.specs.Print.{deltas_digits, printed, print}
use Rattle.params_lay.proofs.Layings.{deltas-none, length_more, length-printed}
use Rattle.params_unfit.specs.Unfit.{unfit}
use Rattle.params_unfit.proofs.Fits.{Fit, fit_on}
use Rattle.round_trips.specs.Promises.{ones, bits_of}

length-ones : (us : List ℕ) (ds : List ℤ) (n : ℕ) → length (deltas_digits us ds n) ≡ n + 7 * ones us n
length-ones us ds zero = rw (deltas-none us ds) refl
length-ones us ds (suc n) = rw (length_more us ds n) (omega (arith, length-ones us ds n))

chroma-twice : (t : Bool) → ◌≡◌ {A = ℕ} (2 * cond t 6 0) (cond t 12 0)
chroma-twice true = refl
chroma-twice false = refl

module _ (g : Given) (p : Params) (f : Fit g.planes g.refs g.modes p) where
  abbrev refs : ℕ → ℕ
  refs n = length (deltas_digits p.update_ref p.ref_delta n)

  abbrev modes : ℕ → ℕ
  modes n = length (deltas_digits p.update_mode p.mode_delta n)

  abbrev chroma : ℕ
  chroma = cond (has_chroma g.planes (get_or p.level 0 0) (get_or p.level 1 0)) 12 0

  sent-bits : length (printed g.planes p)
      ≡ 12 + chroma + 4 + p.delta_enabled + cond (eqb p.delta_update 1) (10 + 7 * (ones p.update_ref 8 + ones p.update_mode 2)) 0
  sent-bits =
      by_cases (ℕ_discrete p.delta_update 1)
      (λ e. let r : refs (8 * p.delta_update) ≡ 8 + 7 * ones p.update_ref 8 = rw e (length-ones p.update_ref p.ref_delta 8) in
      let m : modes (2 * p.delta_update) ≡ 2 + 7 * ones p.update_mode 2 = rw e (length-ones p.update_mode p.mode_delta 2) in
      rw (eq-eqb p.delta_update 1 e) (omega (arith, all, twice, r, m)))
      (λ n. let z : p.delta_update ≡ 0 = omega (arith, n, f.update, f.enabled) in
      let r : refs (8 * p.delta_update) ≡ 0 = rw z (length-ones p.update_ref p.ref_delta 0) in
      let m : modes (2 * p.delta_update) ≡ 0 = rw z (length-ones p.update_mode p.mode_delta 0) in
      rw (ne_eqb p.delta_update 1 n) (omega (arith, all, twice, r, m)))
    where
      all : length (printed g.planes p) ≡ 12 + 2 * chroma_bits g.planes p.level + (4 + p.delta_enabled) + refs (8 * p.delta_update) + modes (2 * p.delta_update)
      all = length-printed g.planes p

      twice : 2 * chroma_bits g.planes p.level ≡ chroma
      twice = chroma-twice (has_chroma g.planes (get_or p.level 0 0) (get_or p.level 1 0))

pub print-bits : (g : Given) (p : Params) → unfit g p ≡ false → length (print g p) ≡ bits_of g p
print-bits g p h = go (is_off g) refl
  where
    go : (o : Bool) → is_off g ≡ o → length (print g p) ≡ bits_of g p
    go true e = rw e refl
    go false e = rw e (sent-bits g p (fit_on g.planes g.refs g.modes p (rw e at h)))
