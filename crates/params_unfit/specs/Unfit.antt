-- Whether no bits say some parameters: what number 24 refuses, as tests.
--   is_not, differ a b        two numbers are not the same
--   unfit_delta m u b d       an update bit u above m, a delta d that is sent out of its range, or one that is not sent and not b
--   unfit_deltas              and so some of n
--   unfit_levels n l          a level out of its range; 0 is a chroma level's range where it is not sent
--   unfit_fields o n p        levels, sharpness or delta_enabled out of range, all 0 where o: no bits are sent
--   unfit_as, unfit g p       no bits say p
use Rattle.std.specs.Prelude.{Bool, true, false, cond, ◌||◌, List, ℕ, eqb, ltb, ℤ, get_or}
use Rattle.std.proofs.Math.IntN.{ℤ_discrete}
use Rattle.loops.specs.Any.{any_below}
use Rattle.loops.specs.Flag.{on}
use Rattle.standard.specs.Header.{Given, is_off, default_refs, default_modes, has_chroma}
use Rattle.standard.specs.declared.Params.{Params}
use Rattle.deltas.specs.Deltas.{delta, outside}

abbrev pub is_not : {P : Type 0} → Dec P → Bool
is_not (yes p) = false
is_not (no n) = true

abbrev pub differ : ℤ → ℤ → Bool
differ a b = is_not (ℤ_discrete a b)

unfoldable pub unfit_delta : ℕ → ℕ → ℤ → ℤ → Bool
unfit_delta m u b d = ltb m u || cond (eqb u 0) (differ d b) (outside 64 d)

unfoldable pub unfit_deltas : ℕ → ℕ → List ℕ → List ℤ → List ℤ → Bool
unfit_deltas n m us bs ds = any_below n (λ i. unfit_delta m (get_or us i 0) (delta bs i) (delta ds i))

unfoldable pub unfit_levels : ℕ → List ℕ → Bool
unfit_levels planes l =
    ltb 63 (get_or l 0 0)
    || ltb 63 (get_or l 1 0)
    || ltb (cond (has_chroma planes (get_or l 0 0) (get_or l 1 0)) 63 0) (get_or l 2 0)
    || ltb (cond (has_chroma planes (get_or l 0 0) (get_or l 1 0)) 63 0) (get_or l 3 0)

unfoldable pub unfit_fields : Bool → ℕ → Params → Bool
unfit_fields o planes p =
    cond o
    (on (get_or p.level 0 0) || on (get_or p.level 1 0) || on (get_or p.level 2 0) || on (get_or p.level 3 0) || on p.sharpness || on p.delta_enabled)
    (unfit_levels planes p.level || ltb 7 p.sharpness || ltb 1 p.delta_enabled)

unfoldable pub unfit_as : Bool → ℕ → List ℤ → List ℤ → Params → Bool
unfit_as o planes refs modes p =
    unfit_fields o planes p
    || ltb p.delta_enabled p.delta_update
    || unfit_deltas 8 p.delta_update p.update_ref (cond o default_refs refs) p.ref_delta
    || unfit_deltas 2 p.delta_update p.update_mode (cond o default_modes modes) p.mode_delta

abbrev pub unfit : Given → Params → Bool
unfit g p = unfit_as (is_off g) g.planes g.refs g.modes p
