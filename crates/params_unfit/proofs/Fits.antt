-- What holds of parameters that are not unfit, field by field, and back: the tests are taken apart and put together again.
--   FitDelta     of one update bit and its delta
--   Fit          of all, where bits are sent
--   FitOff       of all, where none are
use mathlib.Core.Bool.{true, false, cond, true≢false}
use mathlib.Core.List.{List}
use mathlib.Core.Path.{◌≡◌, refl}
use mathlib.Core.Logic.{by_cases}
use Prim.Native.Nat.{ℕ, zero, suc, ◌<◌, ◌≤◌}
use native.Mathlib.Decide.{ℕ_discrete}
use native.Mathlib.Omega.{arith}
use borrow.Author.Tests.{ltb-false, le-ltb, eq-eqb, ne_eqb, eqb-true, not-false}
use lib.Dec.{eqb, ltb}
use lib.IntN.{ℤ, ℤ_discrete}
use lib.ListN.{get_or}
use Rattle.loops.specs.Flag.{on}
use Rattle.loops.proofs.Anys.{any-each, any_false}
use Rattle.loops.proofs.Bools.{or_off}
use Rattle.standard.specs.Header.{has_chroma, default_refs, default_modes}
use Rattle.standard.specs.declared.Params.{Params}
use Rattle.deltas.specs.Deltas.{delta, outside}
use Rattle.params_unfit.specs.Unfit.{differ, is_not, unfit_delta, unfit_deltas, unfit_levels, unfit_fields, unfit_as}

-- ---- one delta

pub record FitDelta (m u : ℕ) (b d : ℤ) : Type 0 where
  pub most : u ≤ m
  pub stays : u ≡ 0 → d ≡ b
  pub within : ¬ (u ≡ 0) → outside 64 d ≡ false

same : (a b : ℤ) → differ a b ≡ false → a ≡ b
same a b h = go (ℤ_discrete a b) h
  where
    go : (x : Dec (a ≡ b)) → is_not x ≡ false → a ≡ b
    go (yes e) h = e
    go (no n) h = absurd (true≢false h)

not-differ : (a b : ℤ) → a ≡ b → differ a b ≡ false
not-differ a b e = go (ℤ_discrete a b)
  where
    go : (x : Dec (a ≡ b)) → is_not x ≡ false
    go (yes p) = refl
    go (no n) = absurd (n e)

fit-delta : (m u : ℕ) (b d : ℤ) → unfit_delta m u b d ≡ false → FitDelta m u b d
unfolding unfit_delta
fit-delta m u b d h =
    let parts = or_off (ltb m u) (cond (eqb u 0) (differ d b) (outside 64 d)) h in record {
      most = ltb-false m u parts.0;
      stays = λ z. same d b (rw (eq-eqb u 0 z) at parts.1);
      within = λ n. rw (ne_eqb u 0 n) at parts.1;
    }

unfit-not : (m u : ℕ) (b d : ℤ) → FitDelta m u b d → unfit_delta m u b d ≡ false
unfolding unfit_delta
unfit-not m u b d f =
    by_cases (ℕ_discrete u 0) (λ z. rw (le-ltb m u f.most, eq-eqb u 0 z) (not-differ d b (f.stays z)))
    (λ n. rw (le-ltb m u f.most, ne_eqb u 0 n) (f.within n))

-- ---- all fields, where bits are sent

pub record Fit (planes : ℕ) (refs modes : List ℤ) (p : Params) : Type 0 where
  pub level-0 : get_or p.level 0 0 ≤ 63
  pub level-1 : get_or p.level 1 0 ≤ 63
  pub level-2 : get_or p.level 2 0 ≤ cond (has_chroma planes (get_or p.level 0 0) (get_or p.level 1 0)) 63 0
  pub level-3 : get_or p.level 3 0 ≤ cond (has_chroma planes (get_or p.level 0 0) (get_or p.level 1 0)) 63 0
  pub sharp : p.sharpness ≤ 7
  pub enabled : p.delta_enabled ≤ 1
  pub update : p.delta_update ≤ p.delta_enabled
  pub ref : (i : ℕ) → i < 8 → FitDelta p.delta_update (get_or p.update_ref i 0) (delta refs i) (delta p.ref_delta i)
  pub mode : (i : ℕ) → i < 2 → FitDelta p.delta_update (get_or p.update_mode i 0) (delta modes i) (delta p.mode_delta i)

pub fit_on : (planes : ℕ) (refs modes : List ℤ) (p : Params) → unfit_as false planes refs modes p ≡ false → Fit planes refs modes p
unfolding unfit_as unfit_fields unfit_levels unfit_deltas
fit_on planes refs modes p h =
    let all = or_off _ _ h in
    let first = or_off _ _ all.0 in
    let second = or_off _ _ first.0 in
    let fields = or_off _ _ second.0 in
    let sharps = or_off _ _ fields.0 in
    let l3 = or_off _ _ sharps.0 in
    let l2 = or_off _ _ l3.0 in
    let l1 = or_off _ _ l2.0 in record {
      level-0 = ltb-false _ _ l1.0;
      level-1 = ltb-false _ _ l1.1;
      level-2 = ltb-false _ _ l2.1;
      level-3 = ltb-false _ _ l3.1;
      sharp = ltb-false _ _ sharps.1;
      enabled = ltb-false _ _ fields.1;
      update = ltb-false _ _ second.1;
      ref = λ i g. fit-delta _ _ _ _ (any-each 8 _ first.1 i g);
      mode = λ i g. fit-delta _ _ _ _ (any-each 2 _ all.1 i g);
    }

pub unfit-none : (planes : ℕ) (refs modes : List ℤ) (p : Params) → Fit planes refs modes p → unfit_as false planes refs modes p ≡ false
unfolding unfit_as unfit_fields unfit_levels unfit_deltas
unfit-none planes refs modes p f =
    rw (
      le-ltb 63 _ f.level-0,
      le-ltb 63 _ f.level-1,
      le-ltb _ _ f.level-2,
      le-ltb _ _ f.level-3,
      le-ltb 7 _ f.sharp,
      le-ltb 1 _ f.enabled,
      le-ltb _ _ f.update,
      any_false 8 (λ i. unfit_delta p.delta_update (get_or p.update_ref i 0) (delta refs i) (delta p.ref_delta i)) (λ i h. unfit-not _ _ _ _ (f.ref i h)),
      any_false 2 (λ i. unfit_delta p.delta_update (get_or p.update_mode i 0) (delta modes i) (delta p.mode_delta i)) (λ i h. unfit-not _ _ _ _ (f.mode i h)),
    )
    refl

-- ---- all fields, where no bits are sent

pub record FitOff (p : Params) : Type 0 where
  pub level : (k : ℕ) → k < 4 → get_or p.level k 0 ≡ 0
  pub sharp : p.sharpness ≡ 0
  pub enabled : p.delta_enabled ≡ 0
  pub update : p.delta_update ≡ 0
  pub ref : (i : ℕ) → i < 8 → FitDelta p.delta_update (get_or p.update_ref i 0) (delta default_refs i) (delta p.ref_delta i)
  pub mode : (i : ℕ) → i < 2 → FitDelta p.delta_update (get_or p.update_mode i 0) (delta default_modes i) (delta p.mode_delta i)

zero_of : (n : ℕ) → on n ≡ false → n ≡ 0
zero_of n h = eqb-true n 0 (not-false (eqb n 0) h)

pub four-places : (P : ℕ → Type 0) → P 0 → P 1 → P 2 → P 3 → (k : ℕ) → k < 4 → P k
four-places P a b c d zero h = a
four-places P a b c d (suc zero) h = b
four-places P a b c d (suc (suc zero)) h = c
four-places P a b c d (suc (suc (suc zero))) h = d
four-places P a b c d (suc (suc (suc (suc k)))) h = absurd (omega arith)

pub fit-off : (planes : ℕ) (refs modes : List ℤ) (p : Params) → unfit_as true planes refs modes p ≡ false → FitOff p
unfolding unfit_as unfit_fields unfit_deltas
fit-off planes refs modes p h =
    let all = or_off _ _ h in
    let first = or_off _ _ all.0 in
    let second = or_off _ _ first.0 in
    let enabled = or_off _ _ second.0 in
    let sharps = or_off _ _ enabled.0 in
    let l3 = or_off _ _ sharps.0 in
    let l2 = or_off _ _ l3.0 in
    let l1 = or_off _ _ l2.0 in
    let e = zero_of _ enabled.1 in record {
      level = four-places (λ k. get_or p.level k 0 ≡ 0) (zero_of _ l1.0) (zero_of _ l1.1) (zero_of _ l2.1) (zero_of _ l3.1);
      sharp = zero_of _ sharps.1;
      enabled = e;
      update = omega (arith, e, ltb-false p.delta_enabled p.delta_update second.1);
      ref = λ i g. fit-delta _ _ _ _ (any-each 8 _ first.1 i g);
      mode = λ i g. fit-delta _ _ _ _ (any-each 2 _ all.1 i g);
    }

-- no update bit, and each delta as before
pub unfit-still : (n : ℕ) (us : List ℕ) (ds : List ℤ) → ((i : ℕ) → i < n → get_or us i 0 ≡ 0) → unfit_deltas n 0 us ds ds ≡ false
unfolding unfit_deltas
unfit-still n us ds h =
    any_false n (λ i. unfit_delta 0 (get_or us i 0) (delta ds i) (delta ds i))
    (λ i g. unfit-not 0 _ _ _ (record { most = omega (arith, h i g); stays = λ z. refl; within = λ q. absurd (q (h i g)) }))
