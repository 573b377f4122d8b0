-- Number 24, worked out: the tests fail exactly where one of the listed conditions holds.
use mathlib.Core.Bool.{Bool, true, false, cond, ◌||◌, true≢false}
use mathlib.Core.List.{List}
use mathlib.Core.Logic.{by_cases, ◌⊎◌, inl, inr, ⊎_elim}
use mathlib.Core.Path.{◌≡◌, refl, sym, ◌∙◌}
use Prim.Native.Nat.{ℕ, ◌<◌, ◌≤◌}
use native.Mathlib.Decide.{ℕ_discrete, dec_lt}
use native.Mathlib.Omega.{arith}
use borrow.Author.Tests.{ltb-true, eqb-false, not-true, eq-eqb, ne_eqb}
use lib.Dec.{eqb, ltb}
use lib.IntN.{ℤ, ℤ_discrete}
use lib.ListN.{get_or}
use Rattle.loops.specs.Exactly.{Exactly}
use Rattle.loops.specs.Any.{Below}
use Rattle.loops.specs.Flag.{on}
use Rattle.loops.proofs.Anys.{any_some}
use Rattle.standard.specs.Header.{Given, is_off, has_chroma, default_refs, default_modes}
use Rattle.standard.specs.declared.Params.{Params}
use Rattle.deltas.specs.Deltas.{delta, outside}
use Rattle.deltas.proofs.Range.{reflects-outside}
use Rattle.params_unfit.specs.Unfit.{differ, is_not, unfit_delta, unfit_deltas, unfit_levels, unfit_fields, unfit_as, unfit}
use Rattle.round_trips.specs.Promises.{DeltaFault, bit-above-1, bit-without-update, sent-outside, unsent-changed}
use Rattle.round_trips.specs.Promises.{Unwritable, off-level, off-sharpness, off-enabled, off-update, off-ref-bit, off-mode-bit, off-ref, off-mode}
use Rattle.round_trips.specs.Promises.{level-above-63, chroma-unsent, sharpness-above-7, enabled-above-1, update-above-1, update-not-enabled, ref-fault, mode-fault}
use Rattle.params_unfit.proofs.Fits.{FitDelta, Fit, fit_on, FitOff, four-places, fit-off}

either : (a b : Bool) → (a || b) ≡ true → (a ≡ true) ⊎ (b ≡ true)
either true b h = inl refl
either false b h = inr h

set-of : (n : ℕ) → on n ≡ true → ¬ (n ≡ 0)
set-of n h = eqb-false n 0 (not-true (eqb n 0) h)

-- ---- one delta

apart : (a b : ℤ) → differ a b ≡ true → ¬ (a ≡ b)
apart a b h = go (ℤ_discrete a b) h
  where
    go : (x : Dec (a ≡ b)) → is_not x ≡ true → ¬ (a ≡ b)
    go (yes e) h = absurd (true≢false (sym h))
    go (no n) h = n

fault-of : (m u : ℕ) (b d : ℤ) → unfit_delta m u b d ≡ true → DeltaFault m u b d
unfolding unfit_delta
fault-of m u b d h = ⊎_elim above rest (either (ltb m u) (cond (eqb u 0) (differ d b) (outside 64 d)) h)
  where
    above : ltb m u ≡ true → DeltaFault m u b d
    above l =
        let lt = ltb-true m u l in
        by_cases (dec_lt 1 u) bit-above-1 (λ n. bit-without-update (omega (arith, lt, n)) (λ z. absurd (omega (arith, lt, z))))

    rest : cond (eqb u 0) (differ d b) (outside 64 d) ≡ true → DeltaFault m u b d
    rest r =
        by_cases (ℕ_discrete u 0) (λ z. unsent-changed z (apart d b (rw (eq-eqb u 0 z) at r)))
        (λ n. sent-outside n ((reflects-outside 64 d).yes (rw (ne_eqb u 0 n) at r)))

faultless : (m u : ℕ) (b d : ℤ) → m ≤ 1 → FitDelta m u b d → ¬ DeltaFault m u b d
faultless m u b d h f (bit-above-1 l) = absurd (omega (arith, l, h, f.most))
faultless m u b d h f (bit-without-update z n) = n (omega (arith, z, f.most))
faultless m u b d h f (sent-outside n o) = (reflects-outside 64 d).no (f.within n) o
faultless m u b d h f (unsent-changed z n) = n (f.stays z)

found : (n m : ℕ) (us : List ℕ) (bs ds : List ℤ) → unfit_deltas n m us bs ds ≡ true → Below n (λ i. DeltaFault m (get_or us i 0) (delta bs i) (delta ds i))
unfolding unfit_deltas
found n m us bs ds h =
    let x = any_some n (λ i. unfit_delta m (get_or us i 0) (delta bs i) (delta ds i)) h in
    (x.0, x.1, fault-of m (get_or us x.0 0) (delta bs x.0) (delta ds x.0) x.2)

-- ---- where bits are sent

chroma-most : (t : Bool) (x : ℕ) → x ≤ cond t 63 0 → x ≤ 63
chroma-most true x h = h
chroma-most false x h = omega (arith, h)

pub level-most : (g : Given) (p : Params) → Fit g.planes g.refs g.modes p → (k : ℕ) → k < 4 → get_or p.level k 0 ≤ 63
level-most g p f =
    let t = has_chroma g.planes (get_or p.level 0 0) (get_or p.level 1 0) in
    four-places (λ k. get_or p.level k 0 ≤ 63) f.level-0 f.level-1 (chroma-most t _ f.level-2) (chroma-most t _ f.level-3)

pub chroma-none : (g : Given) (p : Params) → Fit g.planes g.refs g.modes p → has_chroma g.planes (get_or p.level 0 0) (get_or p.level 1 0) ≡ false
    → (k : ℕ) → 2 ≤ k → k < 4 → get_or p.level k 0 ≡ 0
chroma-none g p f q k l h =
    four-places (λ k. 2 ≤ k → get_or p.level k 0 ≡ 0) (λ i. absurd (omega (arith, i))) (λ i. absurd (omega (arith, i))) (λ i. none (get_or p.level 2 0) f.level-2)
    (λ i. none (get_or p.level 3 0) f.level-3) k h l
  where
    none : (x : ℕ) → x ≤ cond (has_chroma g.planes (get_or p.level 0 0) (get_or p.level 1 0)) 63 0 → x ≡ 0
    none x m = let z : x ≤ 0 = rw q at m in omega (arith, z)

module _ (g : Given) (p : Params) (e : is_off g ≡ false) where
  listed-level : unfit_levels g.planes p.level ≡ true → Unwritable g p
  unfolding unfit_levels
  listed-level h =
      ⊎_elim (λ a. ⊎_elim (λ b. ⊎_elim (λ c. level-above-63 e 0 (omega arith) (ltb-true 63 _ c)) (λ c. level-above-63 e 1 (omega arith) (ltb-true 63 _ c)) (either _ _ b))
      (chroma 2 (omega arith) (omega arith)) (either _ _ a)) (chroma 3 (omega arith) (omega arith)) (either _ _ h)
    where
      chroma : (k : ℕ) → 2 ≤ k → k < 4 → ltb (cond (has_chroma g.planes (get_or p.level 0 0) (get_or p.level 1 0)) 63 0) (get_or p.level k 0) ≡ true → Unwritable g p
      chroma k l m t = go (has_chroma g.planes (get_or p.level 0 0) (get_or p.level 1 0)) refl t
        where
          go : (c : Bool) → has_chroma g.planes (get_or p.level 0 0) (get_or p.level 1 0) ≡ c → ltb (cond c 63 0) (get_or p.level k 0) ≡ true → Unwritable g p
          go true q t = level-above-63 e k m (ltb-true 63 _ t)
          go false q t = let lt = ltb-true 0 (get_or p.level k 0) t in chroma-unsent e q k l m (λ z. absurd (omega (arith, lt, z)))

  listed-update : ltb p.delta_enabled p.delta_update ≡ true → Unwritable g p
  listed-update h =
      let lt = ltb-true p.delta_enabled p.delta_update h in
      by_cases (dec_lt 1 p.delta_update) (update-above-1 e) (λ n. update-not-enabled e (omega (arith, lt, n)) (λ z. absurd (omega (arith, lt, z))))

  listed-on : unfit_as false g.planes g.refs g.modes p ≡ true → Unwritable g p
  unfolding unfit_as unfit_fields
  listed-on h =
      ⊎_elim (λ a. ⊎_elim (λ b. ⊎_elim (λ c. ⊎_elim (λ d. ⊎_elim listed-level (λ s. sharpness-above-7 e (ltb-true 7 _ s)) (either _ _ d)) (λ d. enabled-above-1 e (ltb-true 1 _ d)) (either _ _ c))
      listed-update (either _ _ b)) (λ b. let x = found 8 p.delta_update p.update_ref g.refs p.ref_delta b in ref-fault e x.0 x.1 x.2) (either _ _ a))
      (λ a. let x = found 2 p.delta_update p.update_mode g.modes p.mode_delta a in mode-fault e x.0 x.1 x.2) (either _ _ h)

-- ---- where none are

changed : {m u : ℕ} {b d : ℤ} → DeltaFault m u b d → u ≡ 0 → ¬ (d ≡ b)
changed (bit-above-1 l) z = absurd (omega (arith, l, z))
changed (bit-without-update q n) z = absurd (n z)
changed (sent-outside n o) z = absurd (n z)
changed (unsent-changed q n) z = n

module _ (g : Given) (p : Params) (e : is_off g ≡ true) where
  off-refs : unfit_deltas 8 p.delta_update p.update_ref default_refs p.ref_delta ≡ true → Unwritable g p
  off-refs h =
      let x = found 8 p.delta_update p.update_ref default_refs p.ref_delta h in
      by_cases (ℕ_discrete (get_or p.update_ref x.0 0) 0) (λ z. off-ref e x.0 x.1 (changed x.2 z)) (off-ref-bit e x.0 x.1)

  off-modes : unfit_deltas 2 p.delta_update p.update_mode default_modes p.mode_delta ≡ true → Unwritable g p
  off-modes h =
      let x = found 2 p.delta_update p.update_mode default_modes p.mode_delta h in
      by_cases (ℕ_discrete (get_or p.update_mode x.0 0) 0) (λ z. off-mode e x.0 x.1 (changed x.2 z)) (off-mode-bit e x.0 x.1)

  listed-off : unfit_as true g.planes g.refs g.modes p ≡ true → Unwritable g p
  unfolding unfit_as unfit_fields
  listed-off h = ⊎_elim (λ a. ⊎_elim (λ b. ⊎_elim fields more (either _ _ b)) off-refs (either _ _ a)) off-modes (either _ _ h)
    where
      more : ltb p.delta_enabled p.delta_update ≡ true → Unwritable g p
      more t = let lt = ltb-true p.delta_enabled p.delta_update t in off-update e (λ z. absurd (omega (arith, lt, z)))

      fields : (on (get_or p.level 0 0) || on (get_or p.level 1 0) || on (get_or p.level 2 0) || on (get_or p.level 3 0) || on p.sharpness || on p.delta_enabled) ≡ true → Unwritable g p
      fields t =
          ⊎_elim (λ a. ⊎_elim (λ b. ⊎_elim (λ c. ⊎_elim (λ d. ⊎_elim (λ l. off-level e 0 (omega arith) (set-of _ l)) (λ l. off-level e 1 (omega arith) (set-of _ l)) (either _ _ d))
          (λ l. off-level e 2 (omega arith) (set-of _ l)) (either _ _ c)) (λ l. off-level e 3 (omega arith) (set-of _ l)) (either _ _ b)) (λ s. off-sharpness e (set-of _ s)) (either _ _ a))
          (λ a. off-enabled e (set-of _ a)) (either _ _ t)

-- ---- and back

clash : {A : Type 0} (g : Given) → is_off g ≡ true → is_off g ≡ false → A
clash g a b = absurd (true≢false (sym a ∙ b))

none-on : (g : Given) (p : Params) → is_off g ≡ false → Fit g.planes g.refs g.modes p → ¬ Unwritable g p
none-on g p e f (off-level o k h n) = clash g o e
none-on g p e f (off-sharpness o n) = clash g o e
none-on g p e f (off-enabled o n) = clash g o e
none-on g p e f (off-update o n) = clash g o e
none-on g p e f (off-ref-bit o i h n) = clash g o e
none-on g p e f (off-mode-bit o i h n) = clash g o e
none-on g p e f (off-ref o i h n) = clash g o e
none-on g p e f (off-mode o i h n) = clash g o e
none-on g p e f (level-above-63 o k h l) = absurd (omega (arith, l, level-most g p f k h))
none-on g p e f (chroma-unsent o q k l h n) = n (chroma-none g p f q k l h)
none-on g p e f (sharpness-above-7 o l) = absurd (omega (arith, l, f.sharp))
none-on g p e f (enabled-above-1 o l) = absurd (omega (arith, l, f.enabled))
none-on g p e f (update-above-1 o l) = absurd (omega (arith, l, f.update, f.enabled))
none-on g p e f (update-not-enabled o z n) = n (omega (arith, z, f.update))
none-on g p e f (ref-fault o i h d) = faultless _ _ _ _ (omega (arith, f.update, f.enabled)) (f.ref i h) d
none-on g p e f (mode-fault o i h d) = faultless _ _ _ _ (omega (arith, f.update, f.enabled)) (f.mode i h) d

none-off : (g : Given) (p : Params) → is_off g ≡ true → FitOff p → ¬ Unwritable g p
none-off g p e f (off-level o k h n) = n (f.level k h)
none-off g p e f (off-sharpness o n) = n f.sharp
none-off g p e f (off-enabled o n) = n f.enabled
none-off g p e f (off-update o n) = n f.update
none-off g p e f (off-ref-bit o i h n) = n (omega (arith, f.update, (f.ref i h).most))
none-off g p e f (off-mode-bit o i h n) = n (omega (arith, f.update, (f.mode i h).most))
none-off g p e f (off-ref o i h n) = n ((f.ref i h).stays (omega (arith, f.update, (f.ref i h).most)))
none-off g p e f (off-mode o i h n) = n ((f.mode i h).stays (omega (arith, f.update, (f.mode i h).most)))
none-off g p e f (level-above-63 o k h l) = clash g e o
none-off g p e f (chroma-unsent o q k l h n) = clash g e o
none-off g p e f (sharpness-above-7 o l) = clash g e o
none-off g p e f (enabled-above-1 o l) = clash g e o
none-off g p e f (update-above-1 o l) = clash g e o
none-off g p e f (update-not-enabled o z n) = clash g e o
none-off g p e f (ref-fault o i h d) = clash g e o
none-off g p e f (mode-fault o i h d) = clash g e o

pub exactly-unwritable : (g : Given) (p : Params) → Exactly (unfit g p ≡ true) (Unwritable g p)
exactly-unwritable g p = record { only = named (is_off g) refl; always = λ u. seen (unfit g p) refl u }
  where
    named : (o : Bool) → is_off g ≡ o → unfit g p ≡ true → Unwritable g p
    named true e h = listed-off g p e (rw e at h)
    named false e h = listed-on g p e (rw e at h)

    free : (o : Bool) → is_off g ≡ o → unfit g p ≡ false → ¬ Unwritable g p
    free true e h = none-off g p e (fit-off g.planes g.refs g.modes p (rw e at h))
    free false e h = none-on g p e (fit_on g.planes g.refs g.modes p (rw e at h))

    seen : (t : Bool) → unfit g p ≡ t → Unwritable g p → unfit g p ≡ true
    seen true e u = e
    seen false e u = absurd (free (is_off g) refl e u)
