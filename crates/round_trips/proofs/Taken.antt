-- What was read is taken on: its sharpness is at most 7, its levels at most 63, and each delta was sent within its range or is one from before.
use mathlib.Core.Bool.{Bool, true, false}
use mathlib.Core.List.{List}
use mathlib.Core.Logic.{by_cases, ◌⊎◌, inl, inr}
use mathlib.Core.Path.{◌≡◌, refl, ap, subst, ◌∙◌}
use Prim.Native.Nat.{ℕ, zero, suc, ◌+◌, ◌*◌, ◌<◌, ◌≤◌}
use native.Mathlib.Decide.{ℕ_discrete}
use native.Mathlib.Omega.{arith}
use borrow.Author.Tests.{le-ltb}
use lib.IntN.{ℤ}
use lib.ListN.{get_or}
use Rattle.standard.specs.Header.{Given, is_off, default_refs, default_modes}
use Rattle.standard.specs.declared.Params.{Params}
use Rattle.units.specs.Layout.{Layout}
use Rattle.deltas.specs.Deltas.{delta, outside, Outside}
use Rattle.deltas.proofs.Range.{reflects-outside}
use Rattle.limits.specs.Limits.{limits_of}
use Rattle.levels.specs.Levels.{LevelsIn, levels_in, levels_number}
use Rattle.levels.specs.Promises.{LevelFault, base-above-63, ref-outside, mode-outside, lf-outside, seg-outside, chroma-at-400}
use Rattle.levels.proofs.Numbers.{exactly-0}
use Rattle.params_unfit.specs.Unfit.{unfit}
use Rattle.params_unfit.proofs.Fits.{FitDelta, Fit, fit_on, FitOff, fit-off}
use Rattle.round_trips.proofs.Listed.{level-most, chroma-none}

-- ---- the fields of what was read

record Fields (g : Given) (p : Params) : Type 0 where
  sharp : p.sharpness ≤ 7
  levels : (k : ℕ) → k < 4 → get_or p.level k 0 ≤ 63
  chroma : g.planes ≤ 1 → (k : ℕ) → 2 ≤ k → k < 4 → get_or p.level k 0 ≡ 0
  ref : (i : ℕ) → i < 8 → (outside 64 (delta p.ref_delta i) ≡ false) ⊎ (delta p.ref_delta i ≡ delta g.refs i)
  mode : (i : ℕ) → i < 2 → (outside 64 (delta p.mode_delta i) ≡ false) ⊎ (delta p.mode_delta i ≡ delta g.modes i)

kept-or-sent : (m u : ℕ) (b d : ℤ) → FitDelta m u b d → (outside 64 d ≡ false) ⊎ (d ≡ b)
kept-or-sent m u b d f = by_cases (ℕ_discrete u 0) (λ z. inr (f.stays z)) (λ n. inl (f.within n))

default-ref : (i : ℕ) → i < 8 → outside 64 (delta default_refs i) ≡ false
unfolding outside
default-ref zero h = refl
default-ref (suc zero) h = refl
default-ref (suc (suc zero)) h = refl
default-ref (suc (suc (suc zero))) h = refl
default-ref (suc (suc (suc (suc zero)))) h = refl
default-ref (suc (suc (suc (suc (suc zero))))) h = refl
default-ref (suc (suc (suc (suc (suc (suc zero)))))) h = refl
default-ref (suc (suc (suc (suc (suc (suc (suc zero))))))) h = refl
default-ref (suc (suc (suc (suc (suc (suc (suc (suc i)))))))) h = absurd (omega arith)

default-mode : (i : ℕ) → i < 2 → outside 64 (delta default_modes i) ≡ false
unfolding outside
default-mode zero h = refl
default-mode (suc zero) h = refl
default-mode (suc (suc i)) h = absurd (omega arith)

fields-off : (g : Given) (p : Params) → FitOff p → Fields g p
fields-off g p f = record {
  sharp = omega (arith, f.sharp);
  levels = λ k h. omega (arith, f.level k h);
  chroma = λ one k l h. f.level k h;
  ref = λ i h. inl (ap (outside 64) ((f.ref i h).stays (omega (arith, f.update, (f.ref i h).most))) ∙ default-ref i h);
  mode = λ i h. inl (ap (outside 64) ((f.mode i h).stays (omega (arith, f.update, (f.mode i h).most))) ∙ default-mode i h);
}

fields-on : (g : Given) (p : Params) → Fit g.planes g.refs g.modes p → Fields g p
fields-on g p f = record {
  sharp = f.sharp;
  levels = level-most g p f;
  chroma = λ one. chroma-none g p f (rw (le-ltb 1 g.planes one) refl);
  ref = λ i h. kept-or-sent _ _ _ _ (f.ref i h);
  mode = λ i h. kept-or-sent _ _ _ _ (f.mode i h);
}

fields : (g : Given) (p : Params) → unfit g p ≡ false → Fields g p
fields g p h = go (is_off g) refl
  where
    go : (o : Bool) → is_off g ≡ o → Fields g p
    go true e = fields-off g p (fit-off g.planes g.refs g.modes p (rw e at h))
    go false e = fields-on g p (fit_on g.planes g.refs g.modes p (rw e at h))

-- ---- what takes them

pub taken-limits : (g : Given) (p : Params) → unfit g p ≡ false → (limits_of p.sharpness).number ≡ 0
unfolding limits_of
taken-limits g p h = rw (le-ltb 7 p.sharpness (fields g p h).sharp) refl

inside : (d b : ℤ) → (outside 64 d ≡ false) ⊎ (d ≡ b) → ¬ Outside 64 b → ¬ Outside 64 d
inside d b (inl e) n o = (reflects-outside 64 d).no e o
inside d b (inr e) n o = n (subst (Outside 64) e o)

module _ (g : Given) (p : Params) (h : unfit g p ≡ false) (layout multi segmentation : ℕ) (lf seg : List ℤ)
    (one : layout ≡ 400 → g.planes ≤ 1)
    (refs : (i : ℕ) → i < 8 → ¬ Outside 64 (delta g.refs i)) (modes : (i : ℕ) → i < 2 → ¬ Outside 64 (delta g.modes i))
    (lfs : (k : ℕ) → k < 4 → ¬ Outside 63 (delta lf k)) (segs : (i : ℕ) → i < 32 → ¬ Outside 63 (delta seg i)) where
  abbrev values : LevelsIn
  values = levels_in p.level p.delta_enabled p.ref_delta p.mode_delta multi lf segmentation seg

  faultless : ¬ LevelFault layout values
  faultless (base-above-63 k l m) = absurd (omega (arith, m, (fields g p h).levels k l))
  faultless (ref-outside i l o) = inside _ _ ((fields g p h).ref i l) (refs i l) o
  faultless (mode-outside i l o) = inside _ _ ((fields g p h).mode i l) (modes i l) o
  faultless (lf-outside k l o) = lfs k l o
  faultless (seg-outside s k l m o) = segs (s * 4 + k) (omega arith) o
  faultless (chroma-at-400 k l m n e) = n ((fields g p h).chroma (one e) k l m)

  pub taken-levels : Layout layout → levels_number layout values ≡ 0
  taken-levels l = (exactly-0 layout values).always (l, faultless)
