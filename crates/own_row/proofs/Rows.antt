-- What a call leaves is told by what it looks at: an accepted one does its pass over each filtered plane, which sees and changes no sample farther; a refused one keeps all.
use mathlib.Core.Path.{◌≡◌, refl, sym, ap, ◌∙◌}
use mathlib.Core.Bool.{Bool, true, false, cond}
use mathlib.Core.List.{List}
use mathlib.Core.Logic.{by_cases}
use Prim.Native.Nat.{ℕ, zero, suc, ◌/◌, ◌%◌, ◌≤◌, ◌<◌}
use native.Mathlib.Decide.{ℕ_discrete}
use native.Mathlib.Nat.{div-add-mod'}
use native.Mathlib.Numerals.{add-one}
use native.Mathlib.Omega.{arith}
use lib.Arith.{digits_div, digits_mod}
use lib.Dec.{eqb}
use borrow.Author.Tests.{ne_eqb}
use lib.ListN.{length, get_or}
use Rattle.loops.specs.Exactly.{Reflects}
use Rattle.plane.specs.Line.{columns, rows}
use Rattle.plane.specs.Plane.{Plane, cols_of, rows_of}
use Rattle.plane.specs.Three.{Three}
use Rattle.units.specs.Frame.{stored}
use Rattle.units.proofs.Places.{stored-records}
use Rattle.filter.specs.Filter.{sweep_of}
use Rattle.filter.proofs.Sweeps as sweeps
use Rattle.checks.specs.declared.Call.{Call}
use Rattle.checks.specs.Call.{Lent, samples, call_pass, ss-hor, stride_of, chroma_on, Filtered, luma, chroma-u, chroma-v}
use Rattle.checks.specs.Tests.{number}
use Rattle.checks.proofs.TestsPassed.{sizes, proper}
use Rattle.checks.proofs.Accepted.{accepted-shape, accepted-stride}
use Rattle.checks.proofs.FaultTests.{reflects-on}
use Rattle.apply.specs.Apply.{Limits, component_of, tables_of, plane_at, three_of, FilterAnswer}
use Rattle.apply.specs.Promises.{passed}
use Rattle.apply.proofs.Laws as apply
use Rattle.apply.proofs.ReadyPlanes.{ready}
use Rattle.apply.proofs.Laws.{FiltersChroma, u-filters, v-filters}
use Rattle.frames.specs.Within.{WithinRow, Agree}
use Rattle.frames.proofs.CallReach.{fair, sweep-outside, sweep-inside}
use Rattle.own_row.specs.Own.{OwnSample, SameSamples, SameTables, SameLent, with_samples}
use Rattle.own_row.proofs.Numbers.{number_same}
use Rattle.own_row.proofs.Passes.{sweep-same}

passed_is : (c : Call) (P : Plane) (x : List ℕ) → passed c P x ≡ sweep_of P (call_pass c) c.row x
passed_is c P x = go c.rowwise
  where
    go : (b : Bool) → cond b (rows_of P c.row x) (cols_of P c.row x) ≡ sweep_of P (cond b rows columns) c.row x
    go true = sym ((sweeps.promises).rows_are P c.row x)
    go false = sym ((sweeps.promises).columns-are P c.row x)

-- ---- the samples that a call sees, by their index

module _ (c : Call) (l : Limits) (m : Lent) (n : ℕ) where
  within-seen : (i : ℕ) → WithinRow (plane_at c l m n) 8 (call_pass c) c.row i → OwnSample c n i
  within-seen i w =
      record {
        x = i % stride_of c n;
        y = i / stride_of c n;
        at = sym (div-add-mod' i (stride_of c n));
        right = rw (stored-records c.width.0 (ss-hor c n) (proper c n).ss-hor-le) w.right;
        from = w.from;
        to = rw add-one w.to;
      }

  seen-within : stored c.width.0 (ss-hor c n) ≤ stride_of c n → (i : ℕ) → OwnSample c n i → WithinRow (plane_at c l m n) 8 (call_pass c) c.row i
  seen-within h i s =
      let x : s.x < stride_of c n = omega (arith, s.right) in
      let a : i % stride_of c n ≡ s.x = ap (λ (j : ℕ). j % stride_of c n) s.at ∙ digits_mod s.y x in
      let b : i / stride_of c n ≡ s.y = ap (λ (j : ℕ). j / stride_of c n) s.at ∙ digits_div s.y x in
      record {
        right = rw a (rw (stored-records c.width.0 (ss-hor c n) (proper c n).ss-hor-le) at s.right);
        from = rw b s.from;
        to = rw b (rw add-one at s.to);
      }

-- ---- the pass of an accepted call

module _ (c : Call) (l : Limits) (m : Lent) (e : number c m ≡ 0) {n : ℕ} (f : Filtered c n) where
  pub pass_same : (m' : Lent) → SameTables c m.levels m'.levels m.masks m'.masks → (x : List ℕ)
      → passed c (plane_at c l m n) x ≡ passed c (plane_at c l m' n) x
  pass_same m' s x =
      passed_is c (plane_at c l m n) x
      ∙ sweep-same (component_of c n) (proper c n) (sizes c (accepted-shape c m e)) (call_pass c) c.row c.depth l.e l.i
      m.levels m'.levels m.masks m'.masks (s.levels n f) (s.bits n f) x
      ∙ sym (passed_is c (plane_at c l m' n) x)

  pass-sees : (x y : List ℕ) → SameSamples c n x y → SameSamples c n (passed c (plane_at c l m n) x) (passed c (plane_at c l m n) y)
  pass-sees x y s =
      rw (passed_is c (plane_at c l m n) x, passed_is c (plane_at c l m n) y)
      (record { long = a.long; same = λ i h. a.same i (seen-within c l m n (accepted-stride c m e f) i h) })
    where
      a : Agree (plane_at c l m n) 8 (call_pass c) c.row (sweep_of (plane_at c l m n) (call_pass c) c.row x) (sweep_of (plane_at c l m n) (call_pass c) c.row y)
      a =
          let r = ready c l m e f in
          sweep-inside (component_of c n) (tables_of c l m) (length (samples m n)) r.stored c.row (call_pass c) r.fit 8 (fair (eqb n 0)).reach.any x y
          (record { long = s.long; same = λ i w. s.same i (within-seen c l m n i w) })

  pass-keeps : (x : List ℕ) (i : ℕ) → ¬ OwnSample c n i → get_or (passed c (plane_at c l m n) x) i 0 ≡ get_or x i 0
  pass-keeps x i h =
      let r = ready c l m e f in
      ap (λ z. get_or z i 0) (passed_is c (plane_at c l m n) x)
      ∙ sweep-outside (component_of c n) (tables_of c l m) (length (samples m n)) r.stored c.row (call_pass c) r.fit 8 few x i (λ w. h (within-seen c l m n i w))
    where
      few : (cls : ℕ) → (plane_at c l m n).widths.writes cls ≤ 8
      few cls = let w = fair (eqb n 0) in omega (arith, w.fewer cls, w.reach.any cls)

-- ---- whether chroma is filtered

module _ (c : Call) where
  dec-chroma : Dec (FiltersChroma c)
  dec-chroma = go (chroma_on c) (reflects-on c)
    where
      go : (b : Bool) → Reflects b (FiltersChroma c) → Dec (FiltersChroma c)
      go true r = yes (r.yes refl)
      go false r = no (r.no refl)

  dec-u : Dec (Filtered c 1)
  dec-u = by_cases dec-chroma (λ p. yes (chroma-u p.0 p.1)) (λ n. no (λ f. n (u-filters c f)))

  dec-v : Dec (Filtered c 2)
  dec-v = by_cases dec-chroma (λ p. yes (chroma-v p.0 p.1)) (λ n. no (λ f. n (v-filters c f)))

-- ---- an answer

module _ (c : Call) (l : Limits) (m : Lent) (r : ℕ) (s : Three (List ℕ)) (a : FilterAnswer c l m r s) where
  accepted : r ≡ 0 → number c m ≡ 0
  accepted e = sym a.code ∙ e

  left-done : {n : ℕ} → Filtered c n → r ≡ 0 → samples (with_samples m s) n ≡ passed c (plane_at c l m n) (samples m n)
  left-done luma e = ((apply.promises).each c l m r s a).luma e
  left-done (chroma-u x y) e = ((apply.promises).each c l m r s a).u e (chroma-u x y)
  left-done (chroma-v x y) e = ((apply.promises).each c l m r s a).v e (chroma-v x y)

  left-refused : (n : ℕ) → ¬ (r ≡ 0) → samples (with_samples m s) n ≡ samples m n
  left-refused n z = ap (λ t. samples (with_samples m t) n) (((apply.promises).each c l m r s a).refused z)

  -- a plane that is filtered, and not
  left-keeps : {n : ℕ} → Filtered c n → (i : ℕ) → ¬ OwnSample c n i → get_or (samples (with_samples m s) n) i 0 ≡ get_or (samples m n) i 0
  left-keeps {n} f i h =
      by_cases (ℕ_discrete r 0) (λ e. ap (λ z. get_or z i 0) (left-done f e) ∙ pass-keeps c l m (accepted e) f (samples m n) i h)
      (λ z. ap (λ z. get_or z i 0) (left-refused n z))

  pub others : (n i : ℕ) → ¬ OwnSample c n i → get_or (samples (with_samples m s) n) i 0 ≡ get_or (samples m n) i 0
  others zero i h = left-keeps luma i h
  others (suc zero) i h = by_cases (dec-u c) (λ f. left-keeps f i h) (λ n. ap (λ z. get_or z i 0) (((apply.promises).each c l m r s a).u-stays n))
  others (suc (suc n)) i h =
      let e : eqb (suc (suc n)) 0 ≡ false = ne_eqb (suc (suc n)) 0 (λ z. omega arith) in
      by_cases (dec-v c)
      (λ f. left-keeps f i
      (λ x. h (record { x = x.x; y = x.y; at = rw e x.at; right = rw e x.right; from = rw e x.from; to = rw e x.to })))
      (λ n. ap (λ z. get_or z i 0) (((apply.promises).each c l m r s a).v-stays n))

-- ---- two answers

module _ (c : Call) (l : Limits) (m m' : Lent) (r r' : ℕ) (s s' : Three (List ℕ)) where
  codes : SameLent c m m' → FilterAnswer c l m r s → FilterAnswer c l m' r' s' → r ≡ r'
  codes x a b = a.code ∙ number_same c m m' x ∙ sym b.code

  pub row : SameLent c m m' → FilterAnswer c l m r s → FilterAnswer c l m' r' s' → (r ≡ r') × SameLent c (with_samples m s) (with_samples m' s')
  row x a b = (e, record { tables = x.tables; samples = λ n f. by_cases (ℕ_discrete r 0) (done n f) (refused n f) })
    where
      e : r ≡ r'
      e = codes x a b

      done : (n : ℕ) → Filtered c n → r ≡ 0 → SameSamples c n (samples (with_samples m s) n) (samples (with_samples m' s') n)
      done n f z =
          let k = accepted c l m r s a z in
          let y : samples (with_samples m' s') n ≡ passed c (plane_at c l m n) (samples m' n) =
          left-done c l m' r' s' b f (sym e ∙ z) ∙ sym (pass_same c l m k f m' x.tables (samples m' n)) in
          rw (left-done c l m r s a f z, y) (pass-sees c l m k f (samples m n) (samples m' n) (x.samples n f))

      refused : (n : ℕ) → Filtered c n → ¬ (r ≡ 0) → SameSamples c n (samples (with_samples m s) n) (samples (with_samples m' s') n)
      refused n f z = rw (left-refused c l m r s a n z, left-refused c l m' r' s' b n (λ w. z (e ∙ w))) (x.samples n f)

  pub tables : three_of m ≡ three_of m' → SameTables c m.levels m'.levels m.masks m'.masks
      → FilterAnswer c l m r s → FilterAnswer c l m' r' s' → (r ≡ r') × (s ≡ s')
  tables p t a b = (e, by_cases (ℕ_discrete r 0) done refused)
    where
      lent : (n : ℕ) → samples m n ≡ samples m' n
      lent zero = ap (λ q. q.luma) p
      lent (suc zero) = ap (λ q. q.u) p
      lent (suc (suc n)) = ap (λ q. q.v) p

      same : SameLent c m m'
      same = record { tables = t; samples = λ n f. record { long = ap length (lent n); same = λ i _. ap (λ z. get_or z i 0) (lent n) } }

      e : r ≡ r'
      e = codes same a b

      filtered : {n : ℕ} → Filtered c n → r ≡ 0 → samples (with_samples m s) n ≡ samples (with_samples m' s') n
      filtered {n} f z =
          left-done c l m r s a f z
          ∙ pass_same c l m (accepted c l m r s a z) f m' t (samples m n)
          ∙ ap (passed c (plane_at c l m' n)) (lent n)
          ∙ sym (left-done c l m' r' s' b f (sym e ∙ z))

      done : r ≡ 0 → s ≡ s'
      done z =
          let y = filtered luma z in
          let u : s.u ≡ s'.u = by_cases (dec-u c) (λ f. filtered f z)
          (λ n. ((apply.promises).each c l m r s a).u-stays n ∙ lent 1 ∙ sym (((apply.promises).each c l m' r' s' b).u-stays n)) in
          let v : s.v ≡ s'.v = by_cases (dec-v c) (λ f. filtered f z)
          (λ n. ((apply.promises).each c l m r s a).v-stays n ∙ lent 2 ∙ sym (((apply.promises).each c l m' r' s' b).v-stays n)) in
          λ q. record { luma = y q; u = u q; v = v q }

      refused : ¬ (r ≡ 0) → s ≡ s'
      refused z = ((apply.promises).each c l m r s a).refused z ∙ p ∙ sym (((apply.promises).each c l m' r' s' b).refused (λ w. z (e ∙ w)))
