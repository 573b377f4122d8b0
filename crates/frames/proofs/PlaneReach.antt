-- How far a call reaches in each plane: where it is done its pieces write at most 6 samples a side and read 7, in chroma 2 and 3; a refused call changes nothing.
use mathlib.Core.Path.{◌≡◌, refl, sym, ap, ◌∙◌}
use mathlib.Core.Bool.{Bool, true}
use mathlib.Core.List.{List}
use mathlib.Core.Logic.{by_cases}
use Prim.Native.Nat.{ℕ, zero, suc, ◌≤◌}
use native.Mathlib.Decide.{ℕ_discrete}
use native.Mathlib.Omega.{arith}
use lib.ListN.{length, get_or}
use Rattle.plane.specs.Line.{Pass}
use Rattle.plane.specs.Plane as plane
use Rattle.plane.specs.Plane.{Plane}
use Rattle.plane.specs.Three.{Three}
use Rattle.filter.specs.declared.Component.{Component}
use Rattle.filter.specs.Filter.{Tables, plane_of, sweep_of}
use Rattle.checks.specs.Call.{chroma_on, luma}
use Rattle.checks.proofs.Accepted.{filtered-u, filtered-v}
use Rattle.apply.specs.Apply.{shown}
use Rattle.frames.specs.Within.{WithinRow, Agree}
use Rattle.frames.specs.Calls.{Frame, call_at, answer, after, planes}
use Rattle.frames.specs.Promises.{Reaches}
use Rattle.frames.proofs.CallReach.{sweep-outside, sweep-inside}
use Rattle.frames.proofs.Sweeps.{shown_case}
use Rattle.frames.proofs.NumbersKept.{Done, done, sweep_call, after-done, after-refused}

-- one plane, in a call that is done
record Near (P : Plane) (w r : ℕ) (d : Pass) (k : ℕ) (s : List ℕ) (g : List ℕ → List ℕ) : Type 0 where
  changes : (i : ℕ) → ¬ WithinRow P w d k i → get_or (g s) i 0 ≡ get_or s i 0
  sees : (t : List ℕ) → Agree P r d k s t → Agree P r d k (g s) (g t)

near : (c : Component) (t : Tables) (w r : ℕ) → ((cls : ℕ) → (plane_of c t).widths.writes cls ≤ w) → ((cls : ℕ) → (plane_of c t).widths.reads cls ≤ r)
    → (d : Pass) (k : ℕ) (s : List ℕ) → Done c t d k s → Near (plane_of c t) w r d k s (sweep_of (plane_of c t) d k)
near c t w r few far d k s o =
    record {
      changes = sweep-outside c t (length s) o.stored k d o.fit w few s;
      sees = sweep-inside c t (length s) o.stored k d o.fit r far s;
    }

near-shown : (P : Plane) (w r : ℕ) (d : Pass) (k : ℕ) (s : List ℕ) (on : Bool) → (on ≡ true → Near P w r d k s (sweep_of P d k))
    → Near (shown on P) w r d k s (sweep_of (shown on P) d k)
near-shown P w r d k s on h = shown_case P d k (λ R g. Near R w r d k s g) on h (record { changes = λ i _. refl; sees = λ t a. a })

-- ---- a call

module _ (f : Frame) (P : Plane) (part : Three (List ℕ) → List ℕ) (w r : ℕ)
    (is : (d : Pass) (k : ℕ) (s : Three (List ℕ)) → part (sweep_call (planes f) d k s) ≡ sweep_of P d k (part s))
    (h : (d : Pass) (k : ℕ) (s : Three (List ℕ)) → answer f d k s ≡ 0 → Near P w r d k (part s) (sweep_of P d k)) where
  part-done : (d : Pass) (k : ℕ) (s : Three (List ℕ)) → answer f d k s ≡ 0 → part (after f d k s) ≡ sweep_of P d k (part s)
  part-done d k s e = ap part (after-done f k s d e) ∙ is d k s

  part-refused : (d : Pass) (k : ℕ) (s : Three (List ℕ)) → ¬ (answer f d k s ≡ 0) → part (after f d k s) ≡ part s
  part-refused d k s n = ap part (after-refused f k s d n)

  reaches : Reaches f P part w r
  reaches =
      record {
        changes = λ d k s i n. by_cases (ℕ_discrete (answer f d k s) 0) (λ e. ap (λ l. get_or l i 0) (part-done d k s e) ∙ (h d k s e).changes i n)
            (λ m. ap (λ l. get_or l i 0) (part-refused d k s m));
        sees = λ d k s t e a. by_cases (ℕ_discrete (answer f d k s) 0)
            (λ z. rw (part-done d k s z, part-done d k t (sym e ∙ z)) ((h d k s z).sees (part t) a))
            (λ m. rw (part-refused d k s m, part-refused d k t (λ z. m (e ∙ z))) a);
      }

-- the widest class writes and reads farthest
luma-writes : (w : ℕ) → (plane.luma).writes 2 ≤ w → (cls : ℕ) → (plane.luma).writes cls ≤ w
luma-writes w h zero = omega arith
luma-writes w h (suc zero) = omega arith
luma-writes w h (suc (suc cls)) = omega arith

luma-reads : (r : ℕ) → (plane.luma).reads 2 ≤ r → (cls : ℕ) → (plane.luma).reads cls ≤ r
luma-reads r h zero = omega arith
luma-reads r h (suc zero) = omega arith
luma-reads r h (suc (suc cls)) = omega arith

chroma-reads : (r : ℕ) → (plane.chroma).reads 1 ≤ r → (cls : ℕ) → (plane.chroma).reads cls ≤ r
chroma-reads r h zero = omega arith
chroma-reads r h (suc cls) = omega arith

pub luma-reach : (f : Frame) (w r : ℕ) → (plane.luma).writes 2 ≤ w → (plane.luma).reads 2 ≤ r → Reaches f (planes f).luma (λ s. s.luma) w r
luma-reach f w r a b =
    reaches f (planes f).luma (λ s. s.luma) w r (λ d k s. refl)
    (λ d k s e. near _ _ w r (luma-writes w a) (luma-reads r b) d k s.luma (done f k s d e luma))

module _ (f : Frame) (w r : ℕ) (a : (plane.chroma).writes 1 ≤ w) (b : (plane.chroma).reads 1 ≤ r) where
  pub u-reach : Reaches f (planes f).u (λ s. s.u) w r
  u-reach =
      reaches f (planes f).u (λ s. s.u) w r (λ d k s. refl)
      (λ d k s e. near-shown _ w r d k s.u (chroma_on f.head)
      (λ o. near _ _ w r (λ cls. a) (chroma-reads r b) d k s.u (done f k s d e (filtered-u (call_at f d k) o))))

  pub v-reach : Reaches f (planes f).v (λ s. s.v) w r
  v-reach =
      reaches f (planes f).v (λ s. s.v) w r (λ d k s. refl)
      (λ d k s e. near-shown _ w r d k s.v (chroma_on f.head)
      (λ o. near _ _ w r (λ cls. a) (chroma-reads r b) d k s.v (done f k s d e (filtered-v (call_at f d k) o))))
