-- A call that is not refused may be done: each filtered plane is stored, and fits the pass, by what the numbers leave.
use mathlib.Core.Path.{◌≡◌}
use mathlib.Core.Logic.{⊎_elim}
use Prim.Native.Nat.{ℕ, ◌^◌, ◌≤◌}
use native.Mathlib.Omega.{arith}
use lib.ListN.{length}
use Rattle.units.proofs.Places.{stored-records}
use Rattle.filter.specs.Ready.{Stored, Fit, Under}
use Rattle.checks.specs.declared.Call.{Call}
use Rattle.checks.specs.Call.{Lent, samples, call_pass, ss-hor, Filtered, luma, chroma-u, chroma-v}
use Rattle.checks.specs.Tests.{number}
use Rattle.checks.proofs.TestsPassed.{sizes, proper}
use Rattle.checks.proofs.Accepted.{accepted-depth, accepted-shape, accepted-lengths, accepted-row, accepted-level, accepted-sample}
use Rattle.checks.proofs.Accepted.{accepted-wide, accepted-high, accepted-keeps, accepted-masks}
use Rattle.apply.specs.Apply.{component_of, Limits, tables_of, Ready, ReadyAt}

plane-le : (c : Call) {plane : ℕ} → Filtered c plane → plane ≤ 2
plane-le c luma = omega arith
plane-le c (chroma-u a b) = omega arith
plane-le c (chroma-v a b) = omega arith

module _ (c : Call) (l : Limits) (m : Lent) (e : number c m ≡ 0) where
  pub deep : (8 ≤ c.depth) × (c.depth ≤ 12)
  deep = ⊎_elim (⊎_elim (λ z. (omega arith, omega arith)) (λ z. (omega arith, omega arith))) (λ z. (omega arith, omega arith)) (accepted-depth c m e)

  module _ {plane : ℕ} (f : Filtered c plane) where
    is-stored : Stored (component_of c plane) (tables_of c l m) (length (samples m plane))
    is-stored =
        let s = accepted-shape c m e in
        let r = accepted-lengths c m e in
        record {
          plane = plane-le c f;
          proper = proper c plane;
          size = sizes c s;
          some = omega (arith, s.width);
          width = omega (arith, s.width);
          height = omega (arith, s.height);
          masks-long = r.masks-long;
          levels-wide = r.width;
          levels-long = r.levels-long;
          stored-wide = accepted-wide c m e f;
          stored-long = accepted-high c m e f;
        }

    fits : Fit (component_of c plane) (tables_of c l m) (call_pass c) c.row
    fits = record { row = accepted-row c m e; levels = accepted-level c m e f; gap = accepted-keeps c m e f; inside = accepted-masks c m e f }

    pub ready : Ready c (tables_of c l m) plane (samples m plane)
    ready = record { shaped = accepted-shape c m e; stored = is-stored; fit = fits }

    pub under : Under (2 ^ c.depth) (component_of c plane) (call_pass c) c.row (samples m plane)
    under =
        record { under = λ x y r from to. accepted-sample c m e f x y (rw (stored-records c.width.0 (ss-hor c plane) (proper c plane).ss-hor-le) r) from to }

    pub ready-at : ReadyAt c (tables_of c l m) plane (samples m plane)
    ready-at = record { ready = ready; deep = deep; under = under }
