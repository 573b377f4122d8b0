-- What document 01 promises of the calls that filter, as theorems on their contract alone.
--   passed c P s     plane P after the pass of the call over superblock row `row`
--   Promised         of one answer
--   Promises         of all
use Rattle.std.specs.Prelude.{cond, List, ◌≡◌, ℕ}
use Rattle.loops.specs.Exactly.{Exactly}
use Rattle.plane.specs.Plane.{Plane, cols_of, rows_of}
use Rattle.plane.specs.Three.{Three}
use Rattle.checks.specs.declared.Call.{Call}
use Rattle.checks.specs.Call.{Lent, Filtered}
use Rattle.checks.specs.Faults.{LevelFault, DepthFault, ShapeFault, LengthFault, LevelByteFault, PlaneFault, RowFault, GapFault, MaskFault}
use Rattle.checks.specs.Promises.{Clear2, Clear3, Clear4, Clear7, Clear8, Clear9, Clear10, Clear11, Clear12}
use Rattle.apply.specs.Apply.{Limits, plane_at, three_of, FilterAnswer}

abbrev pub passed : Call → Plane → List ℕ → List ℕ
passed c P s = cond c.rowwise (rows_of P c.row s) (cols_of P c.row s)

pub record Promised (c : Call) (l : Limits) (m : Lent) (r : ℕ) (after : Three (List ℕ)) : Type 0 where
  -- the numbers, exactly when; of several the lowest
  pub two : Exactly (r ≡ 2) (LevelFault c)
  pub three : Exactly (r ≡ 3) (DepthFault c × Clear2 c)
  pub four : Exactly (r ≡ 4) (ShapeFault c × Clear3 c)
  pub seven : Exactly (r ≡ 7) (LengthFault c m × Clear4 c)
  pub eight : Exactly (r ≡ 8) (LevelByteFault c m × Clear7 c m)
  pub nine : Exactly (r ≡ 9) (PlaneFault c m × Clear8 c m)
  pub ten : Exactly (r ≡ 10) (RowFault c × Clear9 c m)
  pub eleven : Exactly (r ≡ 11) (GapFault c m × Clear10 c m)
  pub twelve : Exactly (r ≡ 12) (MaskFault c m × Clear11 c m)
  pub zero : Exactly (r ≡ 0) (Clear12 c m)
  -- a refusal changes no sample
  pub refused : ¬ (r ≡ 0) → after ≡ three_of m
  -- an accepted call does its pass over luma, and over U and V where chroma is filtered
  pub luma : r ≡ 0 → after.luma ≡ passed c (plane_at c l m 0) m.luma
  pub u : r ≡ 0 → Filtered c 1 → after.u ≡ passed c (plane_at c l m 1) m.u
  pub v : r ≡ 0 → Filtered c 2 → after.v ≡ passed c (plane_at c l m 2) m.v
  -- elsewhere they stay
  pub u-stays : ¬ Filtered c 1 → after.u ≡ m.u
  pub v-stays : ¬ Filtered c 2 → after.v ≡ m.v

pub record Promises : Type 0 where
  -- uniqueness: two answers that the contract admits are equal
  pub unique : (c : Call) (l : Limits) (m : Lent) (r q : ℕ) (a b : Three (List ℕ)) → FilterAnswer c l m r a → FilterAnswer c l m q b → (r ≡ q) × (a ≡ b)
  pub each : (c : Call) (l : Limits) (m : Lent) (r : ℕ) (after : Three (List ℕ)) → FilterAnswer c l m r after → Promised c l m r after
