-- The numbers of a call that filters, exactly when.
--   Clear2 .. Clear12     no fault of this number or of a lower one
--   Numbers               a number is given exactly when its fault is there, and none of a lower one; 0 where there is none
use Rattle.std.specs.Prelude.{◌≡◌}
use Rattle.loops.specs.Exactly.{Exactly}
use Rattle.checks.specs.declared.Call.{Call}
use Rattle.checks.specs.Call.{Lent}
use Rattle.checks.specs.Tests.{number}
use Rattle.checks.specs.Faults.{LevelFault, DepthFault, ShapeFault, LengthFault, LevelByteFault, PlaneFault, RowFault, GapFault, MaskFault}

abbrev pub Clear2 : Call → Type 0
Clear2 c = ¬ LevelFault c

abbrev pub Clear3 : Call → Type 0
Clear3 c = (¬ DepthFault c) × Clear2 c

abbrev pub Clear4 : Call → Type 0
Clear4 c = (¬ ShapeFault c) × Clear3 c

abbrev pub Clear7 : Call → Lent → Type 0
Clear7 c m = (¬ LengthFault c m) × Clear4 c

abbrev pub Clear8 : Call → Lent → Type 0
Clear8 c m = (¬ LevelByteFault c m) × Clear7 c m

abbrev pub Clear9 : Call → Lent → Type 0
Clear9 c m = (¬ PlaneFault c m) × Clear8 c m

abbrev pub Clear10 : Call → Lent → Type 0
Clear10 c m = (¬ RowFault c) × Clear9 c m

abbrev pub Clear11 : Call → Lent → Type 0
Clear11 c m = (¬ GapFault c m) × Clear10 c m

abbrev pub Clear12 : Call → Lent → Type 0
Clear12 c m = (¬ MaskFault c m) × Clear11 c m

pub record Numbers : Type 0 where
  pub two : (c : Call) (m : Lent) → Exactly (number c m ≡ 2) (LevelFault c)
  pub three : (c : Call) (m : Lent) → Exactly (number c m ≡ 3) (DepthFault c × Clear2 c)
  pub four : (c : Call) (m : Lent) → Exactly (number c m ≡ 4) (ShapeFault c × Clear3 c)
  pub seven : (c : Call) (m : Lent) → Exactly (number c m ≡ 7) (LengthFault c m × Clear4 c)
  pub eight : (c : Call) (m : Lent) → Exactly (number c m ≡ 8) (LevelByteFault c m × Clear7 c m)
  pub nine : (c : Call) (m : Lent) → Exactly (number c m ≡ 9) (PlaneFault c m × Clear8 c m)
  pub ten : (c : Call) (m : Lent) → Exactly (number c m ≡ 10) (RowFault c × Clear9 c m)
  pub eleven : (c : Call) (m : Lent) → Exactly (number c m ≡ 11) (GapFault c m × Clear10 c m)
  pub twelve : (c : Call) (m : Lent) → Exactly (number c m ≡ 12) (MaskFault c m × Clear11 c m)
  pub zero : (c : Call) (m : Lent) → Exactly (number c m ≡ 0) (Clear12 c m)
