-- What is promised of whole frames, in one place.
--     KeptFrame     three planes that keep the rule
--     Promises      the theorems
use Rattle.std.specs.Prelude.{ℕ, ◌≡◌}
use Rattle.plane.specs.Plane.{Plane, luma, chroma, Kept}
use Rattle.plane.specs.Three.{Three}
use Rattle.order.specs.Demand3.{Demand3, Sees, Frame3}

-- a frame whose planes keep the rule, with n superblock rows
pub record KeptFrame (F : Three Plane) (n : ℕ) : Type 0 where
  pub luma-kept : Kept F.luma
  pub u-kept : Kept F.u
  pub v-kept : Kept F.v
  pub luma-is : F.luma.widths ≡ luma
  pub u-is : F.u.widths ≡ chroma
  pub v-is : F.v.widths ≡ chroma
  pub luma-rows : F.luma.sbs ≡ n
  pub u-rows : F.u.sbs ≡ n
  pub v-rows : F.v.sbs ≡ n

pub record Promises : Type 0 where
  -- three planes together
  pub frame : (F : Three Plane) (n : ℕ) → KeptFrame F n → Frame3 F n
  -- the order of the edge pieces does not matter, and superblock rows in turn give the standard's order
  pub order-luma : (P : Plane) → P.widths ≡ luma → Kept P → Demand3 P
  pub order-chroma : (P : Plane) → P.widths ≡ chroma → Kept P → Demand3 P
  -- a result sees 12 samples each way in luma and 4 in chroma
  pub sees-luma : (P : Plane) → P.widths ≡ luma → Kept P → Sees P 12
  pub sees-chroma : (P : Plane) → P.widths ≡ chroma → Kept P → Sees P 4
