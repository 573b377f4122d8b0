-- The gap rule over a whole frame, from what single calls look at.
--   RowsKeep c t       in both passes each line of each superblock row keeps the rule, as the calls look at it: number 11 is not given
--   BoundariesKeep     what no call looks at: an edge on a superblock boundary keeps the rule with its upper neighbour
use Rattle.std.specs.Prelude.{◌≡◌, ℕ, ◌-◌, ◌*◌, ◌<◌}
use Rattle.std.proofs.Math.Option.{some}
use Rattle.plane.specs.Gap.{Neighbours, Allowed}
use Rattle.plane.specs.Line.{Pass, rows}
use Rattle.plane.specs.Plane.{Plane, Boundary, end}
use Rattle.gap.specs.Promises.{Looks, Keeps}
use Rattle.filter.specs.declared.Component.{Component}
use Rattle.filter.specs.Filter.{Tables, grid_of}

pub record RowsKeep (c : Component) (t : Tables) : Type 0 where
  pub keeps : (d : Pass) (k v : ℕ) → k * c.sb4.0 < c.h4.0 → Looks (grid_of c) d c.sb4.0 k v → Keeps (grid_of c) t.masks d c.sb4.0 k v

pub record BoundariesKeep (P : Plane) : Type 0 where
  pub keeps : (v k a cls : ℕ) → P.edge rows (k * P.sb, v) ≡ some cls
      → Neighbours (λ u. P.edge rows (u, v)) (Boundary P rows) (end P rows) a (k * P.sb) → Allowed (k * P.sb - a) cls
