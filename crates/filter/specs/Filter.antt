-- One plane of a frame, from what the calls that filter are lent; and one pass over a superblock row of it, for both passes at once.
--   Tables                   depth, level bytes, masks, and the limit table's e and i
--   tables                   of these
--   grid_of c                 the plane's units
--   area_of c d               its level byte in a pass: 0 luma columns, 1 luma rows, 2 U, 3 V
--   level_in c t d p          the level byte of the unit p
--   before p                 the unit before the edge at p
--   level_of c t d p          the level used there
--   change_at t len lvl l     what a piece of a width does to a line at a level: nothing at level 0
--   rule_of c t d cls p       that of the piece at p
--   plane_of c t              the plane
--   first_across, first_along, across, along, sweep_of   cols_of and rows_of in one: in each record the units across the pass, at each the units along it
use Rattle.std.specs.Prelude.{cond, List, [], ℕ, suc, ◌+◌, ◌-◌, ◌*◌, eqb, get_or}
use Rattle.loops.specs.Run.{up_to}
use Rattle.plane.specs.Line.{Pass, columns, rows, Piece, Change, pass_no}
use Rattle.plane.specs.Plane.{Plane, luma, chroma, act, right, down}
use Rattle.units.specs.Frame.{records, superblocks}
use Rattle.units.specs.Memory.{level_at}
use Rattle.units.specs.Units.{chroma_unit}
use Rattle.edges.specs.Edges.{Grid, side, edge}
use Rattle.line.specs.Rule.{rule}
use Rattle.view.specs.Level.{level_used}
use Rattle.walk.specs.Walk.{thresholds, width_of}
use Rattle.filter.specs.declared.Component.{Component}

pub record Tables : Type 0 where
  pub depth : ℕ
  pub levels : List ℕ
  pub masks : List ℕ
  pub e : List ℕ
  pub i : List ℕ

abbrev pub tables : ℕ → List ℕ → List ℕ → List ℕ → List ℕ → Tables
tables depth levels masks e i = record { depth = depth; levels = levels; masks = masks; e = e; i = i }

abbrev pub grid_of : Component → Grid
grid_of c = record { luma = eqb c.plane 0; ss-hor = c.ss_hor; ss-ver = c.ss_ver; w4 = c.w4.0; h4 = c.h4.0 }

abbrev pub area_of : Component → Pass → ℕ
area_of c d = cond (eqb c.plane 0) (pass_no d) (suc c.plane)

abbrev pub level_in : Component → Tables → Pass → Piece → ℕ
level_in c t d p = get_or t.levels (level_at c.level_stride (right d p) (down d p) (area_of c d)) 0

abbrev pub before : Piece → Piece
before p = (p.0 - 1, p.1)

abbrev pub level_of : Component → Tables → Pass → Piece → ℕ
level_of c t d p = level_used (level_in c t d p) (level_in c t d (before p))

-- at a level, in a line of a width
abbrev pub change_at : Tables → ℕ → ℕ → List ℕ → Change
change_at t len lvl l = cond (eqb lvl 0) (record { side = 0; samples = [] }) ((rule len (thresholds t.depth t.e t.i lvl)).rule l)

abbrev pub rule_of : Component → Tables → Pass → ℕ → Piece → List ℕ → Change
rule_of c t d cls p = change_at t (width_of c.plane cls) (level_of c t d p)

abbrev pub plane_of : Component → Tables → Plane
plane_of c t =
    record {
      stride = c.stride;
      record_units = side (grid_of c) columns;
      records = records c.w4.0;
      sb = chroma_unit c.ss_ver c.sb4.0;
      sbs = superblocks c.h4.0 c.sb4.0;
      height = records c.h4.0 * side (grid_of c) rows;
      widths = cond (eqb c.plane 0) luma chroma;
      edge = edge (grid_of c) t.masks;
      rule = rule_of c t;
    }

module _ (P : Plane) where
  abbrev pub first_across : Pass → ℕ → ℕ → ℕ
  first_across columns k rec = rec * P.record_units
  first_across rows k rec = k * P.sb

  abbrev pub first_along : Pass → ℕ → ℕ → ℕ
  first_along columns k rec = k * P.sb
  first_along rows k rec = rec * P.record_units

  abbrev pub across : Pass → ℕ
  across columns = P.record_units
  across rows = P.sb

  abbrev pub along : Pass → ℕ
  along columns = P.sb
  along rows = P.record_units

  unfoldable pub line_of : Pass → ℕ → ℕ → ℕ → List ℕ → List ℕ
  line_of d k rec a = up_to (λ v. act P d (first_across d k rec + a, first_along d k rec + v)) (along d)

  unfoldable pub sweep_of : Pass → ℕ → List ℕ → List ℕ
  sweep_of d k = up_to (λ rec. up_to (line_of d k rec) (across d)) P.records
