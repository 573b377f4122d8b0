-- The calls that filter one pass of a superblock row: the planes that they define, and their contract.
--   component_of c plane       a plane of the frame of a call
--   shown on P                 the plane, with no edges unless it is on
--   Limits, limits             the limit table's e and i
--   tables_of c l m            what a plane is filtered by
--   plane_at c l m plane       a plane, from what is lent
--   planes_of c l m            the three planes, chroma without edges where it is not filtered
--   three_of m, three          their samples
--   pass_call c                the pass of the call, over the three planes
--   FilterAnswer               number and samples after a call
--   call_of                    the call of these arguments
--   FilterLent                 FilterAnswer of the lists that a call is lent, its number, and its samples after it
--   swept, swept_if            what is done to a plane, and to one of chroma
--   Ready                      what that asks of the call, the lengths, the levels and the masks
--   ReadyAt                    and of the depth and the samples, which that depth can hold
use Rattle.std.specs.Prelude.{Bool, cond, List, ◌≡◌, ℕ, ◌^◌, ◌≤◌, eqb, length}
use Rattle.std.proofs.Math.Option.{none}
use Rattle.plane.specs.Line.{pass_of}
use Rattle.plane.specs.Plane.{Plane}
use Rattle.plane.specs.Three.{Three, cols_call, rows_call}
use Rattle.filter.specs.declared.Component.{Component}
use Rattle.filter.specs.Filter.{Tables, plane_of, sweep_of}
use Rattle.filter.specs.Ready.{Stored, Fit, Under}
use Rattle.checks.specs.declared.Call.{Call}
use Rattle.checks.specs.Call.{Lent, lent, w4, h4, sb4, ss-hor, ss-ver, stride_of, chroma_on, Shaped}
use Rattle.checks.specs.Tests.{number}

abbrev pub component_of : Call → ℕ → Component
component_of c plane =
    record {
      plane = plane;
      ss_hor = ss-hor c plane;
      ss_ver = ss-ver c plane;
      w4 = record { 0 = w4 c };
      h4 = record { 0 = h4 c };
      sb4 = record { 0 = sb4 c };
      stride = stride_of c plane;
      level_stride = c.level_stride;
    }

abbrev pub shown : Bool → Plane → Plane
shown on P =
    record {
      stride = P.stride;
      record_units = P.record_units;
      records = P.records;
      sb = P.sb;
      sbs = P.sbs;
      height = P.height;
      widths = P.widths;
      edge = λ d p. cond on (P.edge d p) none;
      rule = P.rule;
    }

pub record Limits : Type 0 where
  pub e : List ℕ
  pub i : List ℕ

abbrev pub tables_of : Call → Limits → Lent → Tables
tables_of c l m = record { depth = c.depth; levels = m.levels; masks = m.masks; e = l.e; i = l.i }

abbrev pub plane_at : Call → Limits → Lent → ℕ → Plane
plane_at c l m plane = plane_of (component_of c plane) (tables_of c l m)

abbrev pub planes_of : Call → Limits → Lent → Three Plane
planes_of c l m =
    record { luma = plane_at c l m 0; u = shown (chroma_on c) (plane_at c l m 1); v = shown (chroma_on c) (plane_at c l m 2) }

abbrev pub three_of : Lent → Three (List ℕ)
three_of m = record { luma = m.luma; u = m.u; v = m.v }

abbrev pub pass_call : Call → Three Plane → ℕ → Three (List ℕ) → Three (List ℕ)
pass_call c = cond c.rowwise rows_call cols_call

abbrev pub limits : List ℕ → List ℕ → Limits
limits e i = record { e = e; i = i }

abbrev pub three : List ℕ → List ℕ → List ℕ → Three (List ℕ)
three luma u v = record { luma = luma; u = u; v = v }

pub record FilterAnswer (c : Call) (l : Limits) (m : Lent) (r : ℕ) (after : Three (List ℕ)) : Type 0 where
  pub code : r ≡ number c m
  pub planes : after ≡ cond (eqb r 0) (pass_call c (planes_of c l m) c.row (three_of m)) (three_of m)

abbrev pub call_of : Bool → ℕ → ℕ → ℕ → ℕ → ℕ → ℕ → ℕ → ℕ → ℕ → ℕ → ℕ → Call
call_of rowwise depth luma-stride chroma-stride level-stride width height layout superblock level-u level-v row =
    record {
      width = record { 0 = width };
      height = record { 0 = height };
      layout = layout;
      superblock = superblock;
      depth = depth;
      level_u = level-u;
      level_v = level-v;
      row = row;
      rowwise = rowwise;
      luma_stride = luma-stride;
      chroma_stride = chroma-stride;
      level_stride = level-stride;
    }

abbrev pub FilterLent : Call → List ℕ → List ℕ → List ℕ → List ℕ → List ℕ → List ℕ → List ℕ → ℕ → List ℕ → List ℕ → List ℕ → Type 0
FilterLent c luma u v levels masks e i r luma' u' v' = FilterAnswer c (limits e i) (lent luma u v levels masks) r (three luma' u' v')

-- ---- one plane

unfoldable pub swept : Call → Tables → ℕ → List ℕ → List ℕ
swept c t plane = sweep_of (plane_of (component_of c plane) t) (pass_of c.rowwise) c.row

abbrev pub swept_if : Call → Tables → ℕ → List ℕ → List ℕ
swept_if c t plane s = cond (chroma_on c) (swept c t plane s) s

pub record Ready (c : Call) (t : Tables) (plane : ℕ) (s : List ℕ) : Type 0 where
  pub shaped : Shaped c
  pub stored : Stored (component_of c plane) t (length s)
  pub fit : Fit (component_of c plane) t (pass_of c.rowwise) c.row

pub record ReadyAt (c : Call) (t : Tables) (plane : ℕ) (s : List ℕ) : Type 0 where
  pub ready : Ready c t plane s
  pub deep : (8 ≤ t.depth) × (t.depth ≤ 12)
  pub under : Under (2 ^ t.depth) (component_of c plane) (pass_of c.rowwise) c.row s
