-- An edge piece of an accepted call has its samples in the plane's list, by the gap rule, and a level of at most 63.
use Prim.Native.Nat.{ℕ, suc, ◌+◌, ◌-◌, ◌*◌, ◌≤◌, ◌<◌}
use native.Mathlib.Nat.{mul-le-mul_right, suc-mul}
use native.Mathlib.Omega.{arith}
use mathlib.Core.Bool.{Bool, true, false, cond}
use mathlib.Core.Option.{some}
use mathlib.Core.Path.{◌≡◌, subst}
use lib.Dec.{eqb}
use lib.ListN.{length}
use Rattle.plane.specs.Line.{Pass, columns, rows, Piece, other}
use Rattle.plane.specs.Plane.{Plane, class, InRow}
use Rattle.plane.proofs.Pieces.{inner-some}
use Rattle.edges.specs.Edges.{units_of}
use Rattle.line.specs.Width.{reads}
use Rattle.gap.proofs.Shapes.{units-stored}
use Rattle.gap.proofs.NumbersMean.{edge_in}
use Rattle.filter.specs.declared.Component.{Component}
use Rattle.filter.specs.Filter.{Tables, grid_of, level_in, before, level_of, plane_of}
use Rattle.filter.specs.Ready.{Stored, Fit}
use Rattle.filter.proofs.UnitActs.{reads-is}
use Rattle.filter.proofs.PieceRooms.{row-stored, lines-in}
use Rattle.checks.specs.declared.Call.{Call}
use Rattle.checks.specs.Call.{Lent, samples, call_pass, stride_of, Filtered}
use Rattle.checks.specs.Tests.{number}
use Rattle.apply.specs.Apply.{component_of, Limits, tables_of, plane_at}
use Rattle.apply.proofs.ReadyPlanes.{ready}
use Rattle.frames.proofs.CallReach.{far}
use Rattle.walk.specs.Walk.{width_of}
use Rattle.standard_planes.specs.Piece.{piece_level, There}

-- a sample of one of n lines
in_lines : (S n len t y : ℕ) → n * S ≤ len → t < n → y < S → t * S + y < len
in_lines S n len t y h a b = omega (arith, mul-le-mul_right S a, suc-mul t S)

module _ (c : Component) (t : Tables) (len : ℕ) (s : Stored c t len) (k : ℕ) (p : Piece) (cls : ℕ) where
  abbrev P : Plane
  P = plane_of c t

  in_frame : (d : Pass) → class P d p ≡ some cls → (p.0 < units_of (grid_of c) d) × (p.1 < units_of (grid_of c) (other d))
  in_frame d e = edge_in (grid_of c) t.masks d p cls (inner-some p.0 (P.edge d p) cls e).1

  there : (d : Pass) → Fit c t d k → InRow P d k p → class P d p ≡ some cls → There d c.stride (P.widths.reads cls) p len
  there columns f r e =
      let x = far c t len s k columns f p cls r e in
      let i = in_frame columns e in
      let l = lines-in c t k len s (4 * p.1 + 4) (omega (arith, units-stored c.ss_ver c.h4.0 s.proper.ss-ver-le)) in
      let w : 4 * p.0 + P.widths.reads cls ≤ c.stride = omega (arith, s.stored-wide) in
      record {
        start = x.0;
        room = w;
        inside = λ j q h v. in_lines c.stride (4 * p.1 + 4) len (4 * p.1 + j) (4 * p.0 + q - 8) l (omega arith) (omega (arith, v.to, v.from));
      }
  there rows f r e =
      let x = far c t len s k rows f p cls r e in
      let i = in_frame rows e in
      let z : k + 1 ≡ suc k = omega arith in
      let b = rw z at (row-stored c t k len s f.row) in
      let l = lines-in c t k len s (4 * p.0 + P.widths.reads cls) (omega arith) in
      let w : 4 * p.1 + 4 ≤ c.stride = omega (arith, s.stored-wide, units-stored c.ss_hor c.w4.0 s.proper.ss-hor-le) in
      record {
        start = x.0;
        room = w;
        inside = λ j q h v. in_lines c.stride (4 * p.0 + P.widths.reads cls) len (4 * p.0 + q - 8) (4 * p.1 + j) l (omega (arith, v.to, v.from)) (omega arith);
      }

  -- the unit itself, and the one before it
  byte_le : (d : Pass) → Fit c t d k → InRow P d k p → class P d p ≡ some cls → (u : ℕ) → u ≤ p.0 → p.0 ≤ u + 1 → level_in c t d (u, p.1) ≤ 63
  byte_le columns f r e u a b =
      let i = in_frame columns e in
      let z : k + 1 ≡ suc k = omega arith in
      f.levels u p.1 (omega arith) i.1 (omega (arith, r.from)) (rw z r.to)
  byte_le rows f r e u a b =
      let i = in_frame rows e in
      let z : k + 1 ≡ suc k = omega arith in
      f.levels p.1 u i.1 (omega arith) (omega (arith, r.from)) (rw z (omega (arith, r.to)))

  level-le : (d : Pass) → Fit c t d k → InRow P d k p → class P d p ≡ some cls → level_of c t d p ≤ 63
  level-le d f r e = go (eqb (level_in c t d p) 0)
    where
      go : (b : Bool) → cond b (level_in c t d (before p)) (level_in c t d p) ≤ 63
      go true = byte_le d f r e (p.0 - 1) (omega arith) (omega arith)
      go false = byte_le d f r e p.0 (omega arith) (omega arith)

  pub asked-row : (d : Pass) → Fit c t d k → InRow P d k p → class P d p ≡ some cls → (level_of c t d p ≤ 63) × There d c.stride (reads (width_of c.plane cls)) p len
  asked-row d f r e =
      (level-le d f r e, subst (λ (x : ℕ). There d c.stride x p len) (reads-is (eqb c.plane 0) cls) (there d f r e))

pub asked : (c : Call) (l : Limits) (m : Lent) (n : ℕ) → number c m ≡ 0 → Filtered c n → (p : Piece) (cls : ℕ)
    → InRow (plane_at c l m n) (call_pass c) c.row p → class (plane_at c l m n) (call_pass c) p ≡ some cls
    → (piece_level c l m n (call_pass c) p ≤ 63) × There (call_pass c) (stride_of c n) (reads (width_of n cls)) p (length (samples m n))
asked c l m n e f p cls r is =
    let g = ready c l m e f in asked-row (component_of c n) (tables_of c l m) (length (samples m n)) g.stored c.row p cls (call_pass c) g.fit r is
