-- A frame that demand 3 speaks of, with what makes it worth the name.
--   OnBoundary P cls n   row edges of a class on the first superblock boundary and n units above it, in one column of units
--   InEach f P           a column edge in each superblock row
--   pass f d s           what all calls of a pass leave, from the top
--   Differ s t           other samples in every plane
--   Witness f s          all hypotheses are met; there are two superblock rows, edges about their boundary in every plane and the limit table of a sharpness; and each pass
--                        changes samples
use Rattle.std.specs.Prelude.{List, ◌≡◌, ℕ, ◌+◌, ◌-◌, ◌<◌}
use Rattle.std.proofs.Math.Option.{some}
use Rattle.loops.specs.Run.{up_to}
use Rattle.plane.specs.Line.{Pass, columns, rows, Piece}
use Rattle.plane.specs.Plane.{Plane, class, IsPiece, InRow}
use Rattle.plane.specs.Three.{Three}
use Rattle.limits.specs.Limits.{limits_of}
use Rattle.apply.specs.Apply.{limits}
use Rattle.frames.specs.Calls.{Frame, after, planes, sb_rows, Accepted, BoundariesKept}

pub record OnBoundary (P : Plane) (cls n : ℕ) : Type 0 where
  pub column : ℕ
  pub on : class P rows (P.sb, column) ≡ some cls
  pub above : class P rows (P.sb - n, column) ≡ some cls

abbrev pub InEach : Frame → Plane → Type 0
InEach f P = (k : ℕ) → k < sb_rows f → (p : Piece) × InRow P columns k p × IsPiece P columns p

abbrev pub pass : Frame → Pass → Three (List ℕ) → Three (List ℕ)
pass f d = up_to (after f d) (sb_rows f)

pub record Differ (s t : Three (List ℕ)) : Type 0 where
  pub luma : ¬ (s.luma ≡ t.luma)
  pub u : ¬ (s.u ≡ t.u)
  pub v : ¬ (s.v ≡ t.v)

pub record Witness (f : Frame) (s : Three (List ℕ)) : Type 0 where
  pub accepted : Accepted f s
  pub kept : BoundariesKept f
  pub two-rows : sb_rows f ≡ 2
  pub sharp : ℕ
  pub sharpness : (limits_of sharp).number ≡ 0
  pub table : f.limits ≡ limits (limits_of sharp).table.e (limits_of sharp).table.i
  -- row edges on the boundary and beside it
  pub luma-wide : OnBoundary (planes f).luma 2 4
  pub luma-narrow : OnBoundary (planes f).luma 0 1
  pub luma-below : class (planes f).luma rows ((planes f).luma.sb + 1, luma-narrow.column) ≡ some 0
  pub u-wide : OnBoundary (planes f).u 1 2
  pub u-narrow : OnBoundary (planes f).u 0 1
  pub v-wide : OnBoundary (planes f).v 1 2
  pub v-narrow : OnBoundary (planes f).v 0 1
  pub luma-columns : InEach f (planes f).luma
  pub u-columns : InEach f (planes f).u
  pub v-columns : InEach f (planes f).v
  pub columns-change : Differ (pass f columns s) s
  pub rows-change : Differ (pass f rows (pass f columns s)) (pass f columns s)
