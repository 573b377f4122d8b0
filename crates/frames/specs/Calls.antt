-- The calls that filter a frame: one pass of one superblock row each, with one set of levels, masks and limits.
--   Frame               what all of them are given; the row and the pass of `head` do not count
--   is_rows d           the flag of a pass
--   call_at f d k       the call for superblock row k in pass d: columns_8, columns_16, rows_8 or rows_16
--   lent_of f s         the memory it is lent where the planes hold s
--   answer f d k s      its number
--   after f d k s       what it leaves in the planes
--   planes f            the planes that the frame defines
--   sb_rows f           how many superblock rows there are
--   Accepted f s        there is a call, and every one of the frame answers 0
--   BoundariesKept f    the one hypothesis that no call checks, of each plane
use Rattle.std.specs.Prelude.{Bool, true, false, cond, List, [], ◌≡◌, ℕ, ◌<◌, eqb}
use Rattle.bits.specs.Mark.{Words}
use Rattle.plane.specs.Line.{Pass, columns, rows}
use Rattle.plane.specs.Plane.{Plane}
use Rattle.plane.specs.Three.{Three}
use Rattle.units.specs.Frame.{superblocks}
use Rattle.checks.specs.declared.Call.{Call}
use Rattle.checks.specs.Call.{Lent, h4, sb4}
use Rattle.checks.specs.Tests.{number}
use Rattle.apply.specs.Apply.{Limits, planes_of, pass_call}
use Rattle.frames.specs.Whole.{BoundariesKeep}

pub record Frame : Type 0 where
  pub head : Call
  pub limits : Limits
  pub levels : List ℕ
  pub masks : List ℕ
  pub words : Words masks

abbrev pub is_rows : Pass → Bool
is_rows columns = false
is_rows rows = true

abbrev pub call_at : Frame → Pass → ℕ → Call
call_at f d k =
    record {
      width = f.head.width;
      height = f.head.height;
      layout = f.head.layout;
      superblock = f.head.superblock;
      depth = f.head.depth;
      level_u = f.head.level_u;
      level_v = f.head.level_v;
      row = k;
      rowwise = is_rows d;
      luma_stride = f.head.luma_stride;
      chroma_stride = f.head.chroma_stride;
      level_stride = f.head.level_stride;
    }

abbrev pub lent_of : Frame → Three (List ℕ) → Lent
lent_of f s = record { luma = s.luma; u = s.u; v = s.v; levels = f.levels; masks = f.masks }

abbrev pub answer : Frame → Pass → ℕ → Three (List ℕ) → ℕ
answer f d k s = number (call_at f d k) (lent_of f s)

abbrev pub planes : Frame → Three Plane
planes f = planes_of f.head f.limits (lent_of f (record { luma = []; u = []; v = [] }))

unfoldable pub after : Frame → Pass → ℕ → Three (List ℕ) → Three (List ℕ)
after f d k s = cond (eqb (answer f d k s) 0) (pass_call (call_at f d k) (planes f) k s) s

abbrev pub sb_rows : Frame → ℕ
sb_rows f = superblocks (h4 f.head) (sb4 f.head)

pub record Accepted (f : Frame) (s : Three (List ℕ)) : Type 0 where
  pub some : 0 < sb_rows f
  pub all : (d : Pass) (k : ℕ) → k < sb_rows f → answer f d k s ≡ 0

pub record BoundariesKept (f : Frame) : Type 0 where
  pub luma : BoundariesKeep (planes f).luma
  pub u : BoundariesKeep (planes f).u
  pub v : BoundariesKeep (planes f).v
