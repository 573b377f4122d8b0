-- The calls of a frame where each is lent the level bytes and masks of its own moment: between the calls that filter a decoder records and corrects other rows.
--   Moment           the level bytes and masks as they are when a call is made
--   frame_at f t      the frame as it is then
--   OwnRows f g      g d k, the moment of the call for row k in pass d, has what that call may look at as the frame f has it
--   turn f g k       the columns, then the rows of superblock row k, each at its own moment
--   TurnsTaken f g s  there is a call, and each, made in turn from the samples s on, answers 0
use Rattle.std.specs.Prelude.{List, ◌≡◌, ℕ, ◌<◌}
use Rattle.loops.specs.Run.{up_to}
use Rattle.bits.specs.Mark.{Words}
use Rattle.plane.specs.Line.{Pass, columns, rows}
use Rattle.plane.specs.Three.{Three}
use Rattle.frames.specs.Calls.{Frame, call_at, answer, after, sb_rows}
use Rattle.own_row.specs.Own.{SameTables}

pub record Moment : Type 0 where
  pub levels : List ℕ
  pub masks : List ℕ
  pub words : Words masks

abbrev pub frame_at : Frame → Moment → Frame
frame_at f t = record { head = f.head; limits = f.limits; levels = t.levels; masks = t.masks; words = t.words }

abbrev pub OwnRows : Frame → (Pass → ℕ → Moment) → Type 0
OwnRows f g = (d : Pass) (k : ℕ) → k < sb_rows f → SameTables (call_at f d k) (g d k).levels f.levels (g d k).masks f.masks

abbrev pub turn : Frame → (Pass → ℕ → Moment) → ℕ → Three (List ℕ) → Three (List ℕ)
turn f g k s = after (frame_at f (g rows k)) rows k (after (frame_at f (g columns k)) columns k s)

pub record TurnsTaken (f : Frame) (g : Pass → ℕ → Moment) (s : Three (List ℕ)) : Type 0 where
  pub some : 0 < sb_rows f
  pub columns-done : (k : ℕ) → k < sb_rows f → answer (frame_at f (g columns k)) columns k (up_to (turn f g) k s) ≡ 0
  pub rows-done : (k : ℕ) → k < sb_rows f → answer (frame_at f (g rows k)) rows k (after (frame_at f (g columns k)) columns k (up_to (turn f g) k s)) ≡ 0
