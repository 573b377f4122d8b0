-- What holds of the calls joined.
--   Promises         the promises, one a field
use Rattle.std.specs.Prelude.{List, ◌≡◌, ℕ, ◌≤◌, length, get_or}
use Rattle.std.proofs.Math.Option.{some}
use Rattle.plane.specs.Line.{Pass, Piece}
use Rattle.plane.specs.Plane.{class, act, InRow}
use Rattle.plane.specs.Three.{Three}
use Rattle.standard.specs.Strength.{bounds}
use Rattle.line.specs.Width.{reads}
use Rattle.limits.specs.Limits.{LimitAnswer, limits_of}
use Rattle.checks.specs.declared.Call.{Call}
use Rattle.checks.specs.Call.{Lent, samples, call_pass, stride_of, Filtered}
use Rattle.checks.specs.Tests.{number}
use Rattle.apply.specs.Apply.{Limits, plane_at}
use Rattle.frames.specs.Calls.{Frame, planes, Accepted}
use Rattle.units.specs.Memory as memory
use Rattle.levels.specs.Levels.{LevelsIn, LevelsAnswer}
use Rattle.block.specs.declared.Block.{Block}
use Rattle.block.specs.Block as block
use Rattle.record.specs.Record.{intra_of, inter_of, RecordAnswer}
use Rattle.record.specs.Recorded.{Seen}
use Rattle.walk.specs.Walk.{width_of}
use Rattle.standard_planes.specs.Piece.{limits_in, piece_level, There, Standard}
use Rattle.standard_planes.specs.Frame.{Sharp, ByStandard}
use Rattle.standard_planes.specs.Level.{Segment, Referred, Level}

pub record Promises : Type 0 where
  -- at level 0 a piece changes nothing
  pub no-level : (c : Call) (l : Limits) (m : Lent) (n : ℕ) (d : Pass) (p : Piece) (s : List ℕ)
      → piece_level c l m n d p ≡ 0 → act (plane_at c l m n) d p s ≡ s
  -- at another it is the standard's, with the limit table that `limits` leaves for a sharpness
  pub piece : (sharp : ℕ) (a : LimitAnswer) → a ≡ limits_of sharp → a.number ≡ 0 → (c : Call) (m : Lent) (n : ℕ) (d : Pass) (p : Piece) (cls : ℕ) (s : List ℕ)
      → class (plane_at c (limits_in a) m n) d p ≡ some cls
      → ¬ (piece_level c (limits_in a) m n d p ≡ 0) → piece_level c (limits_in a) m n d p ≤ 63
      → There d (stride_of c n) (reads (width_of n cls)) p (length s)
      → Standard d (stride_of c n) (width_of n cls) (bounds c.depth sharp (piece_level c (limits_in a) m n d p)) p s (act (plane_at c (limits_in a) m n) d p s)
  -- so is every edge piece of an accepted call, in any list as long as its plane's
  pub call : (sharp : ℕ) (a : LimitAnswer) → a ≡ limits_of sharp → a.number ≡ 0 → (c : Call) (m : Lent) (n : ℕ) → number c m ≡ 0 → Filtered c n
      → (p : Piece) (cls : ℕ) (s : List ℕ) → InRow (plane_at c (limits_in a) m n) (call_pass c) c.row p → class (plane_at c (limits_in a) m n) (call_pass c) p ≡ some cls
      → length s ≡ length (samples m n) → ¬ (piece_level c (limits_in a) m n (call_pass c) p ≡ 0)
      → Standard (call_pass c) (stride_of c n) (width_of n cls) (bounds c.depth sharp (piece_level c (limits_in a) m n (call_pass c) p)) p s
      (act (plane_at c (limits_in a) m n) (call_pass c) p s)
  -- and so are the samples that all calls of a frame leave, plane by plane
  pub luma-frame : (sharp : ℕ) (f : Frame) → Sharp sharp f → (s : Three (List ℕ)) → Accepted f s → ByStandard sharp f s 0 (planes f).luma (λ t. t.luma)
  pub u-frame : (sharp : ℕ) (f : Frame) → Sharp sharp f → (s : Three (List ℕ)) → Accepted f s → ByStandard sharp f s 1 (planes f).u (λ t. t.u)
  pub v-frame : (sharp : ℕ) (f : Frame) → Sharp sharp f → (s : Three (List ℕ)) → Accepted f s → ByStandard sharp f s 2 (planes f).v (λ t. t.v)
  -- every level byte of a visible unit of a block recorded with what `levels` leaves is the standard's
  pub level : (layout : ℕ) (x : LevelsIn) (old all : List ℕ) → LevelsAnswer layout x 0 old all
      → (s : ℕ) (values : List ℕ) → Segment x s all values
      → (b : Block) (stride : ℕ) (tm : List ℕ) (before after : block.Lent) → Referred b → RecordAnswer b stride values tm 0 before after
      → (x4 y4 area : ℕ) → Seen b x4 y4 area → Level x s area b.reference b.mode (get_or after.levels (memory.level_at stride x4 y4 area) 0)
  -- both calls that record give such a block
  pub intra : (width height layout x y size tx chroma uvtx : ℕ) → Referred (intra_of width height layout x y size tx chroma uvtx)
  pub inter : (width height layout x y size tx chroma uvtx skip reference mode : ℕ)
      → Referred (inter_of width height layout x y size tx chroma uvtx skip reference mode)
