-- The pieces of a frame as the standard filters them, one after another. P is plane n of the frame f, `part` its list among the three.
--   Sharp sharp f      the calls are given the limit table that `limits` leaves for a sharpness
--   frame_level f n d p  the level used at a piece
--   Filters            what the standard does at one unit: nothing with no edge piece or at level 0, else 7.14.6.1's four lines
--   Steps              what it does at the units of a list, one after another
--   ByStandard         demand 3's samples are the standard's
use Rattle.std.specs.Prelude.{List, [], ◌∷◌, ◌≡◌, ℕ, length}
use Rattle.std.proofs.Math.Option.{some, none}
use Rattle.loops.specs.Run.{run, up_to}
use Rattle.plane.specs.Line.{Pass, columns, rows, Piece}
use Rattle.plane.specs.Plane.{Plane, class, act}
use Rattle.plane.specs.Three.{Three}
use Rattle.standard.specs.Strength.{bounds}
use Rattle.limits.specs.Limits.{limits_of}
use Rattle.checks.specs.Call.{stride_of, Filtered}
use Rattle.apply.specs.Apply.{plane_at}
use Rattle.order.specs.Demand3.{Order}
use Rattle.frames.specs.Calls.{Frame, lent_of, after, sb_rows, BoundariesKept}
use Rattle.walk.specs.Walk.{width_of}
use Rattle.standard_planes.specs.Piece.{limits_in, piece_level, Standard}

pub record Sharp (sharp : ℕ) (f : Frame) : Type 0 where
  pub accepted : (limits_of sharp).number ≡ 0
  pub given : f.limits ≡ limits_in (limits_of sharp)

abbrev pub frame_level : Frame → ℕ → Pass → Piece → ℕ
frame_level f = piece_level f.head f.limits (lent_of f (record { luma = []; u = []; v = [] }))

module _ (sharp : ℕ) (f : Frame) (n : ℕ) (P : Plane) (d : Pass) where
  -- s before, t after
  pub record Filters (p : Piece) (s t : List ℕ) : Type 0 where
    pub no-piece : class P d p ≡ none → t ≡ s
    pub no-level : frame_level f n d p ≡ 0 → t ≡ s
    pub lines : (cls : ℕ) → class P d p ≡ some cls → ¬ (frame_level f n d p ≡ 0)
        → Standard d (stride_of f.head n) (width_of n cls) (bounds f.head.depth sharp (frame_level f n d p)) p s t

  abbrev pub Steps : List Piece → List ℕ → List ℕ → Type 0
  Steps [] s t = t ≡ s
  Steps (p ∷ l) s t = (r : List ℕ) × Filters p s r × Steps l r t

pub record ByStandard (sharp : ℕ) (f : Frame) (s : Three (List ℕ)) (n : ℕ) (P : Plane) (part : Three (List ℕ) → List ℕ) : Type 0 where
  -- the plane is the one of which the calls speak, or it is not filtered and has no pieces
  pub filtered : Filtered f.head n → P ≡ plane_at f.head f.limits (lent_of f s) n
  pub unfiltered : ¬ Filtered f.head n → (d : Pass) (p : Piece) → class P d p ≡ none
  -- what is done at a unit is the standard's, in any list as long as the plane's
  pub unit : (d : Pass) (p : Piece) (t : List ℕ) → length t ≡ length (part s) → Filters sharp f n P d p t (act P d p t)
  -- so any list of pieces, and each order of all, gives what the standard's steps lead to, and nothing else
  pub steps : (d : Pass) (l : List Piece) (t : List ℕ) → length t ≡ length (part s) → Steps sharp f n P d l t (run (act P d) l t)
  pub only : (d : Pass) (l : List Piece) (t r : List ℕ) → length t ≡ length (part s) → Steps sharp f n P d l t r → r ≡ run (act P d) l t
  -- the calls, superblock row after superblock row: the standard's steps at all column pieces and then at all row pieces, in any order of each
  pub in-turn : BoundariesKept f → (l m : List Piece) → Order P columns l → Order P rows m → (r : List ℕ)
      × Steps sharp f n P columns l (part s) r
      × Steps sharp f n P rows m r (part (up_to (λ k t. after f rows k (after f columns k t)) (sb_rows f) s))
