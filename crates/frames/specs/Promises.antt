-- Demand 3, of the calls.
--   OneCall      each edge piece of a plane belongs to one call
--   Reaches      how far a call reaches in a plane
--   Demand       of one frame whose calls are all accepted and whose boundaries keep the rule with what is above them
--   Promises     of all frames
use Rattle.std.specs.Prelude.{List, ◌≡◌, ℕ, ◌+◌, ◌<◌, get_or}
use Rattle.loops.specs.Run.{up_to}
use Rattle.plane.specs.Line.{Pass, columns, rows, Piece}
use Rattle.plane.specs.Plane.{Plane, IsPiece, InRow, raster_of}
use Rattle.plane.specs.Three.{Three}
use Rattle.order.specs.Demand3.{Demand3, all_of, Orders}
use Rattle.apply.specs.Apply.{FilterAnswer}
use Rattle.frames.specs.Within.{WithinRow, Agree}
use Rattle.frames.specs.Calls.{Frame, call_at, lent_of, answer, after, planes, sb_rows, Accepted, BoundariesKept}
use Rattle.frames.specs.Witness.{pass, Differ, Witness}

-- an edge piece belongs to exactly one superblock row, and so to exactly one call of its pass
pub record OneCall (f : Frame) (P : Plane) : Type 0 where
  pub some : (d : Pass) (p : Piece) → IsPiece P d p → (k : ℕ) × (k < sb_rows f) × InRow P d k p
  pub one : (d : Pass) (p : Piece) (j k : ℕ) → InRow P d j p → InRow P d k p → j ≡ k

pub record Demand (f : Frame) (s : Three (List ℕ)) : Type 0 where
  -- in one plane and pass, any order and any division of the edge pieces
  pub luma : Demand3 (planes f).luma
  pub u : Demand3 (planes f).u
  pub v : Demand3 (planes f).v
  pub luma-calls : OneCall f (planes f).luma
  pub u-calls : OneCall f (planes f).u
  pub v-calls : OneCall f (planes f).v
  -- superblock row after superblock row, columns then rows of each: the samples of all columns of the frame, then all rows
  pub in-turn : (l m : Three (List Piece)) → Orders (planes f) columns l → Orders (planes f) rows m
      → up_to (λ k t. after f rows k (after f columns k t)) (sb_rows f) s ≡ all_of (planes f) rows m (all_of (planes f) columns l s)
  -- in the standard's own loops
  pub standard : up_to (λ k t. after f rows k (after f columns k t)) (sb_rows f) s
      ≡ record {
        luma = raster_of (planes f).luma rows (raster_of (planes f).luma columns s.luma);
        u = raster_of (planes f).u rows (raster_of (planes f).u columns s.u);
        v = raster_of (planes f).v rows (raster_of (planes f).v columns s.v);
      }
  -- two workers: which calls may change places
  pub columns-commute : (j k : ℕ) → after f columns j (after f columns k s) ≡ after f columns k (after f columns j s)
  pub rows-commute : (j k : ℕ) → after f rows j (after f rows k s) ≡ after f rows k (after f rows j s)
  pub past : (k j : ℕ) → k < j → after f rows k (after f columns j s) ≡ after f columns j (after f rows k s)
  pub ahead : (k j : ℕ) → j + 1 < k → after f rows k (after f columns j s) ≡ after f columns j (after f rows k s)

-- `part` is the plane's list among the three. In it a call changes samples of its row's lines and, in rows, of at most w above, and sees those and at most r above
pub record Reaches (f : Frame) (P : Plane) (part : Three (List ℕ) → List ℕ) (w r : ℕ) : Type 0 where
  pub changes : (d : Pass) (k : ℕ) (s : Three (List ℕ)) (i : ℕ) → ¬ WithinRow P w d k i → get_or (part (after f d k s)) i 0 ≡ get_or (part s) i 0
  pub sees : (d : Pass) (k : ℕ) (s t : Three (List ℕ)) → answer f d k s ≡ answer f d k t
      → Agree P r d k (part s) (part t) → Agree P r d k (part (after f d k s)) (part (after f d k t))

pub record Promises : Type 0 where
  -- what a call answers and leaves is what its contract says
  pub calls : (f : Frame) (d : Pass) (k : ℕ) (s t : Three (List ℕ)) (r : ℕ)
      → FilterAnswer (call_at f d k) f.limits (lent_of f s) r t → (r ≡ answer f d k s) × (t ≡ after f d k s)
  -- no call changes another's number, whatever the order
  pub answers_stay : (f : Frame) (d e : Pass) (j k : ℕ) (s : Three (List ℕ)) → answer f d j (after f e k s) ≡ answer f d j s
  -- columns change only lines of their row, rows at most 6 above, and see at most 7; in chroma 2 and 3
  pub luma-reach : (f : Frame) → Reaches f (planes f).luma (λ s. s.luma) 6 7
  pub u-reach : (f : Frame) → Reaches f (planes f).u (λ s. s.u) 2 3
  pub v-reach : (f : Frame) → Reaches f (planes f).v (λ s. s.v) 2 3
  -- and the order of the calls and of their pieces does not matter
  pub demand : (f : Frame) (s : Three (List ℕ)) → Accepted f s → BoundariesKept f → Demand f s
  -- such frames there are: two superblock rows, edges on their boundary and beside it, and samples that each pass changes
  pub witness : (f : Frame) × (s : Three (List ℕ)) × Witness f s
  -- where the order of the passes counts: all rows before all columns leave other samples than the calls in turn
  pub other-order : let f = witness.0 in let s = witness.1 in
      Differ (pass f columns (pass f rows s)) (up_to (λ k t. after f rows k (after f columns k t)) (sb_rows f) s)
