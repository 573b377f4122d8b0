-- A row looks only at its own: what is promised.
--   Turned         of one frame whose calls each have their own rows as it has them
--   Promises       of all calls and frames
use Rattle.std.specs.Prelude.{List, ◌≡◌, ℕ, ◌+◌, ◌*◌, ◌≤◌, ◌<◌, length, get_or, set}
use Rattle.loops.specs.Exactly.{Exactly}
use Rattle.loops.specs.Run.{up_to, run, All}
use Rattle.bits.specs.Mark.{mark}
use Rattle.plane.specs.Line.{Pass, columns, rows, Piece, other}
use Rattle.plane.specs.Plane.{raster_of, down}
use Rattle.plane.specs.Three.{Three}
use Rattle.units.specs.Memory.{level_at}
use Rattle.edges.specs.Edges.{units_of, classes, edge_bit}
use Rattle.gap.specs.Numbers.{sb_units}
use Rattle.filter.specs.Filter.{area_of}
use Rattle.checks.specs.declared.Call.{Call}
use Rattle.checks.specs.Call.{Lent, samples, w4, sb4, grid_of, Shaped, Roomy}
use Rattle.checks.specs.Tests.{number}
use Rattle.apply.specs.Apply.{Limits, component_of, three_of, FilterAnswer}
use Rattle.order.specs.Demand3.{all_of, Orders}
use Rattle.frames.specs.Calls.{Frame, call_at, answer, after, planes, sb_rows, Accepted, BoundariesKept}
use Rattle.frames.specs.Promises.{Demand}
use Rattle.own_row.specs.Own.{SameTables, OwnSample, SameLent, with_samples}
use Rattle.own_row.specs.Elsewhere.{Elsewhere}
use Rattle.own_row.specs.Turns.{Moment, frame_at, OwnRows, turn, TurnsTaken}

pub record Turned (f : Frame) (g : Pass → ℕ → Moment) (s : Three (List ℕ)) : Type 0 where
  -- each call is accepted with the frame's own level bytes and masks, so demand 3 holds of it
  pub accepted : Accepted f s
  pub demand : Demand f s
  -- and the calls at their own moments give its samples: those of all columns of the frame, then all rows, in any order
  pub in-turn : (l m : Three (List Piece)) → Orders (planes f) columns l → Orders (planes f) rows m
      → up_to (turn f g) (sb_rows f) s ≡ all_of (planes f) rows m (all_of (planes f) columns l s)
  -- in the standard's own loops
  pub standard : up_to (turn f g) (sb_rows f) s
      ≡ record {
        luma = raster_of (planes f).luma rows (raster_of (planes f).luma columns s.luma);
        u = raster_of (planes f).u rows (raster_of (planes f).u columns s.u);
        v = raster_of (planes f).v rows (raster_of (planes f).v columns s.v);
      }

pub record Promises : Type 0 where
  -- two lendings that are the same where the call may look: the same number, and afterwards they are the same there
  pub number : (c : Call) (m m' : Lent) → SameLent c m m' → number c m ≡ number c m'
  pub row : (c : Call) (l : Limits) (m m' : Lent) (r r' : ℕ) (s s' : Three (List ℕ)) → SameLent c m m' → FilterAnswer c l m r s → FilterAnswer c l m' r' s'
      → (r ≡ r') × SameLent c (with_samples m s) (with_samples m' s')
  -- every other sample stays
  pub others : (c : Call) (l : Limits) (m : Lent) (r : ℕ) (s : Three (List ℕ)) → FilterAnswer c l m r s
      → (n i : ℕ) → ¬ OwnSample c n i → get_or (samples (with_samples m s) n) i 0 ≡ get_or (samples m n) i 0
  -- so level bytes and masks elsewhere do not count at all
  pub tables : (c : Call) (l : Limits) (m m' : Lent) (r r' : ℕ) (s s' : Three (List ℕ)) → three_of m ≡ three_of m'
      → SameTables c m.levels m'.levels m.masks m'.masks → FilterAnswer c l m r s → FilterAnswer c l m' r' s' → (r ≡ r') × (s ≡ s')
  -- a call at its own moment is the frame's call
  pub call : (f : Frame) (g : Pass → ℕ → Moment) → OwnRows f g → (d : Pass) (k : ℕ) → k < sb_rows f → (s : Three (List ℕ))
      → (answer (frame_at f (g d k)) d k s ≡ answer f d k s) × (after (frame_at f (g d k)) d k s ≡ after f d k s)
  -- and so are all calls, whichever they are and in whatever order
  pub calls : (f : Frame) (g : Pass → ℕ → Moment) → OwnRows f g → (l : List (Pass × ℕ)) → All (λ c. c.1 < sb_rows f) l → (s : Three (List ℕ))
      → run (λ c. after (frame_at f (g c.0 c.1)) c.0 c.1) l s ≡ run (λ c. after f c.0 c.1) l s
  -- in turn, columns then rows of each superblock row
  pub turns : (f : Frame) (g : Pass → ℕ → Moment) → OwnRows f g → (s : Three (List ℕ))
      → up_to (turn f g) (sb_rows f) s ≡ up_to (λ k t. after f rows k (after f columns k t)) (sb_rows f) s
  -- the frame's calls are accepted exactly if these are, as they are made
  pub accepted : (f : Frame) (g : Pass → ℕ → Moment) (s : Three (List ℕ)) → OwnRows f g → Exactly (TurnsTaken f g s) (Accepted f s)
  -- demand 3 of them
  pub demand : (f : Frame) (g : Pass → ℕ → Moment) (s : Three (List ℕ)) → OwnRows f g → TurnsTaken f g s → BoundariesKept f → Turned f g s
  -- what differs at other rows' units alone is the same to the call
  pub elsewhere : (c : Call) (ls ls' ms ms' : List ℕ) → Shaped c → Roomy c (length ls) (length ms) → Elsewhere c ls ls' ms ms' → SameTables c ls ls' ms ms'
  -- such as a level byte or an edge of a later row
  pub later-level : (c : Call) (ls ms : List ℕ) → Shaped c → Roomy c (length ls) (length ms) → (d : Pass) (n x y v : ℕ) → n ≤ 2 → x < w4 c
      → (c.row + 1) * sb_units (grid_of c n) (sb4 c) ≤ y → SameTables c ls (set ls (level_at c.level_stride x y (area_of (component_of c n) d)) v) ms ms
  pub later_edge : (c : Call) (ls ms : List ℕ) → Shaped c → Roomy c (length ls) (length ms) → (d : Pass) (n : ℕ) (p : Piece) (k : ℕ)
      → p.0 < units_of (grid_of c n) d → p.1 < units_of (grid_of c n) (other d) → k < classes (grid_of c n)
      → (c.row + 1) * sb_units (grid_of c n) (sb4 c) ≤ down d p → SameTables c ls ls ms (mark ms (edge_bit (grid_of c n) d p k))
  -- so are the moments of an accepted frame's calls that differ from it at other rows' units alone
  pub own-rows : (f : Frame) (g : Pass → ℕ → Moment) (s : Three (List ℕ)) → Accepted f s
      → ((d : Pass) (k : ℕ) → k < sb_rows f → Elsewhere (call_at f d k) f.levels (g d k).levels f.masks (g d k).masks) → OwnRows f g
