-- A plane of several tiles: their blocks are recorded into the same masks, each tile's with contexts of its own; then the tiles' starts are corrected.
-- A `Tile` counts x0 to x1 to the right and y0 to y1 down.
--   turned d T                   the tile as the pass d sees it
--   In T d p                     the unit p of the pass lies in it
--   TilesApart T R, AllApart ts  no unit lies in both; of each two tiles of a list
--   Parted G ts                  the tiles ts part the frame: each unit lies in one of them, and none in two
--   TilesRecorded D plane G start ts m n  the blocks of the tiles ts, one tile after another, lead from the masks m to n
--   Fix                          a correction: a tile's start, and the contexts kept there
--   Corrected l m n              the calls for the corrections l answer 0 and lead from the masks m to n
--   Fixes k luma d p             k corrects the unit p of the pass d, in luma or in chroma
--   kept_at k luma p              the class that was kept of the unit before it
--   Never luma d p l             no correction of l does
--   FixedOnce luma d p v l       one of l does, with the class v kept, and no other
--   AtStarts D plane G ts l      the corrections l are those of a frame of tiles: each unit at a tile's start but unit 0 is corrected once, with the class of
--                                the unit before it, and no other unit is
--   InTiles D plane G start ts l m n o   the masks o of a plane made so: from clear ones, m, over the tiles' blocks, n, and the corrections
use Rattle.std.specs.Prelude.{Bool, false, cond, ◌⊎◌, ◌≡◌, ℕ, ◌-◌, ◌≤◌, ◌<◌, get_or}
use mathlib.Core.List.{List, [], ◌∷◌, Memᴰ}
use Rattle.loops.specs.Run.{All}
use Rattle.bits.specs.Mark.{is_set}
use Rattle.standard.specs.Edge.{Frame}
use Rattle.plane.specs.Line.{Pass, columns, rows, Piece, other, pass_of}
use Rattle.edges.specs.Edges.{Grid, units_of, classes, edge_bit}
use Rattle.correct.specs.declared.Start.{Start}
use Rattle.correct.specs.Start.{grid_at, begin, first}
use Rattle.correct.specs.Answer.{CorrectAnswer}
use Rattle.correct.specs.Promises.{CorrectedUnit}
use Rattle.covering.specs.Front.{Tile}
use Rattle.covering.specs.Standard.{transform_class}
use Rattle.drawn.specs.Run.{State, SeenBlock, Tallies, InTile}

-- ---- the tiles

abbrev pub turned : Pass → Tile → Tile
turned columns T = T
turned rows T = record { x0 = T.y0; x1 = T.y1; y0 = T.x0; y1 = T.x1 }

pub record In (T : Tile) (d : Pass) (p : Piece) : Type 0 where
  pub across : ((turned d T).x0 ≤ p.0) × (p.0 < (turned d T).x1)
  pub along : ((turned d T).y0 ≤ p.1) × (p.1 < (turned d T).y1)

abbrev pub TilesApart : Tile → Tile → Type 0
TilesApart T R = (d : Pass) (p : Piece) → In T d p → In R d p → ⊥

abbrev pub AllApart : List Tile → Type 0
AllApart [] = Unit {0}
AllApart (T ∷ ts) = All (TilesApart T) ts × AllApart ts

pub record Parted (G : Grid) (ts : List Tile) : Type 0 where
  pub apart : AllApart ts
  pub every : (d : Pass) (p : Piece) → p.0 < units_of G d → p.1 < units_of G (other d) → (T : Tile) × Memᴰ T ts × In T d p

pub data TilesRecorded (D : Frame) (plane : ℕ) (G : Grid) (start : ℕ) : List Tile → List ℕ → List ℕ → Type 0 where
  done : (m : List ℕ) → TilesRecorded D plane G start [] m m
  tile : (T : Tile) (ts : List Tile) (l : List SeenBlock) (s t : State) (n : List ℕ) → ((d : Pass) → InTile D plane G d (turned d T) l s t start)
      → TilesRecorded D plane G start ts t.masks n → TilesRecorded D plane G start (T ∷ ts) s.masks n

-- ---- their starts

pub record Fix : Type 0 where
  pub start : Start
  pub context : List ℕ
  pub context-uv : List ℕ

pub data Corrected : List Fix → List ℕ → List ℕ → Type 0 where
  done : (m : List ℕ) → Corrected [] m m
  fix : (k : Fix) (l : List Fix) (m n o : List ℕ) → CorrectAnswer k.start k.context k.context-uv 0 m n → Corrected l n o → Corrected (k ∷ l) m o

pub record Fixes (k : Fix) (luma : Bool) (d : Pass) (p : Piece) : Type 0 where
  pub pass : pass_of k.start.rowwise ≡ d
  pub past : 0 < begin k.start
  pub unit : CorrectedUnit k.start luma p

abbrev pub kept_at : Fix → Bool → Piece → ℕ
kept_at k luma p = get_or (cond luma k.context k.context-uv) (p.1 - first k.start luma) 0

abbrev pub Never : Bool → Pass → Piece → List Fix → Type 0
Never luma d p l = All (λ k. ¬ (Fixes k luma d p)) l

abbrev pub FixedOnce : Bool → Pass → Piece → ℕ → List Fix → Type 0
FixedOnce luma d p v [] = ⊥
FixedOnce luma d p v (k ∷ l) = (Fixes k luma d p × (kept_at k luma p ≡ v) × Never luma d p l) ⊎ ((¬ (Fixes k luma d p)) × FixedOnce luma d p v l)

pub record AtStarts (D : Frame) (plane : ℕ) (G : Grid) (ts : List Tile) (l : List Fix) : Type 0 where
  pub frame : All (λ k. grid_at k.start G.luma ≡ G) l
  pub starts : (d : Pass) (p : Piece) → p.0 < units_of G d → p.1 < units_of G (other d) → (T : Tile) → Memᴰ T ts → In T d p
      → p.0 ≡ (turned d T).x0 → 0 < p.0 → FixedOnce G.luma d p (transform_class D plane d (p.0 - 1) p.1) l
  pub rest : (d : Pass) (p : Piece) → p.0 < units_of G d → p.1 < units_of G (other d) → (T : Tile) → Memᴰ T ts → In T d p
      → ¬ ((p.0 ≡ (turned d T).x0) × (0 < p.0)) → Never G.luma d p l

pub record InTiles (D : Frame) (plane : ℕ) (G : Grid) (start : ℕ) (ts : List Tile) (l : List Fix) (m n o : List ℕ) : Type 0 where
  pub tallies : Tallies D plane G
  pub parted : Parted G ts
  pub clear : (d : Pass) (p : Piece) (c : ℕ) → p.0 < units_of G d → p.1 < units_of G (other d) → c < classes G → is_set m (edge_bit G d p c) ≡ false
  pub recorded : TilesRecorded D plane G start ts m n
  pub corrected : Corrected l n o
  pub starts : AtStarts D plane G ts l
