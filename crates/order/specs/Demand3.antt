-- Demand 3: the order of the edge pieces does not matter.
--     Order, OrderIn                   a list that has each edge piece of a pass once, over the frame or in one superblock row
--     Divided                          what holds of a division into parts, each the work of one of several workers
--     Demand3                          of one plane
--     NearSample, Sees                 how far a sample sees
--     all_of, Orders, Frame3           of the three planes of a frame together
use Rattle.std.specs.Prelude.{ℕ, ◌+◌, ◌*◌, ◌/◌, ◌%◌, ◌≤◌, ◌<◌, ◌≡◌, List, [], ◌∷◌, length, get_or, take, drop}
use Rattle.loops.specs.Run.{run, Once, up_to}
use Rattle.plane.specs.Line.{Pass, columns, rows, Piece}
use Rattle.plane.specs.Plane.{Plane, act, IsPiece, Anywhere, InRow, cols_of, rows_of, raster_of}
use Rattle.plane.specs.Three.{Three, cols_call, rows_call}
use Rattle.order.specs.Parts.{flat, part, Interleaving, MayWrite, Merged}

abbrev pub Order : Plane → Pass → List Piece → Type 0
Order P d l = Once Anywhere (IsPiece P d) l

abbrev pub OrderIn : Plane → Pass → ℕ → List Piece → Type 0
OrderIn P d k l = Once (InRow P d k) (IsPiece P d) l

-- of the parts qs, beside the order m
pub record Divided (P : Plane) (d : Pass) (qs : List (List Piece)) (m : List Piece) : Type 0 where
  -- no two parts may write one sample
  pub one-part : (a b i : ℕ) → MayWrite P d (part qs a) i → MayWrite P d (part qs b) i → a ≡ b
  -- each part run on the samples as they were, and each sample taken from the part that may write it: the same samples, and no others
  pub merged : (s : List ℕ) → Merged P d qs s (run (act P d) m s)
  pub only : (s t : List ℕ) → Merged P d qs s t → t ≡ run (act P d) m s
  -- any interleaving of the parts: the same samples
  pub interleaved : (l : List Piece) → Interleaving qs l → (s : List ℕ) → run (act P d) l s ≡ run (act P d) m s

pub record Demand3 (P : Plane) : Type 0 where
  -- there is an order
  pub an-order : (d : Pass) → (l : List Piece) × Order P d l
  -- in one pass, the edge pieces, each taken once, give the same samples in any order
  pub any_order : (d : Pass) (l m : List Piece) → Order P d l → Order P d m → (s : List ℕ) → run (act P d) l s ≡ run (act P d) m s
  -- and under any division into parts
  pub any-parts : (d : Pass) (qs : List (List Piece)) (m : List Piece) → Order P d (flat qs) → Order P d m → Divided P d qs m
  -- of which there are some: an order cut in two anywhere
  pub two-parts : (d : Pass) (m : List Piece) (n : ℕ) → Order P d m → Order P d (flat (take n m ∷ drop n m ∷ []))
  -- the calls for one superblock row give what any order of its edge pieces gives
  pub one-row-columns : (k : ℕ) (l : List Piece) → OrderIn P columns k l → (s : List ℕ) → cols_of P k s ≡ run (act P columns) l s
  pub one-row-rows : (k : ℕ) (l : List Piece) → OrderIn P rows k l → (s : List ℕ) → rows_of P k s ≡ run (act P rows) l s
  -- superblock row after superblock row, columns then rows of each: the samples of all columns of the frame, then all rows
  pub rows-in-turn : (l m : List Piece) → Order P columns l → Order P rows m → (s : List ℕ)
      → up_to (λ k t. rows_of P k (cols_of P k t)) P.sbs s ≡ run (act P rows) m (run (act P columns) l s)
  -- in the standard's own loops
  pub standard-order : (s : List ℕ) → up_to (λ k t. rows_of P k (cols_of P k t)) P.sbs s ≡ raster_of P rows (raster_of P columns s)
  pub standard-any : (d : Pass) (l : List Piece) → Order P d l → (s : List ℕ) → raster_of P d s ≡ run (act P d) l s

-- the place j is stored, and at most n samples from the place i each way, in a plane of stride S and width w
pub record NearSample (S w n i j : ℕ) : Type 0 where
  pub stored : j % S < w
  pub lower : i / S ≤ j / S + n
  pub upper : j / S ≤ i / S + n
  pub righter : i % S ≤ j % S + n
  pub lefter : j % S ≤ i % S + n

-- the whole run sees no farther than n samples
pub record Sees (P : Plane) (n : ℕ) : Type 0 where
  pub sees : (s t : List ℕ) → length s ≡ length t → (i : ℕ) → i % P.stride < 4 * (P.records * P.record_units)
      → ((j : ℕ) → NearSample P.stride (4 * (P.records * P.record_units)) n i j → get_or s j 0 ≡ get_or t j 0)
      → get_or (up_to (λ k u. rows_of P k (cols_of P k u)) P.sbs s) i 0 ≡ get_or (up_to (λ k u. rows_of P k (cols_of P k u)) P.sbs t) i 0

-- ---- the three planes of a frame

-- all edge pieces of one pass, in an order for each plane
unfoldable pub all_of : Three Plane → Pass → Three (List Piece) → Three (List ℕ) → Three (List ℕ)
all_of F d l s = record { luma = run (act F.luma d) l.luma s.luma; u = run (act F.u d) l.u s.u; v = run (act F.v d) l.v s.v }

pub record Orders (F : Three Plane) (d : Pass) (l : Three (List Piece)) : Type 0 where
  pub luma : Order F.luma d l.luma
  pub u : Order F.u d l.u
  pub v : Order F.v d l.v

-- superblock row after superblock row, columns then rows of each: the samples of all columns of the frame, then all rows
pub record Frame3 (F : Three Plane) (n : ℕ) : Type 0 where
  pub frame : (l m : Three (List Piece)) → Orders F columns l → Orders F rows m → (s : Three (List ℕ))
      → up_to (λ k t. rows_call F k (cols_call F k t)) n s ≡ all_of F rows m (all_of F columns l s)
