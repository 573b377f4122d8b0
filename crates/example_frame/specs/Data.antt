-- A small frame: 16 by 72 samples of 4:2:0 in superblocks of 64, so two superblock rows, and units 16 of luma and 8 of chroma on their boundary.
--   call, head               its calls, and one of them
--   edges_of n d k           the edges of plane n in superblock row k, with their classes
--   bits, masks, levels      the bits of those edges, and the masks that have them; level 32 everywhere
--   limits                   the limit table of sharpness 3
--   quarters                 samples of four quarters, which meet 4 samples from the left on the boundary; w samples a line, h lines above it
--   samples_of n, lent       those of plane n; and all that the calls are lent
--   plane_of n               plane n
use Rattle.std.specs.Prelude.{Bool, false, cond, List, [], ◌∷◌, ◌++◌, map, ℕ, zero, suc, ◌*◌, ◌%◌, ltb, length, get_or, replicate}
use Rattle.loops.specs.Table.{tabulate}
use Rattle.bits.specs.Mark.{marks}
use Rattle.plane.specs.Line.{Pass, columns, rows, Piece}
use Rattle.plane.specs.Plane.{Plane}
use Rattle.edges.specs.Edges.{edge_bit}
use Rattle.limits.specs.Limits.{limits_of}
use Rattle.checks.specs.declared.Call.{Call}
use Rattle.checks.specs.Call.{Lent, grid_of}
use Rattle.apply.specs.Apply.{Limits, plane_at}

abbrev pub call : Bool → ℕ → Call
call rowwise k =
    record {
      width = record { 0 = 16 };
      height = record { 0 = 72 };
      layout = 420;
      superblock = 64;
      depth = 8;
      level_u = 32;
      level_v = 32;
      row = k;
      rowwise = rowwise;
      luma_stride = 128;
      chroma_stride = 64;
      level_stride = 4;
    }

abbrev pub head : Call
head = call false 0

abbrev luma_edges : Pass → ℕ → List (Piece × ℕ)
luma_edges columns zero = ((1, 15), 0) ∷ []
luma_edges columns (suc k) = ((1, 16), 0) ∷ []
luma_edges rows zero = ((12, 0), 2) ∷ ((15, 1), 0) ∷ []
luma_edges rows (suc k) = ((16, 0), 2) ∷ ((16, 1), 0) ∷ ((17, 1), 0) ∷ []

abbrev chroma_edges : Pass → ℕ → List (Piece × ℕ)
chroma_edges columns zero = ((1, 7), 0) ∷ []
chroma_edges columns (suc k) = ((1, 8), 0) ∷ []
chroma_edges rows zero = ((6, 0), 1) ∷ ((7, 1), 0) ∷ []
chroma_edges rows (suc k) = ((8, 0), 1) ∷ ((8, 1), 0) ∷ []

abbrev pub edges_of : ℕ → Pass → ℕ → List (Piece × ℕ)
edges_of zero = luma_edges
edges_of (suc n) = chroma_edges

abbrev bits_of : ℕ → Pass → List ℕ
bits_of n d = map (λ e. edge_bit (grid_of head n) d e.0 e.1) (edges_of n d 0 ++ edges_of n d 1)

unfoldable pub bits : List ℕ
bits = (bits_of 0 columns ++ bits_of 0 rows) ++ (bits_of 1 columns ++ bits_of 1 rows)

unfoldable pub masks : List ℕ
masks = marks (length bits) (λ n. get_or bits n 0) (replicate 640 0)

unfoldable pub levels : List ℕ
levels = replicate 288 32

abbrev pub limits : Limits
limits = record { e = (limits_of 3).table.e; i = (limits_of 3).table.i }

unfoldable pub quarters : ℕ → ℕ → ℕ → ℕ
quarters w h i = cond (ltb i (w * h)) (cond (ltb (i % w) 4) 100 90) (cond (ltb (i % w) 4) 110 122)

unfoldable pub samples_of : ℕ → List ℕ
samples_of zero = tabulate (quarters 128 64) 16384
samples_of (suc n) = tabulate (quarters 64 32) 4096

abbrev pub lent : Lent
lent = record { luma = samples_of 0; u = samples_of 1; v = samples_of 2; levels = levels; masks = masks }

abbrev pub plane_of : ℕ → Plane
plane_of = plane_at head limits lent
