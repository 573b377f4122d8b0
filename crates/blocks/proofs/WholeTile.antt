-- A tile that is the whole frame, rounded up to 8 samples, shows all units of the frame in each plane.
use mathlib.Core.Bool.{Bool}
use mathlib.Core.Path.{◌≡◌}
use Prim.Native.Nat.{ℕ, zero, suc, ◌%◌, ◌≤◌, min}
use native.Mathlib.Omega.{arith}
use Rattle.plane.specs.Line.{Pass, columns, rows}
use Rattle.units.specs.Units.{chroma_unit, chroma_units}
use Rattle.edges.specs.Edges.{grid_of}
use Rattle.covering.specs.Cover.{SoundAxis}
use Rattle.drawn.specs.Run.{whole_of}
use Rattle.blocks.specs.Laid.{TileArea, axis_of, tile_in, WholeFrame}

begins : (ss u : ℕ) → ss ≤ 1 → u ≡ 0 → chroma_unit ss u ≡ 0
begins zero u h e = omega arith
begins (suc zero) u h e = omega arith
begins (suc (suc s)) u h e = absurd (omega arith)

ends : (ss all mi last : ℕ) → ss ≤ 1 → last ≡ mi → mi % 2 ≡ 0 → all ≤ mi → min (chroma_unit ss last) (chroma_units ss all) ≡ chroma_units ss all
ends zero all mi last h e m l = omega arith
ends (suc zero) all mi last h e m l = omega arith
ends (suc (suc s)) all mi last h e m l = absurd (omega arith)

pub whole-tile : (A : TileArea) (luma : Bool) (sx sy : ℕ) → ((d : Pass) → SoundAxis (axis_of A sx sy d)) → WholeFrame A → (d : Pass)
    → tile_in A sx sy d ≡ whole_of (grid_of luma sx sy A.w4 A.h4) d
whole-tile A luma sx sy S W = elim [ columns ↦ λ i. record { x0 = x0 i; x1 = x1 i; y0 = y0 i; y1 = y1 i } | rows ↦ λ i. record { x0 = y0 i; x1 = y1 i; y0 = x0 i; y1 = x1 i } ]
  where
    x0 : chroma_unit sx A.x0 ≡ 0
    x0 = begins sx A.x0 (S columns).sub W.left

    y0 : chroma_unit sy A.y0 ≡ 0
    y0 = begins sy A.y0 (S rows).sub W.top

    x1 : min (chroma_unit sx A.x1) (chroma_units sx A.w4) ≡ chroma_units sx A.w4
    x1 = ends sx A.w4 A.MiCols A.x1 (S columns).sub W.right (S columns).mi-even (S columns).up

    y1 : min (chroma_unit sy A.y1) (chroma_units sy A.h4) ≡ chroma_units sy A.h4
    y1 = ends sy A.h4 A.MiRows A.y1 (S rows).sub W.bottom (S rows).mi-even (S rows).up
