-- What accepted calls for legal blocks draw of a frame of one tile is what the standard filters of it: the tile shows all its units, and each lies in a block.
use mathlib.Core.Bool.{true, false}
use mathlib.Core.List.{List}
use mathlib.Core.Path.{◌≡◌, sym, ap, ap₂, subst}
use Prim.Native.Nat.{ℕ}
use native.Mathlib.Omega.{arith}
use Rattle.standard.specs.Edge as standard
use Rattle.plane.specs.Line.{Pass, columns, rows}
use Rattle.units.specs.Units.{chroma_units}
use Rattle.edges.specs.Edges as edges
use Rattle.edges.specs.Edges.{Grid, luma_grid, chroma_grid}
use Rattle.mask_edges.proofs.BlockPasses.{chroma-low}
use Rattle.mask_edges.proofs.CellTables.{luma-low}
use Rattle.block.specs.Block.{Lent}
use Rattle.frames.specs.Calls.{Frame}
use Rattle.covering.specs.Front.{Tile, Begins}
use Rattle.covering.specs.Standard.{frame_units, Covered}
use Rattle.drawn.specs.Calls.{RecordCall, luma_state, chroma_state}
use Rattle.drawn.specs.Run.{State, context_in, Tallies, InTile, whole_of, OneTile}
use Rattle.blocks.specs.Laid.{TileArea, tile_in, TileDrawn}
use Rattle.blocks.proofs.Theorems as blocks
use Rattle.kept.specs.Holds.{frame_grid, HoldsEdges, Begun, LumaCalls, ChromaCalls}
use Rattle.kept.proofs.GapOfHeld.{recorded}

module _ (f : Frame) (D : standard.Frame) (n : ℕ) (G : Grid) (A : TileArea) (sx sy : ℕ) (s t : State) (start : ℕ) (units : frame_grid f n ≡ G) (T : Tallies D n G)
    (whole : (d : Pass) → tile_in A sx sy d ≡ whole_of G d) where
  begins : Begun G start s → (d : Pass) → Begins start (tile_in A sx sy d) (context_in d s)
  begins B d = subst (λ (R : Tile). Begins start R (context_in d s)) (sym (whole d)) (λ j _ h. B.contexts d j h)

  across-is : (d : Pass) → frame_units D n d ≡ edges.units_of G d
  across-is columns = ap₂ chroma_units T.right-ss (sym T.width)
  across-is rows = ap₂ chroma_units T.down-ss (sym T.height)

  covered : TileDrawn D n G A sx sy s t start → Covered D n
  covered r x y hx hy =
      let w = whole columns in
      r.lies x y (omega (arith, ap (λ (R : Tile). R.x0) w)) (omega (arith, ap (λ (R : Tile). R.x1) w, across-is columns))
      (omega (arith, ap (λ (R : Tile). R.y0) w)) (omega (arith, ap (λ (R : Tile). R.y1) w, across-is rows))

  one-tile : TileDrawn D n G A sx sy s t start → Begun G start s → f.masks ≡ t.masks → HoldsEdges f D n
  one-tile r B e =
      subst (λ (H : Grid). frame_grid f n ≡ H → Tallies D n H → OneTile D n H r.blocks s t start → HoldsEdges f D n) units
      (λ _ T O. recorded f D n r.blocks s t start T O (covered r) e) units T
      (record { tile = λ d. subst (λ (R : Tile). InTile D n G d R r.blocks s t start) (whole d) (r.in-tile d); clear = B.clear })

pub luma-calls : (f : Frame) (D : standard.Frame) (level-stride : ℕ) (A : TileArea) (l : List RecordCall) (m n : Lent) → LumaCalls f D level-stride A l m n → HoldsEdges f D 0
luma-calls f D level-stride A l m n L =
    let w = (blocks.promises).whole A true 0 0 L.laid.sound L.whole in
    let r = (blocks.promises).luma D level-stride A l m n 2 L.tallies L.calls L.legal L.laid L.long (λ k. omega (arith, luma-low k))
    (begins f D 0 (luma_grid A.w4 A.h4) A 0 0 (luma_state m) (luma_state n) 2 L.units L.tallies w L.begun) in
    one-tile f D 0 (luma_grid A.w4 A.h4) A 0 0 (luma_state m) (luma_state n) 2 L.units L.tallies w r L.begun L.masks

pub chroma-calls : (f : Frame) (D : standard.Frame) (sx sy level-stride : ℕ) (A : TileArea) (l : List RecordCall) (m n : Lent)
    → ChromaCalls f D sx sy level-stride A l m n → HoldsEdges f D 1
chroma-calls f D sx sy level-stride A l m n L =
    let w = (blocks.promises).whole A false sx sy L.laid.sound L.whole in
    let r = (blocks.promises).chroma D 1 level-stride A sx sy l m n 1 L.tallies L.calls L.legal L.laid L.long (λ k. omega (arith, chroma-low k))
    (begins f D 1 (chroma_grid sx sy A.w4 A.h4) A sx sy (chroma_state m) (chroma_state n) 1 L.units L.tallies w L.begun) in
    one-tile f D 1 (chroma_grid sx sy A.w4 A.h4) A sx sy (chroma_state m) (chroma_state n) 1 L.units L.tallies w r L.begun L.masks
