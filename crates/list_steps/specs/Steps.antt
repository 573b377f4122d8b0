-- A script, line after line: document 01, "Edge listing".
--   longest, said s      the bytes of the longest line; what the line s says
--   Kept, kept           what is kept from line to line: the frame, how far the script is, the level values and the lent memory
--   kept_of              what is kept, of what goes by value and of the two lent lists
--   after_line c r       what goes on after a line: what it leaves, or the state before, refused
--   counted              with one line more
--   refused_by, refused   the line is refused with the number n
--   side_ok, depth_ok, frame_number   of a frame line; sides are 1 to 256 samples
--   framed               and after it
--   bases, levelled      the level values' input, no delta and no segment; after a level line
--   block_of              the block of a block line
--   from, stored         a list made anew from a place on; the memory once the block is recorded
--   blocked              after a block line
--   taken k l            after the line l, which k has counted
--   step_of k s           after the line s in bytes; nothing changes once a line is refused
use Rattle.std.specs.Prelude.{Bool, Result, Ok, Err, cond, not, ◌&&◌, ◌||◌, List, [], ◌∷◌, ◌++◌, ℕ, ◌+◌, eqb, leb, ltb, pos, length, take, drop, replicate}
use Rattle.loops.specs.Table.{tabulate}
use Rattle.loops.specs.Flag.{on}
use Rattle.units.specs.Layout.{layout_ok}
use Rattle.units.specs.Frame.{superblock_ok}
use Rattle.levels.specs.Levels.{LevelsIn, levels_in, levels_number, byte_at}
use Rattle.block.specs.declared.Block.{Block}
use Rattle.block.specs.Block.{w4, Lent, lent, cx, cy, at_block}
use Rattle.block.specs.Tests.{number}
use Rattle.record.specs.Record.{intra_of, luma_levels, chroma_levels, luma_masks, chroma_masks, luma_above, luma_left, chroma_above, chroma_left}
use Rattle.list_script.specs.Script.{line_of}
use Rattle.list_script.specs.Line.{Line, Frame, Level, Block as BlockLine, Form}
use Rattle.list_steps.specs.State.{State, form, state_of, state_is, fault_number}
use Rattle.list_steps.specs.declared.Fault.{Fault}
use Rattle.list_steps.specs.declared.Carried.{Carried}

abbrev pub longest : ℕ
longest = 65535

unfoldable pub said : List ℕ → Line
said s = cond (ltb longest (length s)) Form (line_of s)

pub record Kept : Type 0 where
  pub state : State
  pub values : List ℕ
  pub memory : Lent

abbrev pub kept : State → List ℕ → Lent → Kept
kept s values m = record { state = s; values = values; memory = m }

abbrev pub kept_of : Carried → List ℕ → List ℕ → Kept
kept_of c levels masks = kept (state_is c.state) c.values (lent levels masks c.above c.left c.above_uv c.left_uv)

abbrev pub counted : State → State
counted s = state_of (s.line + 1) s.phase s.number s.width s.height s.layout

abbrev pub refused_by : State → ℕ → State
refused_by s n = state_of s.line s.phase n s.width s.height s.layout

abbrev pub refused : Kept → ℕ → Kept
refused k n = kept (refused_by k.state n) k.values k.memory

abbrev pub after_line : Carried → List ℕ → List ℕ → Result Carried Fault → Kept
after_line c levels masks (Ok d) = kept_of d levels masks
after_line c levels masks (Err f) = refused (kept_of c levels masks) (fault_number f)

-- ---- a frame line

abbrev pub side_ok : ℕ → Bool
side_ok n = leb 1 n && leb n 256

abbrev pub depth_ok : ℕ → Bool
depth_ok n = eqb n 8 || eqb n 10 || eqb n 12

unfoldable pub frame_number : ℕ → ℕ → ℕ → ℕ → ℕ → ℕ → ℕ
frame_number width height layout depth superblock sharpness =
    cond (ltb 7 sharpness) 1
    (cond (not (depth_ok depth)) 3
    (cond (layout_ok layout && (side_ok width && (side_ok height && superblock_ok superblock))) 0 4))

unfoldable pub framed : State → ℕ → ℕ → ℕ → ℕ → ℕ → ℕ → State
framed s width height layout depth superblock sharpness =
    let n = frame_number width height layout depth superblock sharpness in
    cond (eqb n 0) (state_of s.line 1 0 width height layout) (refused_by s n)

-- ---- a level line

abbrev pub bases : ℕ → ℕ → ℕ → ℕ → LevelsIn
bases columns rows u v =
    levels_in (columns ∷ rows ∷ u ∷ v ∷ []) 0 (replicate 8 (pos 0)) (replicate 2 (pos 0)) 0 (replicate 4 (pos 0)) 0 (replicate 32 (pos 0))

unfoldable pub levelled : Kept → LevelsIn → Kept
levelled k x =
    let s = k.state in
    let n = levels_number s.layout x in
    cond (eqb n 0)
    (kept (state_of s.line 2 0 s.width s.height s.layout) (tabulate (byte_at x) 64) k.memory)
    (refused k n)

-- ---- a block line

abbrev pub block_of : State → ℕ → ℕ → ℕ → ℕ → ℕ → ℕ → Block
block_of s = intra_of s.width s.height s.layout

-- l with what stands from `at` on made anew by f
abbrev pub from : ℕ → (List ℕ → List ℕ) → List ℕ → List ℕ
from at f l = take at l ++ f (drop at l)

abbrev pub stored : Block → List ℕ → Lent → Lent
stored b values m =
    let a = at_block b m in
    lent
    (chroma_levels b (w4 b) values (luma_levels b (w4 b) values m.levels))
    (chroma_masks b a.above-uv a.left-uv (luma_masks b [] a.above a.left m.masks))
    (from b.x.0 (luma_above b []) m.above)
    (from b.y.0 (luma_left b []) m.left)
    (from (cx b) (chroma_above b) m.above-uv)
    (from (cy b) (chroma_left b) m.left-uv)

unfoldable pub blocked : Kept → Block → Kept
blocked k b =
    let n = number b (w4 b) (at_block b k.memory) in
    cond (eqb n 0) (kept k.state k.values (stored b k.values k.memory)) (refused k n)

-- ---- any line

-- frame, level and block lines come in phase 0, 1 and 2
abbrev pub taken : Kept → Line → Kept
taken k (Frame width height layout depth superblock sharpness) =
    cond (eqb k.state.phase 0)
    (kept (framed k.state width height layout depth superblock sharpness) k.values k.memory)
    (refused k form)
taken k (Level columns rows u v) = cond (eqb k.state.phase 1) (levelled k (bases columns rows u v)) (refused k form)
taken k (BlockLine x y size tx chroma uvtx) =
    cond (eqb k.state.phase 2) (blocked k (block_of k.state x y size tx chroma uvtx)) (refused k form)
taken k Form = refused k form

unfoldable pub step_of : Kept → List ℕ → Kept
step_of k s =
    cond (on k.state.number) k (taken (kept (counted k.state) k.values k.memory) (said s))
