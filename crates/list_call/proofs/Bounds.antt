-- Level values and level bytes stay below 256, and a number is at most `form`, line by line.
use mathlib.Core.Bool.{Bool, true, false, cond, not, ◌&&◌}
use mathlib.Core.List.{List, [], ◌∷◌}
use mathlib.Core.Logic.{by_cases}
use Prim.Native.Nat.{ℕ, ◌+◌, ◌*◌, ◌/◌, ◌%◌, ◌<◌, ◌≤◌}
use native.Mathlib.Decide.{ℕ_discrete, dec_lt}
use native.Mathlib.Omega.{arith}
use lib.Dec.{eqb, ltb}
use lib.ListN.{length, set, replicate, get_or-eq_default}
use lib.Seq.{set_out, get_or-set_same, get_or-set_other}
use Rattle.bits.proofs.Marks.{zero-at}
use Rattle.loops.specs.Table.{tabulate}
use Rattle.loops.proofs.Runs.{up_to-holds}
use Rattle.loops.proofs.Tables.{length-tabulate, get_d_tabulate}
use Rattle.loops.specs.Flag.{on}
use Rattle.units.specs.Layout.{layout_ok}
use Rattle.units.specs.Frame.{superblock_ok}
use Rattle.levels.specs.Levels.{LevelsIn, out_of_range, levels_number, byte_at}
use Rattle.levels.proofs.Values.{level-small}
use Rattle.block.specs.declared.Block.{Block}
use Rattle.block.specs.Block.{w4, sees_luma, sees_chroma, Lent, at_block}
use Rattle.block.specs.Tests.{shape_bad, code_bad, place_bad, tx_bad, max_tx_bad, ref_bad, luma_contexts_bad, chroma_contexts_bad, length_bad, number}
use Rattle.record.specs.Record.{fill_row, fill_levels, luma_levels}
use Rattle.list_fields.specs.Word.{Bytes}
use Rattle.list_script.specs.Line.{Line, Frame, Level, Block as BlockLine, Form}
use Rattle.list_steps.specs.State.{State, form, state_of}
use Rattle.list_steps.specs.Steps.{Kept, counted, refused_by, refused, side_ok, depth_ok, frame_number, framed, bases, levelled, block_of, stored, blocked, said, taken, step_of}
use Rattle.list_call.specs.Listing.{start, after}

-- ---- bytes

set-bytes : (l : List ℕ) (i v : ℕ) → v < 256 → Bytes l → Bytes (set l i v)
set-bytes l i v h b j =
    by_cases (ℕ_discrete j i)
    (λ e.
    by_cases (dec_lt i (length l))
    (λ g. rw (e, get_or-set_same l i v 0 g) h)
    (λ g. rw (set_out l i v (omega arith)) (b j)))
    (λ n. rw (get_or-set_other l i j v 0 n) (b j))

cond-bytes : (c : Bool) (l k : List ℕ) → Bytes l → Bytes k → Bytes (cond c l k)
cond-bytes true l k p q = p
cond-bytes false l k p q = q

fill-bytes : (at level-stride w h u v : ℕ) (l : List ℕ) → u < 256 → v < 256 → Bytes l → Bytes (fill_levels at level-stride w h u v l)
unfolding fill_levels fill_row
fill-bytes at level-stride w h u v l p q b =
    up_to-holds Bytes (λ j. fill_row (at + 4 * (j * level-stride)) w u v) h
    (λ j g m c.
    up_to-holds Bytes (λ i t. set (set t (at + 4 * (j * level-stride) + 4 * i) u) (at + 4 * (j * level-stride) + 4 * i + 1) v) w
    (λ i f t d. set-bytes (set t (at + 4 * (j * level-stride) + 4 * i) u) (at + 4 * (j * level-stride) + 4 * i + 1) v q (set-bytes t (at + 4 * (j * level-stride) + 4 * i) u p d))
    m c)
    l b

stored_bytes : (b : Block) (values : List ℕ) (m : Lent) → Bytes values → Bytes m.levels → Bytes (stored b values m).levels
stored_bytes b values m v l =
    cond-bytes (sees_chroma b) _ _ (fill-bytes _ _ _ _ _ _ _ (v _) (v _) luma) luma
  where
    luma : Bytes (luma_levels b (w4 b) values m.levels)
    luma = cond-bytes (sees_luma b) _ _ (fill-bytes _ _ _ _ _ _ _ (v _) (v _) l) l

values-bytes : (x : LevelsIn) → Bytes (tabulate (byte_at x) 64)
values-bytes x i =
    by_cases (dec_lt i 64)
    (λ h. rw (get_d_tabulate (byte_at x) 64 i h) (omega (arith, level-small x (i / 64) (i / 16 % 4) (i / 2 % 8) (i % 2))))
    (λ h. rw (get_or-eq_default (tabulate (byte_at x) 64) 0 {n = i} (omega (arith, length-tabulate (byte_at x) 64))) (omega arith))

-- ---- numbers

most : (b : Bool) (n r : ℕ) → n ≤ form → r ≤ form → cond b n r ≤ form
most true n r p q = p
most false n r p q = q

frame-most : (width height layout depth superblock sharpness : ℕ) → frame_number width height layout depth superblock sharpness ≤ form
unfolding frame_number
frame-most width height layout depth superblock sharpness =
    most (ltb 7 sharpness) 1 _ (omega arith)
    (most (not (depth_ok depth)) 3 _ (omega arith)
    (most (layout_ok layout && (side_ok width && (side_ok height && superblock_ok superblock))) 0 4 (omega arith) (omega arith)))

levels-most : (layout : ℕ) (x : LevelsIn) → levels_number layout x ≤ form
unfolding levels_number
levels-most layout x =
    most (out_of_range layout x.base x.ref x.mode x.lf x.seg) 2 _ (omega arith) (most (not (layout_ok layout)) 4 0 (omega arith) (omega arith))

block-most : (b : Block) (level-stride : ℕ) (m : Lent) → number b level-stride m ≤ form
unfolding number
block-most b level-stride m =
    most (shape_bad b) 4 _ (omega arith)
    (most (code_bad b) 5 _ (omega arith)
    (most (place_bad b) 5 _ (omega arith)
    (most (tx_bad b) 5 _ (omega arith)
    (most (max_tx_bad b) 5 _ (omega arith)
    (most (ref_bad b) 5 _ (omega arith)
    (most (luma_contexts_bad b m.above m.left) 6 _ (omega arith)
    (most (chroma_contexts_bad b m.above-uv m.left-uv) 6 _ (omega arith)
    (most (length_bad b level-stride (length m.levels) (length m.masks)) 7 0 (omega arith) (omega arith)))))))))

-- ---- a line, and all

pub record Bounded (k : Kept) : Type 0 where
  pub number : k.state.number ≤ form
  pub values : Bytes k.values
  pub levels : Bytes k.memory.levels

either : (b : Bool) (x y : Kept) → Bounded x → Bounded y → Bounded (cond b x y)
either true x y p q = p
either false x y p q = q

refused-bounded : (k : Kept) (n : ℕ) → n ≤ form → Bounded k → Bounded (refused k n)
refused-bounded k n h b = record { number = h; values = b.values; levels = b.levels }

framed-most : (s : State) (width height layout depth superblock sharpness : ℕ) → s.number ≤ form → (framed s width height layout depth superblock sharpness).number ≤ form
unfolding framed
framed-most s width height layout depth superblock sharpness h =
    go (frame_number width height layout depth superblock sharpness) (eqb (frame_number width height layout depth superblock sharpness) 0)
    (frame-most width height layout depth superblock sharpness)
  where
    go : (n : ℕ) (b : Bool) → n ≤ form → (cond b (state_of s.line 1 0 width height layout) (refused_by s n)).number ≤ form
    go n true h = omega arith
    go n false h = h

levelled-bounded : (k : Kept) (x : LevelsIn) → Bounded k → Bounded (levelled k x)
unfolding levelled
levelled-bounded k x b =
    let s = k.state in
    let n = levels_number s.layout x in
    either (eqb n 0)
    (record { state = state_of s.line 2 0 s.width s.height s.layout; values = tabulate (byte_at x) 64; memory = k.memory })
    (refused k n)
    (record { number = omega arith; values = values-bytes x; levels = b.levels })
    (refused-bounded k n (levels-most s.layout x) b)

blocked-bounded : (k : Kept) (b : Block) → Bounded k → Bounded (blocked k b)
unfolding blocked
blocked-bounded k b h =
    let n = number b (w4 b) (at_block b k.memory) in
    either (eqb n 0)
    (record { state = k.state; values = k.values; memory = stored b k.values k.memory })
    (refused k n)
    (record { number = h.number; values = h.values; levels = stored_bytes b k.values k.memory h.values h.levels })
    (refused-bounded k n (block-most b (w4 b) (at_block b k.memory)) h)

taken-bounded : (k : Kept) (l : Line) → Bounded k → Bounded (taken k l)
taken-bounded k (Frame width height layout depth superblock sharpness) h =
    either (eqb k.state.phase 0)
    (record { state = framed k.state width height layout depth superblock sharpness; values = k.values; memory = k.memory })
    (refused k form)
    (record { number = framed-most k.state width height layout depth superblock sharpness h.number; values = h.values; levels = h.levels })
    (refused-bounded k form (omega arith) h)
taken-bounded k (Level columns rows u v) h =
    either (eqb k.state.phase 1) (levelled k (bases columns rows u v)) (refused k form) (levelled-bounded k (bases columns rows u v) h)
    (refused-bounded k form (omega arith) h)
taken-bounded k (BlockLine x y size tx chroma uvtx) h =
    let b = block_of k.state x y size tx chroma uvtx in
    either (eqb k.state.phase 2) (blocked k b) (refused k form) (blocked-bounded k b h) (refused-bounded k form (omega arith) h)
taken-bounded k Form h = refused-bounded k form (omega arith) h

step-bounded : (k : Kept) (s : List ℕ) → Bounded k → Bounded (step_of k s)
unfolding step_of
step-bounded k s h =
    let m : Kept = record { state = counted k.state; values = k.values; memory = k.memory } in
    either (on k.state.number) k (taken m (said s)) h (taken-bounded m (said s) (record { number = h.number; values = h.values; levels = h.levels }))

pub after-bounded : (k : Kept) (ls : List (List ℕ)) → Bounded k → Bounded (after k ls)
after-bounded k [] h = h
after-bounded k (l ∷ ls) h = after-bounded (step_of k l) ls (step-bounded k l h)

zeros : (n : ℕ) → Bytes (replicate n 0)
zeros n i = rw (zero-at n i) (omega arith)

pub start-bounded : Bounded start
unfolding start
start-bounded = record { number = omega arith; values = zeros 64; levels = zeros 16384 }
