-- What is promised of a step.
--   Proper s        from phase 1 on the frame is one that the listing takes
--   Alike m n       each part of the lent memory has the same length
--   Before b m n    the contexts before the block b are the same
--   Promises
use Rattle.std.specs.Prelude.{true, List, [], ◌≡◌, ℕ, ◌<◌, ◌≤◌, length, take}
use Rattle.units.specs.Layout.{layout_ok}
use Rattle.block.specs.declared.Block.{Block}
use Rattle.block.specs.Block.{w4, Lent, cx, cy, at_block}
use Rattle.record.specs.Recorded.{Stored}
use Rattle.list_script.specs.Line.{Block as BlockLine}
use Rattle.list_steps.specs.State.{State}
use Rattle.list_steps.specs.Steps.{Kept, said, block_of, step_of}

pub record Proper (s : State) : Type 0 where
  pub width : 0 < s.phase → (1 ≤ s.width) × (s.width ≤ 256)
  pub height : 0 < s.phase → (1 ≤ s.height) × (s.height ≤ 256)
  pub layout : 0 < s.phase → layout_ok s.layout ≡ true

pub record Alike (m n : Lent) : Type 0 where
  pub levels : length m.levels ≡ length n.levels
  pub masks : length m.masks ≡ length n.masks
  pub above : length m.above ≡ length n.above
  pub left : length m.left ≡ length n.left
  pub above-uv : length m.above-uv ≡ length n.above-uv
  pub left-uv : length m.left-uv ≡ length n.left-uv

pub record Before (b : Block) (m n : Lent) : Type 0 where
  pub above : take b.x.0 m.above ≡ take b.x.0 n.above
  pub left : take b.y.0 m.left ≡ take b.y.0 n.left
  pub above-uv : take (cx b) m.above-uv ≡ take (cx b) n.above-uv
  pub left-uv : take (cy b) m.left-uv ≡ take (cy b) n.left-uv

pub record Promises : Type 0 where
  pub proper : (k : Kept) (s : List ℕ) → Proper k.state → Proper (step_of k s).state
  pub alike : (k : Kept) (s : List ℕ) → Alike (step_of k s).memory k.memory
  -- an accepted block is recorded, with contexts that begin at it; what stands before it in them stays
  pub records : (k : Kept) (s : List ℕ) (x y size tx chroma uvtx : ℕ)
      → k.state.number ≡ 0 → said s ≡ BlockLine x y size tx chroma uvtx → (step_of k s).state.number ≡ 0
      → let b = block_of k.state x y size tx chroma uvtx in
      Stored b (w4 b) k.values [] (at_block b k.memory) (at_block b (step_of k s).memory)
  pub before : (k : Kept) (s : List ℕ) (x y size tx chroma uvtx : ℕ)
      → said s ≡ BlockLine x y size tx chroma uvtx → Before (block_of k.state x y size tx chroma uvtx) (step_of k s).memory k.memory
  -- a line that is no accepted block leaves the memory alone
  pub keeps : (k : Kept) (s : List ℕ)
      → ((x y size tx chroma uvtx : ℕ) → ¬ (said s ≡ BlockLine x y size tx chroma uvtx)) → (step_of k s).memory ≡ k.memory
  pub refused : (k : Kept) (s : List ℕ) → ¬ ((step_of k s).state.number ≡ 0) → (step_of k s).memory ≡ k.memory
