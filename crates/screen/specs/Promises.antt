-- What is filtered at the frame's end, and what is recorded there.
use Rattle.std.specs.Prelude.{true, ◌≡◌, ℕ, ◌≤◌}
use Rattle.loops.specs.Exactly.{Exactly}
use Rattle.standard.specs.Edge.{Frame}
use Rattle.block.specs.declared.Block.{Block}
use Rattle.block.specs.Block.{ss-hor, ss-ver}
use Rattle.record.specs.Recorded.{LumaSeen, ChromaSeen}
use Rattle.screen.specs.Screen.{unit_on_screen, UnitInFrame, AtStart, TakenIn, UnitOf}

pub record Promises : Type 0 where
  -- a unit is on the screen exactly if it lies in the frame, and not at unit 0 across the pass; in every plane and pass
  pub screen : (D : Frame) (plane pass x y : ℕ) → D.sx plane ≤ 1 → D.sy plane ≤ 1
      → Exactly (unit_on_screen D plane pass x y ≡ true) (UnitInFrame D plane x y × (¬ AtStart pass x y))
  -- a unit of a block is visible, so recorded, exactly if it lies in the frame
  pub luma : (D : Frame) (b : Block) → TakenIn D 0 b 0 0 → (x y : ℕ) → UnitOf D 0 b x y → Exactly (LumaSeen b x y) (UnitInFrame D 0 x y)
  pub chroma : (D : Frame) (plane : ℕ) (b : Block) → TakenIn D plane b (ss-hor b) (ss-ver b) → b.chroma ≡ true → (x y : ℕ) → UnitOf D plane b x y
      → Exactly (ChromaSeen b x y) (UnitInFrame D plane x y)
  -- so exactly if it is on the screen; at unit 0 across the pass it may be visible, and no edge is filtered there
  pub luma-screen : (D : Frame) (b : Block) → TakenIn D 0 b 0 0 → (pass x y : ℕ) → UnitOf D 0 b x y → ¬ AtStart pass x y
      → Exactly (LumaSeen b x y) (unit_on_screen D 0 pass x y ≡ true)
  pub chroma-screen : (D : Frame) (plane : ℕ) (b : Block) → TakenIn D plane b (ss-hor b) (ss-ver b) → b.chroma ≡ true → (pass x y : ℕ)
      → UnitOf D plane b x y → ¬ AtStart pass x y → Exactly (ChromaSeen b x y) (unit_on_screen D plane pass x y ≡ true)
