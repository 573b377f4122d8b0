-- What a line does, case by case: the line comes out of turn, its number refuses it, or it is done; each rewrites the definition by its tests.
use mathlib.Core.Bool.{cond}
use mathlib.Core.List.{List}
use mathlib.Core.Path.{◌≡◌, refl}
use Prim.Native.Nat.{ℕ}
use borrow.Author.Tests.{eq-eqb, ne_eqb}
use lib.Dec.{eqb}
use Rattle.loops.specs.Table.{tabulate}
use Rattle.levels.specs.Levels.{byte_at, levels_number}
use Rattle.list_script.specs.Line.{Frame, Level, Block as BlockLine}
use Rattle.list_steps.specs.State.{form, state_of}
use Rattle.list_steps.specs.Steps.{said, Kept, kept, counted, refused, frame_number, framed, bases, levelled, block_of, blocked, taken, step_of}

-- ---- a frame line

module _ (k : Kept) (width height layout depth superblock sharpness : ℕ) {o : Kept} where
  pub frame-form : ¬ (k.state.phase ≡ 0) → o ≡ refused k form → o ≡ taken k (Frame width height layout depth superblock sharpness)
  frame-form p e = rw (e, ne_eqb k.state.phase 0 p) refl

  module _ {n : ℕ} (p : k.state.phase ≡ 0) (f : n ≡ frame_number width height layout depth superblock sharpness) where
    pub frame_refused : ¬ (n ≡ 0) → o ≡ refused k n → o ≡ taken k (Frame width height layout depth superblock sharpness)
    unfolding framed
    frame_refused z e = rw (e, eq-eqb k.state.phase 0 p, ← f, ne_eqb n 0 z) refl

    pub frame-done : n ≡ 0 → o ≡ kept (state_of k.state.line 1 0 width height layout) k.values k.memory
        → o ≡ taken k (Frame width height layout depth superblock sharpness)
    unfolding framed
    frame-done z e = rw (e, eq-eqb k.state.phase 0 p, ← f, eq-eqb n 0 z) refl

-- ---- a level line

module _ (k : Kept) (columns rows u v : ℕ) {o : Kept} where
  pub level-form : ¬ (k.state.phase ≡ 1) → o ≡ refused k form → o ≡ taken k (Level columns rows u v)
  level-form p e = rw (e, ne_eqb k.state.phase 1 p) refl

  module _ {n : ℕ} (p : k.state.phase ≡ 1) (f : n ≡ levels_number k.state.layout (bases columns rows u v)) where
    pub level-refused : ¬ (n ≡ 0) → o ≡ refused k n → o ≡ taken k (Level columns rows u v)
    unfolding levelled
    level-refused z e = rw (e, eq-eqb k.state.phase 1 p, ← f, ne_eqb n 0 z) refl

    pub level-done : {l : List ℕ} → n ≡ 0 → l ≡ cond (eqb n 0) (tabulate (byte_at (bases columns rows u v)) 64) k.values
        → o ≡ kept (state_of k.state.line 2 0 k.state.width k.state.height k.state.layout) l k.memory → o ≡ taken k (Level columns rows u v)
    unfolding levelled
    level-done z g e = rw (e, g, eq-eqb k.state.phase 1 p, ← f, eq-eqb n 0 z) refl

-- ---- a block line

module _ (k : Kept) (x y size tx chroma uvtx : ℕ) {o : Kept} where
  pub block-form : ¬ (k.state.phase ≡ 2) → o ≡ refused k form → o ≡ taken k (BlockLine x y size tx chroma uvtx)
  block-form p e = rw (e, ne_eqb k.state.phase 2 p) refl

  pub block-taken : k.state.phase ≡ 2 → o ≡ blocked k (block_of k.state x y size tx chroma uvtx) → o ≡ taken k (BlockLine x y size tx chroma uvtx)
  block-taken p e = rw (e, eq-eqb k.state.phase 2 p) refl

-- ---- any line

module _ (k : Kept) (line : List ℕ) where
  pub step-none : ¬ (k.state.number ≡ 0) → k ≡ step_of k line
  unfolding step_of
  step-none z = rw (ne_eqb k.state.number 0 z) refl

  pub step-taken : {o : Kept} → k.state.number ≡ 0 → o ≡ taken (kept (counted k.state) k.values k.memory) (said line) → o ≡ step_of k line
  unfolding step_of
  step-taken z h = rw (eq-eqb k.state.number 0 z) h
