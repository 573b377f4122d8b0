-- What a line does to the state and the level values, by what line it is and the phase: the definition, rewritten by its tests.
use mathlib.Core.Bool.{Bool, true, false, cond}
use mathlib.Core.List.{List}
use mathlib.Core.Path.{◌≡◌, refl, sym, ◌∙◌}
use Prim.Native.Nat.{ℕ, ◌+◌}
use borrow.Author.Tests.{eq-eqb, ne_eqb, eqb-true}
use lib.Dec.{eqb}
use Rattle.loops.specs.Table.{tabulate}
use Rattle.levels.specs.Levels.{byte_at, levels_number}
use Rattle.block.specs.Block.{w4, at_block}
use Rattle.block.specs.Tests.{number}
use Rattle.list_script.specs.Line.{Frame, Level, Block, Form}
use Rattle.list_steps.specs.State.{State, form, state_of}
use Rattle.list_steps.specs.Steps.{Kept, kept, counted, said, frame_number, framed, bases, levelled, block_of, blocked, taken, step_of}

-- a test of the number n alone: what it chooses has the number n
numbered : {A : Type 0} (f : A → ℕ) (n : ℕ) (x y : A) → f x ≡ 0 → f y ≡ n → f (cond (eqb n 0) x y) ≡ n
numbered f n x y p q = go (eqb n 0) refl
  where
    go : (b : Bool) → eqb n 0 ≡ b → f (cond b x y) ≡ n
    go true e = p ∙ sym (eqb-true n 0 e)
    go false e = q

module _ (k : Kept) (s : List ℕ) (z : k.state.number ≡ 0) where
  abbrev count : Kept
  count = kept (counted k.state) k.values k.memory

  step_is : step_of k s ≡ taken count (said s)
  unfolding step_of
  step_is = rw (eq-eqb k.state.number 0 z) refl

  pub form-number : said s ≡ Form → (step_of k s).state.number ≡ form
  form-number e = rw (step_is, e) refl

  module _ {width height layout depth superblock sharpness : ℕ} (e : said s ≡ Frame width height layout depth superblock sharpness) where
    pub frame-late : ¬ (k.state.phase ≡ 0) → (step_of k s).state.number ≡ form
    frame-late p = rw (step_is, e, ne_eqb k.state.phase 0 p) refl

    pub frame-number : k.state.phase ≡ 0 → (step_of k s).state.number ≡ frame_number width height layout depth superblock sharpness
    unfolding framed
    frame-number p = rw (step_is, e, eq-eqb k.state.phase 0 p) (numbered (λ (t : State). t.number) (frame_number width height layout depth superblock sharpness) _ _ refl refl)

    pub frame-state : k.state.phase ≡ 0 → frame_number width height layout depth superblock sharpness ≡ 0
        → (step_of k s).state ≡ state_of (k.state.line + 1) 1 0 width height layout
    unfolding framed
    frame-state p f = rw (step_is, e, eq-eqb k.state.phase 0 p, f) refl

  module _ {columns rows u v : ℕ} (e : said s ≡ Level columns rows u v) where
    pub level-late : ¬ (k.state.phase ≡ 1) → (step_of k s).state.number ≡ form
    level-late p = rw (step_is, e, ne_eqb k.state.phase 1 p) refl

    pub level-number : k.state.phase ≡ 1 → (step_of k s).state.number ≡ levels_number k.state.layout (bases columns rows u v)
    unfolding levelled
    level-number p = rw (step_is, e, eq-eqb k.state.phase 1 p) (numbered (λ (m : Kept). m.state.number) (levels_number k.state.layout (bases columns rows u v)) _ _ refl refl)

    pub level-state : k.state.phase ≡ 1 → levels_number k.state.layout (bases columns rows u v) ≡ 0
        → (step_of k s).state ≡ state_of (k.state.line + 1) 2 0 k.state.width k.state.height k.state.layout
    unfolding levelled
    level-state p f = rw (step_is, e, eq-eqb k.state.phase 1 p, f) refl

    pub level-values : k.state.phase ≡ 1 → levels_number k.state.layout (bases columns rows u v) ≡ 0
        → (step_of k s).values ≡ tabulate (byte_at (bases columns rows u v)) 64
    unfolding levelled
    level-values p f = rw (step_is, e, eq-eqb k.state.phase 1 p, f) refl

  module _ {x y size tx chroma uvtx : ℕ} (e : said s ≡ Block x y size tx chroma uvtx) where
    pub block-late : ¬ (k.state.phase ≡ 2) → (step_of k s).state.number ≡ form
    block-late p = rw (step_is, e, ne_eqb k.state.phase 2 p) refl

    pub block-number : k.state.phase ≡ 2
        → let b = block_of k.state x y size tx chroma uvtx in (step_of k s).state.number ≡ number b (w4 b) (at_block b k.memory)
    unfolding blocked
    block-number p =
        let b = block_of k.state x y size tx chroma uvtx in
        rw (step_is, e, eq-eqb k.state.phase 2 p) (numbered (λ (m : Kept). m.state.number) (number b (w4 b) (at_block b k.memory)) _ _ z refl)

    pub block-state : k.state.phase ≡ 2
        → (let b = block_of k.state x y size tx chroma uvtx in number b (w4 b) (at_block b k.memory)) ≡ 0
        → (step_of k s).state ≡ counted k.state
    unfolding blocked
    block-state p f = rw (step_is, e, eq-eqb k.state.phase 2 p, f) refl

    pub block-values : k.state.phase ≡ 2
        → (let b = block_of k.state x y size tx chroma uvtx in number b (w4 b) (at_block b k.memory)) ≡ 0
        → (step_of k s).values ≡ k.values
    unfolding blocked
    block-values p f = rw (step_is, e, eq-eqb k.state.phase 2 p, f) refl
