-- The promises of a step: a line that is taken is refused, begins the frame, leaves level values or is recorded, and each promise is seen in each of these.
use mathlib.Core.Bool.{Bool, true, false, cond, not, ◌&&◌}
use mathlib.Core.List.{List, []}
use mathlib.Core.Logic.{by_cases}
use mathlib.Core.Path.{◌≡◌, refl}
use Prim.Native.Nat.{ℕ, ◌≤◌}
use native.Mathlib.Decide.{ℕ_discrete}
use native.Mathlib.Omega.{arith}
use borrow.Author.Tests.{eq-eqb, ne_eqb}
use lib.Dec.{ltb}
use Rattle.loops.specs.Exactly.{Reflects}
use Rattle.loops.specs.Table.{tabulate}
use Rattle.loops.proofs.Numbers.{passed}
use Rattle.loops.proofs.Reflected.{reflects-leb, reflects-flag, reflects-and}
use Rattle.units.specs.Layout.{layout_ok}
use Rattle.units.specs.Frame.{superblock_ok}
use Rattle.levels.specs.Levels.{byte_at, levels_number}
use Rattle.block.specs.declared.Block.{Block}
use Rattle.block.specs.Block.{w4, Lent, at_block}
use Rattle.block.specs.Tests.{number}
use Rattle.record.specs.Recorded.{Stored}
use Rattle.list_script.specs.Line.{Line, Frame, Level, Block as BlockLine, Form}
use Rattle.list_steps.specs.State.{form, state_of}
use Rattle.list_steps.specs.Steps.{said, Kept, kept, counted, refused, side_ok, depth_ok, frame_number, framed, bases, levelled, block_of, stored, blocked, taken, step_of}
use Rattle.list_steps.specs.Promises.{Proper, Alike, Before, Promises}
use Rattle.list_steps.proofs.Stores.{stored_is, stored-alike, stored-before}

-- ---- what becomes of a line

abbrev Accepts : Kept → Block → Type 0
Accepts k b = number b (w4 b) (at_block b k.memory) ≡ 0

abbrev recorded : Kept → Block → Kept
recorded k b = kept k.state k.values (stored b k.values k.memory)

data Outcome (k : Kept) : Line → Kept → Type 0 where
  refuses : {l : Line} (n : ℕ) → ¬ (n ≡ 0) → Outcome k l (refused k n)
  begins : {width height layout depth superblock sharpness : ℕ} → frame_number width height layout depth superblock sharpness ≡ 0
      → Outcome k (Frame width height layout depth superblock sharpness) (kept (state_of k.state.line 1 0 width height layout) k.values k.memory)
  levels : {columns rows u v : ℕ} → k.state.phase ≡ 1
      → Outcome k (Level columns rows u v)
      (kept (state_of k.state.line 2 0 k.state.width k.state.height k.state.layout) (tabulate (byte_at (bases columns rows u v)) 64) k.memory)
  records : {x y size tx chroma uvtx : ℕ}
      → Accepts k (block_of k.state x y size tx chroma uvtx)
      → Outcome k (BlockLine x y size tx chroma uvtx) (recorded k (block_of k.state x y size tx chroma uvtx))

outcome : (k : Kept) (l : Line) → Outcome k l (taken k l)
unfolding framed levelled blocked
outcome k (Frame width height layout depth superblock sharpness) =
    let n = frame_number width height layout depth superblock sharpness in
    by_cases (ℕ_discrete k.state.phase 0)
    (λ p. by_cases (ℕ_discrete n 0) (λ z. rw (eq-eqb k.state.phase 0 p, eq-eqb n 0 z) (begins z)) (λ z. rw (eq-eqb k.state.phase 0 p, ne_eqb n 0 z) (refuses n z)))
    (λ p. rw (ne_eqb k.state.phase 0 p) (refuses form (omega arith)))
outcome k (Level columns rows u v) =
    let n = levels_number k.state.layout (bases columns rows u v) in
    by_cases (ℕ_discrete k.state.phase 1)
    (λ p. by_cases (ℕ_discrete n 0) (λ z. rw (eq-eqb k.state.phase 1 p, eq-eqb n 0 z) (levels p)) (λ z. rw (eq-eqb k.state.phase 1 p, ne_eqb n 0 z) (refuses n z)))
    (λ p. rw (ne_eqb k.state.phase 1 p) (refuses form (omega arith)))
outcome k (BlockLine x y size tx chroma uvtx) =
    let b = block_of k.state x y size tx chroma uvtx in
    let n = number b (w4 b) (at_block b k.memory) in
    by_cases (ℕ_discrete k.state.phase 2)
    (λ p. by_cases (ℕ_discrete n 0) (λ z. rw (eq-eqb k.state.phase 2 p, eq-eqb n 0 z) (records z)) (λ z. rw (eq-eqb k.state.phase 2 p, ne_eqb n 0 z) (refuses n z)))
    (λ p. rw (ne_eqb k.state.phase 2 p) (refuses form (omega arith)))
outcome k Form = refuses form (omega arith)

abbrev count : Kept → Kept
count k = kept (counted k.state) k.values k.memory

-- P holds after a step if it holds where a line is refused already, and of each outcome of this one
by-outcome : (k : Kept) (s : List ℕ) (P : Kept → Type 0) → (¬ (k.state.number ≡ 0) → P k)
    → (k.state.number ≡ 0 → (j : Kept) → Outcome (count k) (said s) j → P j) → P (step_of k s)
unfolding step_of
by-outcome k s P f g =
    by_cases (ℕ_discrete k.state.number 0) (λ e. rw (eq-eqb k.state.number 0 e) (g e (taken (count k) (said s)) (outcome (count k) (said s))))
    (λ n. rw (ne_eqb k.state.number 0 n) (f n))

-- ---- the frame

pub reflects-side : (n : ℕ) → Reflects (side_ok n) ((1 ≤ n) × (n ≤ 256))
reflects-side n = reflects-and (reflects-leb 1 n) (reflects-leb n 256)

accepted : (b : Bool) → cond {A = ℕ} b 0 4 ≡ 0 → b ≡ true
accepted true e = refl
accepted false e = absurd (omega arith)

frame-fits : (width height layout depth superblock sharpness : ℕ) → frame_number width height layout depth superblock sharpness ≡ 0
    → (layout_ok layout ≡ true) × (((1 ≤ width) × (width ≤ 256)) × (((1 ≤ height) × (height ≤ 256)) × (superblock_ok superblock ≡ true)))
unfolding frame_number
frame-fits width height layout depth superblock sharpness e =
    let f = (passed (not (depth_ok depth)) 3 _ (omega arith) (passed (ltb 7 sharpness) 1 _ (omega arith) e).1).1 in
    (reflects-and (reflects-flag (layout_ok layout)) (reflects-and (reflects-side width) (reflects-and (reflects-side height) (reflects-flag (superblock_ok superblock))))
    ).yes (accepted (layout_ok layout && (side_ok width && (side_ok height && superblock_ok superblock))) f)

proper : {k j : Kept} {l : Line} → Outcome k l j → Proper k.state → Proper j.state
proper (refuses n z) p = record { width = p.width; height = p.height; layout = p.layout }
proper (begins {width} {height} {layout} {depth} {superblock} {sharpness} e) p =
    let f = frame-fits width height layout depth superblock sharpness e in
    record { width = λ _. f.1.0; height = λ _. f.1.1.0; layout = λ _. f.0 }
proper (levels e) p = record { width = λ _. p.width (omega arith); height = λ _. p.height (omega arith); layout = λ _. p.layout (omega arith) }
proper (records e) p = p

-- ---- the memory

alike_same : (m : Lent) → Alike m m
alike_same m = record { levels = refl; masks = refl; above = refl; left = refl; above-uv = refl; left-uv = refl }

before_same : (b : Block) (m : Lent) → Before b m m
before_same b m = record { above = refl; left = refl; above-uv = refl; left-uv = refl }

alike : {k j : Kept} {l : Line} → Outcome k l j → Alike j.memory k.memory
alike {k} (refuses n z) = alike_same k.memory
alike {k} (begins e) = alike_same k.memory
alike {k} (levels e) = alike_same k.memory
alike {k} (records {x} {y} {size} {tx} {chroma} {uvtx} e) = stored-alike (block_of k.state x y size tx chroma uvtx) k.values k.memory e

-- the block that a line says; 0s for a line that says none
abbrev block_said : Kept → Line → Block
block_said k (BlockLine x y size tx chroma uvtx) = block_of k.state x y size tx chroma uvtx
block_said k l = block_of k.state 0 0 0 0 0 0

abbrev SaysBlock : Line → Type 0
SaysBlock (BlockLine x y size tx chroma uvtx) = Unit {0}
SaysBlock l = ⊥

as-recorded : {k j : Kept} {l : Line} → Outcome k l j → SaysBlock l → j.state.number ≡ 0
    → let b = block_said k l in Stored b (w4 b) k.values [] (at_block b k.memory) (at_block b j.memory)
as-recorded (refuses n z) i e = absurd (z e)
as-recorded (begins z) i e = absurd i
as-recorded (levels z) i e = absurd i
as-recorded {k} (records {x} {y} {size} {tx} {chroma} {uvtx} z) i e = stored_is (block_of k.state x y size tx chroma uvtx) k.values k.memory z

as_before : {k j : Kept} {l : Line} → Outcome k l j → SaysBlock l → Before (block_said k l) j.memory k.memory
as_before {k} {l = l} (refuses n z) i = before_same (block_said k l) k.memory
as_before (begins z) i = absurd i
as_before (levels z) i = absurd i
as_before {k} (records {x} {y} {size} {tx} {chroma} {uvtx} z) i = stored-before (block_of k.state x y size tx chroma uvtx) k.values k.memory z

keeps : {k j : Kept} {l : Line} → Outcome k l j → ((x y size tx chroma uvtx : ℕ) → ¬ (l ≡ BlockLine x y size tx chroma uvtx)) → j.memory ≡ k.memory
keeps (refuses n z) h = refl
keeps (begins e) h = refl
keeps (levels e) h = refl
keeps (records {x} {y} {size} {tx} {chroma} {uvtx} e) h = absurd (h x y size tx chroma uvtx refl)

refused-keeps : {k j : Kept} {l : Line} → Outcome k l j → k.state.number ≡ 0 → ¬ (j.state.number ≡ 0) → j.memory ≡ k.memory
refused-keeps (refuses n z) e h = refl
refused-keeps (begins f) e h = refl
refused-keeps (levels f) e h = refl
refused-keeps (records f) e h = absurd (h e)

pub promises : Promises
promises =
    record {
      proper = λ k s p. by-outcome k s (λ j. Proper j.state) (λ _. p) (λ _ j o. proper o (record { width = p.width; height = p.height; layout = p.layout }));
      alike = λ k s. by-outcome k s (λ j. Alike j.memory k.memory) (λ _. alike_same k.memory) (λ _ j o. alike o);
      records = λ k s x y size tx chroma uvtx e f.
          let b = block_of k.state x y size tx chroma uvtx in
          by-outcome k s (λ j. j.state.number ≡ 0 → Stored b (w4 b) k.values [] (at_block b k.memory) (at_block b j.memory))
          (λ n. absurd (n e)) (λ _ j o. as-recorded (rw f at o) tt);
      before = λ k s x y size tx chroma uvtx f.
          let b = block_of k.state x y size tx chroma uvtx in
          by-outcome k s (λ j. Before b j.memory k.memory) (λ _. before_same b k.memory) (λ _ j o. as_before (rw f at o) tt);
      keeps = λ k s h. by-outcome k s (λ j. j.memory ≡ k.memory) (λ _. refl) (λ _ j o. keeps o h);
      refused = λ k s. by-outcome k s (λ j. ¬ (j.state.number ≡ 0) → j.memory ≡ k.memory) (λ _ _. refl) (λ e j o. refused-keeps o e);
    }
