-- What a script leaves is a proper frame, and before the level line as many lines as the phase says, line by line: every other line is refused.
use mathlib.Core.Bool.{Bool, true, false, cond}
use mathlib.Core.List.{List, [], ◌∷◌}
use mathlib.Core.Logic.{by_cases}
use mathlib.Core.Path.{◌≡◌, refl, sym, subst}
use Prim.Native.Nat.{ℕ, ◌+◌, ◌<◌}
use native.Mathlib.Decide.{ℕ_discrete}
use native.Mathlib.Omega.{arith}
use borrow.Author.Tests.{eq-eqb, eqb-true, eqb-false}
use lib.Dec.{eqb}
use Rattle.loops.specs.Table.{tabulate}
use Rattle.levels.specs.Levels.{LevelsIn, levels_number, byte_at}
use Rattle.block.specs.declared.Block.{Block}
use Rattle.block.specs.Block.{w4, at_block}
use Rattle.block.specs.Tests.{number}
use Rattle.list_script.specs.Line.{Line, Frame, Level, Block as BlockLine, Form}
use Rattle.list_steps.specs.State.{State, form, state_of}
use Rattle.list_steps.specs.Steps.{Kept, counted, refused_by, refused, frame_number, framed, bases, levelled, block_of, stored, blocked, said, taken, step_of}
use Rattle.list_steps.proofs.Outcomes.{promises as steps}
use Rattle.list_call.specs.Listing.{lines_of, start, after, Left}
use Rattle.list_call.proofs.Runs.{step_stays}

abbrev Early : State → Type 0
Early s = s.number ≡ 0 → s.phase < 2 → s.line ≡ s.phase

either : (b : Bool) (x y : Kept) → (b ≡ true → Early x.state) → (b ≡ false → Early y.state) → Early (cond b x y).state
either true x y p q = p refl
either false x y p q = q refl

refused-early : (k : Kept) (n : ℕ) → ¬ (n ≡ 0) → Early (refused k n).state
refused-early k n h z _ = absurd (h z)

framed-early : (s : State) (width height layout depth superblock sharpness : ℕ) → s.line ≡ 1 → Early (framed s width height layout depth superblock sharpness)
unfolding framed
framed-early s width height layout depth superblock sharpness h =
    go (frame_number width height layout depth superblock sharpness) (eqb (frame_number width height layout depth superblock sharpness) 0) refl
  where
    go : (n : ℕ) (b : Bool) → eqb n 0 ≡ b → Early (cond b (state_of s.line 1 0 width height layout) (refused_by s n))
    go n true e _ _ = h
    go n false e z _ = absurd (eqb-false n 0 e z)

levelled-early : (k : Kept) (x : LevelsIn) → Early (levelled k x).state
unfolding levelled
levelled-early k x =
    let s = k.state in
    let n = levels_number s.layout x in
    either (eqb n 0)
    (record { state = state_of s.line 2 0 s.width s.height s.layout; values = tabulate (byte_at x) 64; memory = k.memory })
    (refused k n) (λ _ _ h. absurd (omega arith)) (λ e. refused-early k n (eqb-false n 0 e))

blocked-early : (k : Kept) (b : Block) → k.state.phase ≡ 2 → Early (blocked k b).state
unfolding blocked
blocked-early k b p =
    let n = number b (w4 b) (at_block b k.memory) in
    either (eqb n 0) (record { state = k.state; values = k.values; memory = stored b k.values k.memory }) (refused k n)
    (λ _ _ h. absurd (omega arith)) (λ e. refused-early k n (eqb-false n 0 e))

taken-early : (k : Kept) (l : Line) → (k.state.phase < 2 → k.state.line ≡ k.state.phase + 1) → Early (taken k l).state
taken-early k (Frame width height layout depth superblock sharpness) h =
    either (eqb k.state.phase 0)
    (record { state = framed k.state width height layout depth superblock sharpness; values = k.values; memory = k.memory })
    (refused k form)
    (λ e. let z = eqb-true k.state.phase 0 e in framed-early k.state width height layout depth superblock sharpness (omega (arith, h (omega arith))))
    (λ _. refused-early k form (λ z. omega arith))
taken-early k (Level columns rows u v) h =
    either (eqb k.state.phase 1) (levelled k (bases columns rows u v)) (refused k form) (λ _. levelled-early k (bases columns rows u v))
    (λ _. refused-early k form (λ z. omega arith))
taken-early k (BlockLine x y size tx chroma uvtx) h =
    let b = block_of k.state x y size tx chroma uvtx in
    either (eqb k.state.phase 2) (blocked k b) (refused k form) (λ e. blocked-early k b (eqb-true k.state.phase 2 e))
    (λ _. refused-early k form (λ z. omega arith))
taken-early k Form h = refused-early k form (λ z. omega arith)

step-early : (k : Kept) (s : List ℕ) → Early k.state → Early (step_of k s).state
unfolding step_of
step-early k s h =
    by_cases (ℕ_discrete k.state.number 0)
    (λ z.
    simp (eq-eqb k.state.number 0 z)
    (taken-early (record { state = counted k.state; values = k.values; memory = k.memory }) (said s) (λ l. omega (arith, h z l))))
    (λ n. subst (λ (m : Kept). Early m.state) (sym (step_stays k s n)) h)

after-left : (k : Kept) (ls : List (List ℕ)) → Left k.state → Left (after k ls).state
after-left k [] h = h
after-left k (l ∷ ls) h =
    after-left (step_of k l) ls (record { proper = steps.proper k l h.proper; early = step-early k l h.early })

start_left : Left start.state
unfolding start
start_left =
    record {
      proper = record { width = λ h. absurd (omega arith); height = λ h. absurd (omega arith); layout = λ h. absurd (omega arith) };
      early = λ _ _. refl;
    }

pub left : (script : List ℕ) → Left (after start (lines_of script)).state
left script = after-left start (lines_of script) start_left
