-- What is kept after the lines of a script: each line counts one, and a refused line ends it, by recursion on the lines.
use mathlib.Core.Bool.{Bool, true, false, cond}
use mathlib.Core.List.{List, [], ◌∷◌}
use mathlib.Core.Logic.{by_cases}
use mathlib.Core.Path.{◌≡◌, refl, sym, ap, ◌∙◌}
use Prim.Native.Nat.{ℕ, zero, suc, ◌+◌, ◌<◌, ◌≤◌}
use native.Mathlib.Decide.{ℕ_discrete}
use native.Mathlib.Omega.{arith}
use borrow.Author.Tests.{eq-eqb, ne_eqb}
use lib.Dec.{eqb}
use lib.ListN.{length, get_or, take}
use lib.Seq.{length-take-le}
use Rattle.loops.specs.Exactly.{Exactly}
use Rattle.loops.specs.Table.{tabulate}
use Rattle.block.specs.declared.Block.{Block}
use Rattle.block.specs.Block.{w4, at_block}
use Rattle.block.specs.Tests.{number}
use Rattle.levels.specs.Levels.{LevelsIn, levels_number, byte_at}
use Rattle.list_script.specs.Line.{Line, Frame, Level, Block as BlockLine, Form}
use Rattle.list_steps.specs.State.{State, form, state_of}
use Rattle.list_steps.specs.Steps.{Kept, counted, refused_by, refused, frame_number, framed, bases, levelled, block_of, stored, blocked, said, taken, step_of}
use Rattle.list_call.specs.Listing.{lines_of, start, after}
use Rattle.list_call.specs.Promises.{Stops}

pub step_stays : (k : Kept) (s : List ℕ) → ¬ (k.state.number ≡ 0) → step_of k s ≡ k
unfolding step_of
step_stays k s h = simp (ne_eqb k.state.number 0 h)

pub after-stays : (k : Kept) (ls : List (List ℕ)) → ¬ (k.state.number ≡ 0) → after k ls ≡ k
after-stays k [] h = refl
after-stays k (l ∷ ls) h = ap (λ (m : Kept). after m ls) (step_stays k l h) ∙ after-stays k ls h

pub unrefused : (k : Kept) (ls : List (List ℕ)) → (after k ls).state.number ≡ 0 → k.state.number ≡ 0
unrefused k ls h =
    by_cases (ℕ_discrete k.state.number 0) (λ e. e) (λ n. ap (λ (m : Kept). m.state.number) (sym (after-stays k ls n)) ∙ h)

-- ---- lines are counted

either : (b : Bool) (x y : Kept) (n : ℕ) → x.state.line ≡ n → y.state.line ≡ n → (cond b x y).state.line ≡ n
either true x y n p q = p
either false x y n p q = q

framed-line : (s : State) (width height layout depth superblock sharpness : ℕ) → (framed s width height layout depth superblock sharpness).line ≡ s.line
unfolding framed
framed-line s width height layout depth superblock sharpness = go (frame_number width height layout depth superblock sharpness) (eqb (frame_number width height layout depth superblock sharpness) 0)
  where
    go : (n : ℕ) (b : Bool) → (cond b (state_of s.line 1 0 width height layout) (refused_by s n)).line ≡ s.line
    go n true = refl
    go n false = refl

levelled-line : (k : Kept) (x : LevelsIn) → (levelled k x).state.line ≡ k.state.line
unfolding levelled
levelled-line k x =
    let s = k.state in
    let n = levels_number s.layout x in
    either (eqb n 0)
    (record { state = state_of s.line 2 0 s.width s.height s.layout; values = tabulate (byte_at x) 64; memory = k.memory })
    (refused k n) s.line refl refl

blocked-line : (k : Kept) (b : Block) → (blocked k b).state.line ≡ k.state.line
unfolding blocked
blocked-line k b =
    let n = number b (w4 b) (at_block b k.memory) in
    either (eqb n 0) (record { state = k.state; values = k.values; memory = stored b k.values k.memory }) (refused k n) k.state.line refl refl

taken-line : (k : Kept) (l : Line) → (taken k l).state.line ≡ k.state.line
taken-line k (Frame width height layout depth superblock sharpness) =
    either (eqb k.state.phase 0)
    (record { state = framed k.state width height layout depth superblock sharpness; values = k.values; memory = k.memory })
    (refused k form) k.state.line (framed-line k.state width height layout depth superblock sharpness) refl
taken-line k (Level columns rows u v) =
    either (eqb k.state.phase 1) (levelled k (bases columns rows u v)) (refused k form) k.state.line (levelled-line k (bases columns rows u v)) refl
taken-line k (BlockLine x y size tx chroma uvtx) =
    let b = block_of k.state x y size tx chroma uvtx in
    either (eqb k.state.phase 2) (blocked k b) (refused k form) k.state.line (blocked-line k b) refl
taken-line k Form = refl

step_line : (k : Kept) (s : List ℕ) → k.state.number ≡ 0 → (step_of k s).state.line ≡ k.state.line + 1
unfolding step_of
step_line k s e =
    simp (eq-eqb k.state.number 0 e)
    (taken-line (record { state = counted k.state; values = k.values; memory = k.memory }) (said s))

pub step-most : (k : Kept) (s : List ℕ) → (step_of k s).state.line ≤ k.state.line + 1
step-most k s =
    by_cases (ℕ_discrete k.state.number 0)
    (λ e. omega (arith, step_line k s e))
    (λ n. omega (arith, ap (λ (m : Kept). m.state.line) (step_stays k s n)))

after_line : (k : Kept) (ls : List (List ℕ)) → (after k ls).state.number ≡ 0 → (after k ls).state.line ≡ k.state.line + length ls
after_line k [] h = omega arith
after_line k (l ∷ ls) h =
    omega (arith, after_line (step_of k l) ls h, step_line k l (unrefused k (l ∷ ls) h))

pub after-most : (k : Kept) (ls : List (List ℕ)) → (after k ls).state.line ≤ k.state.line + length ls
after-most k [] = omega arith
after-most k (l ∷ ls) = omega (arith, after-most (step_of k l) ls, step-most k l)

-- ---- the first refused line

record Halts (k : Kept) (ls : List (List ℕ)) (l n : ℕ) : Type 0 where
  pub j : ℕ
  pub j-in : j < length ls
  pub here : l ≡ k.state.line + j + 1
  pub before : (after k (take j ls)).state.number ≡ 0
  pub refused : (step_of (after k (take j ls)) (get_or ls j [])).state.number ≡ n

halts : (k : Kept) (ls : List (List ℕ)) (n : ℕ) → k.state.number ≡ 0 → ¬ (n ≡ 0) → (after k ls).state.number ≡ n → Halts k ls (after k ls).state.line n
halts k [] n z f h = absurd (f (sym h ∙ z))
halts k (l ∷ ls) n z f h =
    by_cases (ℕ_discrete (step_of k l).state.number 0)
    (λ e.
    let r = halts (step_of k l) ls n e f h in
    record {
      j = suc r.j;
      j-in = omega (arith, r.j-in);
      here = omega (arith, r.here, step_line k l z);
      before = r.before;
      refused = r.refused;
    })
    (λ d.
    let s = after-stays (step_of k l) ls d in
    record {
      j = 0;
      j-in = omega arith;
      here = omega (arith, ap (λ (m : Kept). m.state.line) s, step_line k l z);
      before = z;
      refused = ap (λ (m : Kept). m.state.number) (sym s) ∙ h;
    })

halted : (k : Kept) (ls : List (List ℕ)) (j : ℕ) → j < length ls → ¬ ((step_of (after k (take j ls)) (get_or ls j [])).state.number ≡ 0)
    → after k ls ≡ step_of (after k (take j ls)) (get_or ls j [])
halted k [] j h f = absurd (omega arith)
halted k (l ∷ ls) zero h f = after-stays (step_of k l) ls f
halted k (l ∷ ls) (suc j) h f = halted (step_of k l) ls j (omega arith) f

start-number : start.state.number ≡ 0
unfolding start
start-number = refl

pub start-line : start.state.line ≡ 0
unfolding start
start-line = refl

pub stops : (script : List ℕ) (l n : ℕ) → ¬ (n ≡ 0)
    → Exactly (((after start (lines_of script)).state.line ≡ l) × ((after start (lines_of script)).state.number ≡ n)) (Stops (lines_of script) l n)
stops script l n f = record { only = only; always = always }
  where
    only : ((after start (lines_of script)).state.line ≡ l) × ((after start (lines_of script)).state.number ≡ n) → Stops (lines_of script) l n
    only p =
        let r = halts start (lines_of script) n start-number f p.1 in
        record { j = r.j; j-in = r.j-in; here = omega (arith, p.0, r.here, start-line); before = r.before; refused = r.refused; fault = f }

    always : Stops (lines_of script) l n → ((after start (lines_of script)).state.line ≡ l) × ((after start (lines_of script)).state.number ≡ n)
    always r =
        let k = after start (take r.j (lines_of script)) in
        let e = halted start (lines_of script) r.j r.j-in (λ z. f (sym r.refused ∙ z)) in
        let c = after_line start (take r.j (lines_of script)) r.before in
        let m = length-take-le r.j (lines_of script) (omega (arith, r.j-in)) in (
          omega (arith, ap (λ (m : Kept). m.state.line) e, step_line k (get_or (lines_of script) r.j []) r.before, c, m, start-line, r.here),
          ap (λ (m : Kept). m.state.number) e ∙ r.refused,
        )
