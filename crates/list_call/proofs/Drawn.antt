-- The masks that a script leaves have the edges of its block lines, by recursion on the lines: a block line adds its own, and no other line adds any.
use mathlib.Core.Bool.{Bool, true, false, ◌||◌, false≢true}
use mathlib.Core.List.{List, [], ◌∷◌}
use mathlib.Core.Logic.{◌⊎◌, inl, inr, ⊎_elim}
use mathlib.Core.Path.{◌≡◌, refl, sym, ap, ◌∙◌}
use Prim.Native.Nat.{ℕ, zero, suc, ◌<◌}
use native.Mathlib.Omega.{arith}
use lib.ListN.{length, get_or, take}
use Rattle.bits.proofs.Marks.{none-set}
use Rattle.loops.specs.Exactly.{Exactly}
use Rattle.bits.specs.Mark.{is_set}
use Rattle.block.specs.Block.{Lent}
use Rattle.list_script.specs.Line.{Line, Frame, Level, Block as BlockLine, Form}
use Rattle.list_steps.specs.Steps.{Kept, said, step_of}
use Rattle.list_steps.proofs.Outcomes.{promises as steps}
use Rattle.list_call.specs.Listing.{lines_of, start, after}
use Rattle.list_call.specs.Promises.{Draws, Sets}
use Rattle.list_call.proofs.Runs.{unrefused}

record IsBlock (l : Line) : Type 0 where
  pub x : ℕ
  pub y : ℕ
  pub size : ℕ
  pub tx : ℕ
  pub chroma : ℕ
  pub uvtx : ℕ
  pub is : l ≡ BlockLine x y size tx chroma uvtx

block-or-not : (l : Line) → IsBlock l ⊎ ((x y size tx chroma uvtx : ℕ) → ¬ (l ≡ BlockLine x y size tx chroma uvtx))
block-or-not (Frame a b c d e f) = inr (λ x y size tx chroma uvtx p. let z : ◌≡◌ {A = ℕ} 0 1 = cc in absurd (omega arith))
block-or-not (Level a b c d) = inr (λ x y size tx chroma uvtx p. let z : ◌≡◌ {A = ℕ} 0 1 = cc in absurd (omega arith))
block-or-not (BlockLine x y size tx chroma uvtx) = inl (record { x = x; y = y; size = size; tx = tx; chroma = chroma; uvtx = uvtx; is = refl })
block-or-not Form = inr (λ x y size tx chroma uvtx p. let z : ◌≡◌ {A = ℕ} 0 1 = cc in absurd (omega arith))

or_cases : (a b : Bool) → (a || b) ≡ true → (a ≡ true) ⊎ (b ≡ true)
or_cases true b e = inl refl
or_cases false b e = inr e

or_right : (a b : Bool) → b ≡ true → (a || b) ≡ true
or_right true b e = refl
or_right false b e = e

-- ---- one line

module _ (k : Kept) (s : List ℕ) (e : ℕ) (here : k.state.number ≡ 0) (next : (step_of k s).state.number ≡ 0) where
  step-only : is_set (step_of k s).memory.masks e ≡ true → (is_set k.memory.masks e ≡ true) ⊎ Draws k s e
  step-only h =
      ⊎_elim
      (λ b.
      let g = (steps.records k s b.x b.y b.size b.tx b.chroma b.uvtx here b.is next).masks.bits e in
      ⊎_elim
      (λ p. inl p)
      (λ p. inr (record { x = b.x; y = b.y; size = b.size; tx = b.tx; chroma = b.chroma; uvtx = b.uvtx; is = b.is; edge = p }))
      (or_cases _ _ (sym g ∙ h)))
      (λ f. inl (ap (λ (m : Lent). is_set m.masks e) (sym (steps.keeps k s f)) ∙ h))
      (block-or-not (said s))

  step_keeps : is_set k.memory.masks e ≡ true → is_set (step_of k s).memory.masks e ≡ true
  step_keeps h =
      ⊎_elim
      (λ b. (steps.records k s b.x b.y b.size b.tx b.chroma b.uvtx here b.is next).masks.bits e ∙ rw h refl)
      (λ f. ap (λ (m : Lent). is_set m.masks e) (steps.keeps k s f) ∙ h)
      (block-or-not (said s))

  step-draws : Draws k s e → is_set (step_of k s).memory.masks e ≡ true
  step-draws d =
      (steps.records k s d.x d.y d.size d.tx d.chroma d.uvtx here d.is next).masks.bits e ∙ or_right (is_set k.memory.masks e) _ d.edge

-- ---- all lines

record SetsFrom (k : Kept) (ls : List (List ℕ)) (e : ℕ) : Type 0 where
  pub j : ℕ
  pub j-in : j < length ls
  pub line : Draws (after k (take j ls)) (get_or ls j []) e

module _ (e : ℕ) where
  only : (k : Kept) (ls : List (List ℕ)) → (after k ls).state.number ≡ 0 → is_set (after k ls).memory.masks e ≡ true
      → (is_set k.memory.masks e ≡ true) ⊎ SetsFrom k ls e
  only k [] z h = inl h
  only k (l ∷ ls) z h =
      ⊎_elim
      (λ p.
      ⊎_elim
      (λ q. inl q)
      (λ d. inr (record { j = 0; j-in = omega arith; line = d }))
      (step-only k l e (unrefused k (l ∷ ls) z) (unrefused (step_of k l) ls z) p))
      (λ r. inr (record { j = suc r.j; j-in = omega (arith, r.j-in); line = r.line }))
      (only (step_of k l) ls z h)

  keeps : (k : Kept) (ls : List (List ℕ)) → (after k ls).state.number ≡ 0 → is_set k.memory.masks e ≡ true → is_set (after k ls).memory.masks e ≡ true
  keeps k [] z h = h
  keeps k (l ∷ ls) z h = keeps (step_of k l) ls z (step_keeps k l e (unrefused k (l ∷ ls) z) (unrefused (step_of k l) ls z) h)

  always : (k : Kept) (ls : List (List ℕ)) → (after k ls).state.number ≡ 0 → (j : ℕ) → j < length ls → Draws (after k (take j ls)) (get_or ls j []) e
      → is_set (after k ls).memory.masks e ≡ true
  always k [] z j h d = absurd (omega arith)
  always k (l ∷ ls) z zero h d = keeps (step_of k l) ls z (step-draws k l e (unrefused k (l ∷ ls) z) (unrefused (step_of k l) ls z) d)
  always k (l ∷ ls) z (suc j) h d = always (step_of k l) ls z j (omega arith) d

start-masks : (e : ℕ) → is_set start.memory.masks e ≡ false
unfolding start
start-masks e = none-set 2560 e

pub drawn : (script : List ℕ) (e : ℕ) → (after start (lines_of script)).state.number ≡ 0
    → Exactly (is_set (after start (lines_of script)).memory.masks e ≡ true) (Sets (lines_of script) e)
drawn script e z =
    record {
      only = λ h.
          ⊎_elim
          (λ p. absurd (false≢true (sym (start-masks e) ∙ p)))
          (λ r. record { j = r.j; j-in = r.j-in; line = r.line })
          (only e start (lines_of script) z h);
      always = λ r. always e start (lines_of script) z r.j r.j-in r.line;
    }
