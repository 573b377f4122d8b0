-- Runs of stores by recursion on their length: a loop's turn, and a run that goes on where a tabulated front ends.
use mathlib.Core.List.{List, [], ◌++◌}
use mathlib.Core.Path.{◌≡◌, refl, sym, ap, ap₂, ◌∙◌}
use Prim.Native.Nat.{ℕ, zero, suc, ◌+◌, ◌<◌, ◌≤◌}
use native.Mathlib.Nat.{add-zero, add-suc, le_refl}
use native.Mathlib.Numerals.{add-one}
use native.Mathlib.Omega.{arith}
use lib.ListN.{length, set, drop, replicate}
use Rattle.std.proofs.Math.Seq.{paste}
use Rattle.std.proofs.lemmas.List.Edits.{paste_none, fill_from_more}
use Rattle.loops.specs.Table.{tabulate}
use Rattle.loops.proofs.Runs.{up_to-again}
use Rattle.loops.proofs.Tables.{fill-next}
use Rattle.levels.specs.Helpers.{stores}

pub stores-none : (f : ℕ → ℕ) (a : ℕ) (l : List ℕ) → l ≡ stores f a 0 l
unfolding stores
stores-none f a l = refl

pub stores-again : (f : ℕ → ℕ) (a n v : ℕ) (l t : List ℕ) → t ≡ stores f a n l → v ≡ f n → set t (a + n) v ≡ stores f a (n + 1) l
unfolding stores
stores-again f a n v l t e g = up_to-again (λ j t. set t (a + j) (f j)) n l e (ap (set t (a + n)) g)

-- a run of g that is f from place a on
pub stores-fill : (f g : ℕ → ℕ) (a n : ℕ) (v : List ℕ) → a + n ≤ length v → ((j : ℕ) → j < n → g j ≡ f (a + j))
    → stores g a n (tabulate f a ++ drop a v) ≡ tabulate f (a + n) ++ drop (a + n) v
unfolding stores
stores-fill f g a zero v h e = ap (λ (k : ℕ). tabulate f k ++ drop k v) (sym (add-zero a))
stores-fill f g a (suc n) v h e =
    ap₂ (λ (t : List ℕ) (x : ℕ). set t (a + n) x) (stores-fill f g a n v (omega arith) (λ j k. e j (omega arith))) (e n (le_refl (suc n)))
    ∙ fill-next f v (a + n) (omega arith)
    ∙ ap (λ (k : ℕ). tabulate f k ++ drop k v) (add-one (a + n) ∙ sym (add-suc a n))

-- a run of zeros, as the library's fill leaves it
pub stores-zeros : (a n : ℕ) (l : List ℕ) → a + n ≤ length l → paste l a (replicate n 0) n ≡ stores (λ j. 0) a n l
unfolding stores
stores-zeros a zero l h = sym (paste_none l a [])
stores-zeros a (suc n) l h =
    let e : suc n ≡ n + 1 = omega arith in
    ap (λ (k : ℕ). paste l a (replicate k 0) k) e
    ∙ sym (fill_from_more l a n 0 (omega arith))
    ∙ ap (λ (t : List ℕ). set t (a + n) 0) (stores-zeros a n l (omega arith))
