-- A line is taken off the front of a script, and lines are read as they are written, by recursion on the bytes of a line.
use mathlib.Core.Bool.{Bool, true, false, not, cond}
use mathlib.Core.List.{List, [], ◌∷◌, ◌++◌, append_assoc}
use mathlib.Core.Path.{◌≡◌, refl, ap, ◌∙◌}
use Prim.Native.Nat.{ℕ, suc, ◌+◌, ◌≤◌, ◌<◌}
use native.Mathlib.Omega.{arith}
use borrow.Author.Tests.{not-true}
use lib.Dec.{eqb}
use lib.ListN.{length, take, drop}
use Rattle.loops.proofs.Bools.{both_true}
use Rattle.list_fields.specs.Fields.{cut, without}
use Rattle.list_text.specs.Text.{end}
use Rattle.list_call.specs.Listing.{push, lines_of}
use Rattle.list_call.specs.Promises.{ended, Plain}

pub line-off : (s t : List ℕ) → cut end s < length s → lines_of (s ++ t) ≡ take (cut end s) s ∷ lines_of (drop (cut end s + 1) s ++ t)
unfolding cut
line-off [] t h = absurd (omega arith)
line-off (b ∷ s) t h = go (eqb b end) h (line-off s t)
  where
    go : (e : Bool) → cond e 0 (suc (cut end s)) < suc (length s)
        → (cut end s < length s → lines_of (s ++ t) ≡ take (cut end s) s ∷ lines_of (drop (cut end s + 1) s ++ t))
        → cond e ([] ∷ lines_of (s ++ t)) (push b (lines_of (s ++ t)))
        ≡ take (cond e 0 (suc (cut end s))) (b ∷ s) ∷ lines_of (drop (cond e 0 (suc (cut end s)) + 1) (b ∷ s) ++ t)
    go true h f = refl
    go false h f =
        let e : suc (cut end s + 1) ≡ suc (cut end s) + 1 = omega arith in
        ap (λ (ls : List (List ℕ)). push b ls) (f (omega arith)) ∙ ap (λ (n : ℕ). (b ∷ take (cut end s) s) ∷ lines_of (drop n (b ∷ s) ++ t)) e

pub line-open : (s : List ℕ) → 0 < length s → cut end s ≡ length s → lines_of s ≡ s ∷ []
unfolding cut
line-open [] h e = absurd (omega arith)
line-open (b ∷ []) h e = go (eqb b end) e
  where
    go : (d : Bool) → cond d 0 (suc 0) ≡ length (b ∷ []) → cond d ([] ∷ []) ((b ∷ []) ∷ []) ≡ (b ∷ []) ∷ []
    go true e = absurd (omega arith)
    go false e = refl
line-open (b ∷ c ∷ s) h e = go (eqb b end) e (line-open (c ∷ s) (omega arith))
  where
    go : (d : Bool) → cond d 0 (suc (cut end (c ∷ s))) ≡ suc (length (c ∷ s)) → (cut end (c ∷ s) ≡ length (c ∷ s) → lines_of (c ∷ s) ≡ (c ∷ s) ∷ [])
        → cond d ([] ∷ lines_of (c ∷ s)) (push b (lines_of (c ∷ s))) ≡ (b ∷ c ∷ s) ∷ []
    go true e f = absurd (omega arith)
    go false e f = ap (λ (ls : List (List ℕ)). push b ls) (f (omega arith))

pub lines-most : (s : List ℕ) → length (lines_of s) ≤ length s
lines-most [] = omega arith
lines-most (b ∷ s) = go (eqb b end) (lines_of s) (lines-most s)
  where
    go : (d : Bool) (ls : List (List ℕ)) → length ls ≤ length s → length (cond d ([] ∷ ls) (push b ls)) ≤ suc (length s)
    go true ls h = omega arith
    go false [] h = omega arith
    go false (l ∷ ls) h = omega arith

-- ---- as they are written

line-ended : (l t : List ℕ) → without end l ≡ true → lines_of (l ++ (end ∷ t)) ≡ l ∷ lines_of t
line-ended [] t h = refl
line-ended (b ∷ l) t h =
    let e = both_true (not (eqb b end)) (without end l) h in
    simp (not-true (eqb b end) e.0, line-ended l t e.1)

line-last : (l : List ℕ) → without end l ≡ true → 0 < length l → lines_of l ≡ l ∷ []
line-last [] h n = absurd (omega arith)
line-last (b ∷ []) h n = let e = both_true (not (eqb b end)) true h in simp (not-true (eqb b end) e.0)
line-last (b ∷ c ∷ l) h n =
    let e = both_true (not (eqb b end)) (without end (c ∷ l)) h in
    simp (not-true (eqb b end) e.0, line-last (c ∷ l) e.1 (omega arith))

pub lines : (ls : List (List ℕ)) → Plain ls → lines_of (ended ls) ≡ ls
lines [] h = refl
lines (l ∷ ls) h = line-ended l (ended ls) h.0 ∙ ap (λ (k : List (List ℕ)). l ∷ k) (lines ls h.1)

pub last : (ls : List (List ℕ)) (l : List ℕ) → Plain (l ∷ ls) → 0 < length l → lines_of (ended ls ++ l) ≡ ls ++ (l ∷ [])
last [] l h n = line-last l h.0 n
last (m ∷ ls) l h n =
    ap lines_of (append_assoc m (end ∷ ended ls) l)
    ∙ line-ended m (ended ls ++ l) h.1.0
    ∙ ap (λ (k : List (List ℕ)). m ∷ k) (last ls l (h.0, h.1.1) n)
