-- The set places of a word, lowest first, and a walk as the run over them: by recursion on the count of places, each set or not.
use Rattle.std.proofs.Common.{◌≡◌, ℕ, zero, suc, ◌<◌, Bool, true, false, cond, List, [], ◌∷◌, ◌++◌, sym, refl, ap, ◌∙◌, ⊎_elim, arith}
use mathlib.Core.Logic.{by_cases}
use mathlib.Core.List.Memᴰ
use mathlib.Core.List.{Memᴰ}
use native.Mathlib.Decide.{ℕ_discrete}
use Rattle.loops.specs.Run.{run}
use Rattle.loops.proofs.Runs.{run-append}
use Rattle.loops.proofs.ReadApart.{all-at, all_of}
use Rattle.bits.specs.Bit.{has_bit}
use Rattle.bits.specs.Walk.{visits}
use Rattle.walk.specs.Promises.{places, Rising}

last-rises : (n : ℕ) (l : List ℕ) → ((k : ℕ) → Memᴰ k l → k < n) → Rising l → Rising (l ++ (n ∷ []))
last-rises n [] f r = (tt, tt)
last-rises n (x ∷ l) f r =
    (all_of (λ y. x < y) (l ++ (n ∷ [])) later, last-rises n l (λ k h. f k (Memᴰ.tail h)) r.1)
  where
    later : (k : ℕ) → Memᴰ k (l ++ (n ∷ [])) → x < k
    later k h =
        ⊎_elim (λ y. all-at (λ y. x < y) l r.0 y) (λ y. let e = Memᴰ.eq_of_singleton y in omega (arith, f x (Memᴰ.head refl)))
        (Memᴰ.append_cases l h)

module _ (m : ℕ) where
  pub visits-run : {S : Type 0} (f : ℕ → S → S) (n : ℕ) (s : S) → visits n m f s ≡ run f (places n m) s
  unfolding visits
  visits-run f zero s = refl
  visits-run f (suc n) s = go (has_bit m n) (visits-run f n s)
    where
      go : (b : Bool) → visits n m f s ≡ run f (places n m) s
          → cond b (f n (visits n m f s)) (visits n m f s) ≡ run f (cond b (places n m ++ (n ∷ [])) (places n m)) s
      go true e = ap (f n) e ∙ sym (run-append f (places n m) (n ∷ []) s)
      go false e = e

  pub only : (n k : ℕ) → Memᴰ k (places n m) → (k < n) × (has_bit m k ≡ true)
  only zero k h = absurd (Memᴰ.not-nil h)
  only (suc n) k h = go (has_bit m n) refl h (only n k)
    where
      go : (b : Bool) → has_bit m n ≡ b → Memᴰ k (cond b (places n m ++ (n ∷ [])) (places n m))
          → (Memᴰ k (places n m) → (k < n) × (has_bit m k ≡ true)) → (k < suc n) × (has_bit m k ≡ true)
      go true z h f =
          ⊎_elim (λ x. (omega (arith, (f x).0), (f x).1)) (λ x. let e = Memᴰ.eq_of_singleton x in (omega arith, ap (has_bit m) e ∙ z))
          (Memᴰ.append_cases (places n m) h)
      go false z h f = (omega (arith, (f h).0), (f h).1)

  pub every : (n k : ℕ) → k < n → has_bit m k ≡ true → Memᴰ k (places n m)
  every zero k h z = absurd (omega arith)
  every (suc n) k h z = by_cases (ℕ_discrete k n) (λ e. rw (← e, z) (last e)) (λ e. go (has_bit m n) (every n k (omega arith) z))
    where
      last : k ≡ n → Memᴰ k (places k m ++ (k ∷ []))
      last e = Memᴰ.append_right (places k m) (Memᴰ.head refl)

      go : (b : Bool) → Memᴰ k (places n m) → Memᴰ k (cond b (places n m ++ (n ∷ [])) (places n m))
      go true x = Memᴰ.append_left (n ∷ []) x
      go false x = x

  pub rises : (n : ℕ) → Rising (places n m)
  rises zero = tt
  rises (suc n) = go (has_bit m n) (rises n)
    where
      go : (b : Bool) → Rising (places n m) → Rising (cond b (places n m ++ (n ∷ [])) (places n m))
      go true r = last-rises n (places n m) (λ k h. (only n k h).0) r
      go false r = r
