-- A test of the first n values of a list, as `any` asks it and as the specification does.
use Rattle.std.proofs.Common.{ℕ, zero, suc, ◌≤◌, ◌≡◌, refl, Bool, List, length, get_or, take, arith, add-one}
use Rattle.std.specs.List.{list_any}
use Rattle.std.proofs.lemmas.List.Folds.{list_any_more}
use Rattle.loops.specs.Any.{any_below}

pub any-among : (p : ℕ → Bool) (n : ℕ) (xs : List ℕ) → n ≤ length xs → list_any p (take n xs) ≡ any_below n (λ i. p (get_or xs i 0))
unfolding any_below
any-among p zero xs h = refl
any-among p (suc n) xs h = rw (← add-one n, list_any_more p xs n 0 (omega arith), any-among p n xs (omega arith)) refl
