-- Bits of a stream and bits that were laid: a run is cut in two, and what was laid is read there.
use mathlib.Core.List.{List, [], ◌∷◌, ◌++◌, head-eq_of_cons-eq, tail-eq_of_cons-eq, cons-ne-nil}
use mathlib.Core.Logic.{by_cases}
use mathlib.Core.Path.{◌≡◌, refl, sym, ap, subst}
use Prim.Native.Nat.{ℕ, zero, suc, ◌+◌, ◌-◌, ◌*◌, ◌<◌, ◌≤◌}
use native.Mathlib.Decide.{ℕ_discrete}
use native.Mathlib.Nat.{add-zero, zero-add}
use native.Mathlib.Omega.{arith}
use lib.ListN.{length}
use Rattle.standard.specs.Header.{Bit}
use Rattle.bit_place.specs.Place.{bit_at, places, laid}
use Rattle.bit_place.proofs.Places.{laid-before, laid-behind, laid-there}

pub places-cut : (s : ℕ → Bit) (p m k : ℕ) → places s p (m + k) ≡ places s p m ++ places s (p + m) k
places-cut s p zero k = rw (zero-add k, add-zero p) refl
places-cut s p (suc m) k =
    let e : suc m + k ≡ suc (m + k) = omega arith in
    let q : suc p + m ≡ p + suc m = omega arith in
    rw (e, ← q) (ap (λ (l : List Bit). s p ∷ l) (places-cut s (suc p) m k))

pub places-front : (s : ℕ → Bit) (p n : ℕ) (xs ys : List Bit) → places s p n ≡ xs ++ ys → places s p (length xs) ≡ xs
places-front s p n [] ys h = refl
places-front s p zero (x ∷ xs) ys h = absurd (cons-ne-nil x (xs ++ ys) (sym h))
places-front s p (suc n) (x ∷ xs) ys h = rw (head-eq_of_cons-eq h, places-front s (suc p) n xs ys (tail-eq_of_cons-eq h)) refl

nothing : (bs : List Bit) → length bs ≡ 0 → bs ≡ []
nothing [] h = refl
nothing (b ∷ bs) h = absurd (omega (arith, h))

-- bits within the room
module _ (bs : List Bit) (at : ℕ) (l : List ℕ) (h : length bs ≤ 8 * length l - at) where
  at_once : (P : List Bit → Type 0) → P [] → (at + length bs ≤ 8 * length l → P bs) → P bs
  at_once P none some =
      by_cases (ℕ_discrete (length bs) 0) (λ z. subst P (sym (nothing bs z)) none) (λ n. some (omega (arith, n, h)))

  pub stands : places (bit_at (laid bs at l)) at (length bs) ≡ bs
  stands = at_once (λ x. places (bit_at (laid x at l)) at (length x) ≡ x) refl (laid-there bs at l)

  pub before_same : (q : ℕ) → q < at → bit_at (laid bs at l) q ≡ bit_at l q
  before_same q g = at_once (λ x. bit_at (laid x at l) q ≡ bit_at l q) refl (λ r. laid-before bs at q l r g)

  pub behind-same : (q : ℕ) → at + length bs ≤ q → bit_at (laid bs at l) q ≡ bit_at l q
  behind-same q g = at_once (λ x. bit_at (laid x at l) q ≡ bit_at l q) refl (λ r. laid-behind bs at q l r g)
