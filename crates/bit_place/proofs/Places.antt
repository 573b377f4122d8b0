-- Bits at places: a place is told by its byte and its bit there, and laying bits one after another puts each at its place and no other.
use mathlib.Core.Path.{◌≡◌, refl, sym, ap, ◌∙◌}
use mathlib.Core.Bool.{true, false, or-false, or-true}
use mathlib.Core.List.{List, [], ◌∷◌, ◌++◌}
use Prim.Native.Nat.{ℕ, zero, suc, ◌+◌, ◌-◌, ◌*◌, ◌/◌, ◌%◌, ◌^◌, ◌<◌, ◌≤◌}
use native.Mathlib.Omega.{arith}
use native.Mathlib.Nat.{mod-lt, add-zero, pow-suc, lt_of_lt_of_le}
use native.Mathlib.Decide.{ℕ_discrete}
use lib.Dec.{eqb}
use lib.Pow.{shr-shr, pow_mono}
use lib.ListN.{length, get_or, set, length-set}
use lib.Seq.{get_or-set_same, get_or-set_other}
use borrow.Author.Tests.{eq-eqb, ne_eqb}
use Rattle.bits.specs.Bit.{has_bit}
use Rattle.bits.proofs.Bits.{bit-zero, has_bit-0, has_bit-1, has_bit-or, has_bit-pow, has_bit-cleared, has_bit-kept}
use Rattle.standard.specs.Header.{Bit, worth}
use Rattle.bit_place.specs.Place.{bit_at, places, number_at, with_bit, put_bit, digits, laid}

-- ---- a bit of a number

pub worth-one : (x : ℕ) → x < 2 → worth (eqb x 1) ≡ x
worth-one x h = go (ℕ_discrete x 1)
  where
    go : Dec (x ≡ 1) → worth (eqb x 1) ≡ x
    go (yes p) = rw (eq-eqb x 1 p) (sym p)
    go (no f) = let e : x ≡ 0 = omega arith in rw (ne_eqb x 1 f) (sym e)

pub worth-bit : (m k : ℕ) → worth (has_bit m k) ≡ m / 2 ^ k % 2
unfolding has_bit
worth-bit m k = worth-one (m / 2 ^ k % 2) (mod-lt _ (omega arith))

pub worth-small : (b : Bit) → worth b < 2
worth-small true = omega arith
worth-small false = omega arith

pub shifted : (v k : ℕ) → has_bit (v / 2 ^ k) 0 ≡ has_bit v k
unfolding has_bit
shifted v k = ap (λ (x : ℕ). eqb (x % 2) 1) (shr-shr v k 0) ∙ ap (λ (x : ℕ). eqb (v / 2 ^ x % 2) 1) (add-zero k)

pub even : (b : ℕ) → b % 2 ≡ 0 → has_bit b 0 ≡ false
even b h = has_bit-0 b 0 (bit-zero b ∙ h)

pub odd : (b : ℕ) → ¬ (b % 2 ≡ 0) → has_bit b 0 ≡ true
odd b h = has_bit-1 b 0 (bit-zero b ∙ omega arith)

-- ---- bits as a number

pub number_small : (s : ℕ → Bit) (p n : ℕ) → number_at s p n < 2 ^ n
unfolding number_at
number_small s p zero = omega arith
number_small s p (suc n) = rw (pow-suc 2 n) (omega (arith, number_small s p n, worth-small (s (p + n))))

pub number-none : (s : ℕ → Bit) (p : ℕ) → number_at s p 0 ≡ 0
unfolding number_at
number-none s p = refl

pub number_more : (s : ℕ → Bit) (p n : ℕ) → number_at s p (suc n) ≡ 2 * number_at s p n + worth (s (p + n))
unfolding number_at
number_more s p n = refl

-- fewer than seven bits can take one more
pub number-low : (s : ℕ → Bit) (p n : ℕ) → n < 7 → number_at s p n < 64
number-low s p n h = let g : n ≤ 6 = omega arith in lt_of_lt_of_le (number_small s p n) (pow_mono g)

-- ---- digits

pub digits-none : (v : ℕ) → digits 0 v ≡ []
unfolding digits
digits-none v = refl

pub digits_more : (n v : ℕ) → 0 < n → digits n v ≡ has_bit v (n - 1) ∷ digits (n - 1) v
unfolding digits
digits_more zero v h = absurd (omega arith)
digits_more (suc n) v h = let e : suc n - 1 ≡ n = omega arith in rw e refl

pub length_digits : (n v : ℕ) → length (digits n v) ≡ n
unfolding digits
length_digits zero v = refl
length_digits (suc n) v = ap suc (length_digits n v)

-- ---- a bit that is put

with-same : (m k : ℕ) (b : Bit) → k < 8 → has_bit (with_bit m k b) k ≡ b
unfolding with_bit
with-same m k true h = has_bit-or m (2 ^ k) k ∙ rw (has_bit-pow k k, eq-eqb k k refl) (or-true (has_bit m k))
with-same m k false h = has_bit-cleared 8 m k h

with-other : (m k j : ℕ) (b : Bit) → k < 8 → j < 8 → (j ≡ k → ⊥) → has_bit (with_bit m k b) j ≡ has_bit m j
unfolding with_bit
with-other m k j true h g f = has_bit-or m (2 ^ k) j ∙ rw (has_bit-pow k j, ne_eqb k j (λ q. f (sym q))) (or-false (has_bit m j))
with-other m k j false h g f = has_bit-kept 8 m k j h g f

pub length-put : (l : List ℕ) (p : ℕ) (b : Bit) → length (put_bit l p b) ≡ length l
unfolding put_bit
length-put l p b = length-set l (p / 8) _

pub bit-put : (l : List ℕ) (p : ℕ) (b : Bit) → p / 8 < length l → bit_at (put_bit l p b) p ≡ b
unfolding bit_at put_bit
bit-put l p b h = rw (get_or-set_same l (p / 8) (with_bit (get_or l (p / 8) 0) (7 - p % 8) b) 0 h) (with-same _ (7 - p % 8) b (omega arith))

pub bit-other : (l : List ℕ) (p q : ℕ) (b : Bit) → p / 8 < length l → (q ≡ p → ⊥) → bit_at (put_bit l p b) q ≡ bit_at l q
unfolding bit_at put_bit
bit-other l p q b h f = go (ℕ_discrete (q / 8) (p / 8))
  where
    m : ℕ
    m = with_bit (get_or l (p / 8) 0) (7 - p % 8) b

    go : Dec (q / 8 ≡ p / 8) → has_bit (get_or (set l (p / 8) m) (q / 8) 0) (7 - q % 8) ≡ has_bit (get_or l (q / 8) 0) (7 - q % 8)
    go (yes e) =
        rw (e, get_or-set_same l (p / 8) m 0 h) (with-other _ (7 - p % 8) (7 - q % 8) b (omega arith) (omega arith) (λ z. f (omega arith)))
    go (no n) = ap (λ (x : ℕ). has_bit x (7 - q % 8)) (get_or-set_other l (p / 8) (q / 8) m 0 n)

-- ---- bits that are laid

pub length-laid : (bs : List Bit) (p : ℕ) (l : List ℕ) → length (laid bs p l) ≡ length l
length-laid [] p l = refl
length-laid (b ∷ bs) p l = length-laid bs (suc p) (put_bit l p b) ∙ length-put l p b

pub laid-append : (xs ys : List Bit) (p : ℕ) (l : List ℕ) → laid (xs ++ ys) p l ≡ laid ys (p + length xs) (laid xs p l)
laid-append [] ys p l = ap (λ (q : ℕ). laid ys q l) (sym (add-zero p))
laid-append (x ∷ xs) ys p l =
    let e : suc p + length xs ≡ p + suc (length xs) = omega arith in
    laid-append xs ys (suc p) (put_bit l p x) ∙ ap (λ (q : ℕ). laid ys q (laid xs (suc p) (put_bit l p x))) e

-- a bit before and a bit behind stay
pub laid-before : (bs : List Bit) (p q : ℕ) (l : List ℕ) → p + length bs ≤ 8 * length l → q < p → bit_at (laid bs p l) q ≡ bit_at l q
laid-before [] p q l h g = refl
laid-before (b ∷ bs) p q l h g =
    let e = length-put l p b in
    laid-before bs (suc p) q (put_bit l p b) (rw e (omega arith)) (omega arith) ∙ bit-other l p q b (omega arith) (omega arith)

pub laid-behind : (bs : List Bit) (p q : ℕ) (l : List ℕ) → p + length bs ≤ 8 * length l → p + length bs ≤ q → bit_at (laid bs p l) q ≡ bit_at l q
laid-behind [] p q l h g = refl
laid-behind (b ∷ bs) p q l h g =
    let e = length-put l p b in
    laid-behind bs (suc p) q (put_bit l p b) (rw e (omega arith)) (omega arith) ∙ bit-other l p q b (omega arith) (omega arith)

-- what was laid stands there
pub laid-there : (bs : List Bit) (p : ℕ) (l : List ℕ) → p + length bs ≤ 8 * length l → places (bit_at (laid bs p l)) p (length bs) ≡ bs
laid-there [] p l h = refl
laid-there (b ∷ bs) p l h =
    let e = length-put l p b in
    let first : bit_at (laid bs (suc p) (put_bit l p b)) p ≡ b =
    laid-before bs (suc p) p (put_bit l p b) (rw e (omega arith)) (omega arith) ∙ bit-put l p b (omega arith) in
    rw (first, laid-there bs (suc p) (put_bit l p b) (rw e (omega arith))) refl
