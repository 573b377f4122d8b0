-- The laws of bits: of or, and, complement, powers and halves of words, each proved of the number `bit` from the library's laws of digits, and handed on to the test `has_bit`.
use mathlib.Core.Path.{◌≡◌, sym, ap, ◌∙◌}
use mathlib.Core.Bool.{true, false, ◌&&◌, ◌||◌, false≢true}
use mathlib.Core.Logic.{by_cases, ◌⊎◌, inl, inr, ⊎_elim}
use Prim.Native.Nat.{ℕ, zero, suc, ◌+◌, ◌-◌, ◌*◌, ◌/◌, ◌%◌, ◌^◌, ◌≤◌, ◌<◌, suc-le-suc, min, max}
use native.Mathlib.Omega.{arith}
use native.Mathlib.Nat.{mod-lt, pow-suc, div_self, mul-div_cancel, mul-mod_left, div-eq_of_lt, mul_assoc, add_comm, add-zero, add-mul-div_right}
use native.Mathlib.Nat.{mul-add-mod_self_right, div-one, not-suc-le-zero, le_of_suc-le-suc, zero-lt-suc, zero-mul, one-mul, sub-zero}
use native.Mathlib.Numerals.{one-add}
use native.Mathlib.Decide.{ℕ_discrete, dec_lt}
use lib.Dec.{eqb, ltb, leb}
use lib.Arith.{digits_mod}
use lib.Pow.{pow_pos, pow-lt, pow_mono, pow-add, shr-shr, shl_exact, high, high_ones, ones_lt}
use lib.Bits.{bit_and, bit_or, or_shr, and_shr, or_step, and_step, and_high}
use borrow.Author.Tests.{eq-eqb, ne_eqb, lt-ltb, le-ltb, le-leb, lt-leb}
use Rattle.bits.specs.Bit.{bit, has_bit}

-- ---- a bit as a number

pub bit_le : (m k : ℕ) → bit m k < 2
unfolding bit
bit_le m k = mod-lt (m / 2 ^ k) (omega arith)

pub bit-or : (a b k : ℕ) → bit (bit_or a b) k ≡ max (bit a k) (bit b k)
unfolding bit
bit-or a b k = ap (λ (x : ℕ). x % 2) (or_shr a b k ∙ or_step (a / 2 ^ k) (b / 2 ^ k)) ∙ digits_mod _ (omega arith)

pub bit-and : (a b k : ℕ) → bit (bit_and a b) k ≡ min (bit a k) (bit b k)
unfolding bit
bit-and a b k = ap (λ (x : ℕ). x % 2) (and_shr a b k ∙ and_step (a / 2 ^ k) (b / 2 ^ k)) ∙ digits_mod _ (omega arith)

pub bit-small : (m k : ℕ) → m < 2 ^ k → bit m k ≡ 0
unfolding bit
bit-small m k h = ap (λ (x : ℕ). x % 2) (div-eq_of_lt h)

pub bit-nil : (k : ℕ) → bit 0 k ≡ 0
bit-nil k = bit-small 0 k (pow_pos k)

-- ---- a power of two has one bit

pub bit-pow-same : (k : ℕ) → bit (2 ^ k) k ≡ 1
unfolding bit
bit-pow-same k = ap (λ (x : ℕ). x % 2) (div_self (pow_pos k))

-- 2 ^ (d + 1 + k) / 2 ^ k is even
bit-pow-under : (j k : ℕ) → k < j → bit (2 ^ j) k ≡ 0
unfolding bit
bit-pow-under j k h =
    let e : j ≡ suc (j - suc k) + k = omega arith in
    ap (λ (x : ℕ). 2 ^ x / 2 ^ k % 2) e
    ∙ ap (λ (x : ℕ). x / 2 ^ k % 2) (pow-add 2 (suc (j - suc k)) k)
    ∙ ap (λ (x : ℕ). x % 2) (mul-div_cancel (2 ^ suc (j - suc k)) (pow_pos k))
    ∙ ap (λ (x : ℕ). x % 2) (pow-suc 2 (j - suc k))
    ∙ mul-mod_left (2 ^ (j - suc k)) 2

pub bit-pow-other : (j k : ℕ) → (k ≡ j → ⊥) → bit (2 ^ j) k ≡ 0
bit-pow-other j k ne =
    by_cases (dec_lt j k) (λ h. bit-small (2 ^ j) k (pow-lt h)) (λ f. bit-pow-under j k (omega arith))

-- ---- a word of two halves

pub bit-low : (hi lo w k : ℕ) → lo < 2 ^ w → k < w → bit (hi * 2 ^ w + lo) k ≡ bit lo k
unfolding bit
bit-low hi lo w k hl hk =
    let e : w ≡ suc (w - suc k) + k = omega arith in
    ap (λ (x : ℕ). (hi * x + lo) / 2 ^ k % 2) (ap (λ (x : ℕ). 2 ^ x) e ∙ pow-add 2 (suc (w - suc k)) k)
    ∙ ap (λ (x : ℕ). (x + lo) / 2 ^ k % 2) (sym (mul_assoc hi (2 ^ suc (w - suc k)) (2 ^ k)))
    ∙ ap (λ (x : ℕ). x / 2 ^ k % 2) (add_comm (hi * 2 ^ suc (w - suc k) * 2 ^ k) lo)
    ∙ ap (λ (x : ℕ). x % 2) (add-mul-div_right lo (hi * 2 ^ suc (w - suc k)) (pow_pos k))
    ∙ ap (λ (x : ℕ). x % 2) (add_comm (lo / 2 ^ k) (hi * 2 ^ suc (w - suc k)))
    ∙ ap (λ (x : ℕ). (x + lo / 2 ^ k) % 2) (ap (λ (x : ℕ). hi * x) (pow-suc 2 (w - suc k)) ∙ sym (mul_assoc hi (2 ^ (w - suc k)) 2))
    ∙ mul-add-mod_self_right (hi * 2 ^ (w - suc k)) 2 (lo / 2 ^ k)

pub bit_high : (hi lo w k : ℕ) → lo < 2 ^ w → bit (hi * 2 ^ w + lo) (w + k) ≡ bit hi k
unfolding bit
bit_high hi lo w k hl =
    ap (λ (x : ℕ). x % 2) (sym (shr-shr (hi * 2 ^ w + lo) w k) ∙ ap (λ (x : ℕ). x / 2 ^ k) (high hi w hl))

-- ---- one bit less

pub bit-zero : (m : ℕ) → bit m zero ≡ m % 2
unfolding bit
bit-zero m = ap (λ (x : ℕ). x % 2) (div-one m)

pub bit-suc : (m k : ℕ) → bit m (suc k) ≡ bit (m / 2) k
unfolding bit
bit-suc m k = ap (λ (x : ℕ). x % 2) (ap (λ (x : ℕ). m / 2 ^ x) (sym (one-add k)) ∙ sym (shr-shr m 1 k))

-- the complement at w bits: `!a` is (2 ^ w - 1) - a
pub bit_not : (w a k : ℕ) → a < 2 ^ w → k < w → bit ((2 ^ w - 1) - a) k + bit a k ≡ 1
bit_not zero a k ha hk = absurd (not-suc-le-zero hk)
bit_not (suc w) a zero ha hk = rw (bit-zero, bit-zero) (omega (arith, pow-suc 2 w, pow_pos w))
bit_not (suc w) a (suc k) ha hk =
    let e : ((2 ^ suc w - 1) - a) / 2 ≡ (2 ^ w - 1) - a / 2 = omega (arith, pow-suc 2 w, pow_pos w) in
    rw (bit-suc, e, bit-suc) (bit_not w (a / 2) k (omega (arith, pow-suc 2 w)) (le_of_suc-le-suc hk))

pub bit-ones : (w k : ℕ) → k < w → bit (2 ^ w - 1) k ≡ 1
bit-ones w k h = omega (arith, rw (sub-zero (2 ^ w - 1)) at (bit_not w 0 k (pow_pos w) h), bit-nil k)

-- words with the same bits are the same word
pub bit-ext : (w a b : ℕ) → a < 2 ^ w → b < 2 ^ w → ((k : ℕ) → k < w → bit a k ≡ bit b k) → a ≡ b
bit-ext zero a b ha hb h = omega arith
bit-ext (suc w) a b ha hb h =
    let l : a % 2 ≡ b % 2 = sym (bit-zero a) ∙ h zero (zero-lt-suc w) ∙ bit-zero b in
    let r : a / 2 ≡ b / 2 = bit-ext w (a / 2) (b / 2) (omega (arith, pow-suc 2 w)) (omega (arith, pow-suc 2 w))
    (λ k hk. sym (bit-suc a k) ∙ h (suc k) (suc-le-suc hk) ∙ bit-suc b k) in
    omega arith

-- ---- a bit as a test

pub has_bit-1 : (m k : ℕ) → bit m k ≡ 1 → has_bit m k ≡ true
unfolding bit has_bit
has_bit-1 m k e = eq-eqb _ _ e

pub has_bit-0 : (m k : ℕ) → bit m k ≡ 0 → has_bit m k ≡ false
unfolding bit has_bit
has_bit-0 m k e = ne_eqb (m / 2 ^ k % 2) 1 (λ q. omega arith)

pub has-of-bit : (a b j k : ℕ) → bit a j ≡ bit b k → has_bit a j ≡ has_bit b k
unfolding bit has_bit
has-of-bit a b j k e = ap (λ (x : ℕ). eqb x 1) e

bit-cases : (m k : ℕ) → (bit m k ≡ 0) ⊎ (bit m k ≡ 1)
bit-cases m k = by_cases (ℕ_discrete (bit m k) 0) (λ e. inl e) (λ n. inr (omega (arith, bit_le m k)))

pub bit-of-has : (a b k : ℕ) → has_bit a k ≡ has_bit b k → bit a k ≡ bit b k
bit-of-has a b k h =
    ⊎_elim
    (λ p. ⊎_elim (λ q. p ∙ sym q) (λ q. absurd (false≢true (sym (has_bit-0 a k p) ∙ h ∙ has_bit-1 b k q))) (bit-cases b k))
    (λ p. ⊎_elim (λ q. absurd (false≢true (sym (has_bit-0 b k q) ∙ sym h ∙ has_bit-1 a k p))) (λ q. p ∙ sym q) (bit-cases b k))
    (bit-cases a k)

pub has_bit-or : (a b k : ℕ) → has_bit (bit_or a b) k ≡ (has_bit a k || has_bit b k)
has_bit-or a b k =
    ⊎_elim
    (λ p. rw (has_bit-0 a k p) (has-of-bit (bit_or a b) b k k (bit-or a b k ∙ omega arith)))
    (λ p. rw (has_bit-1 a k p) (has_bit-1 (bit_or a b) k (bit-or a b k ∙ omega (arith, bit_le b k))))
    (bit-cases a k)

pub has_bit-and : (a b k : ℕ) → has_bit (bit_and a b) k ≡ (has_bit a k && has_bit b k)
has_bit-and a b k =
    ⊎_elim
    (λ p. rw (has_bit-0 a k p) (has_bit-0 (bit_and a b) k (bit-and a b k ∙ omega arith)))
    (λ p. rw (has_bit-1 a k p) (has-of-bit (bit_and a b) b k k (bit-and a b k ∙ omega (arith, bit_le b k))))
    (bit-cases a k)

pub has_bit-nil : (k : ℕ) → has_bit 0 k ≡ false
has_bit-nil k = has_bit-0 0 k (bit-nil k)

pub has_bit-pow : (j k : ℕ) → has_bit (2 ^ j) k ≡ eqb j k
has_bit-pow j k =
    by_cases (ℕ_discrete j k)
    (λ p. rw (eq-eqb j k p, p) (has_bit-1 _ _ (bit-pow-same k)))
    (λ f. rw (ne_eqb j k f) (has_bit-0 _ _ (bit-pow-other j k (λ e. f (sym e)))))

pub has_bit-ones : (w k : ℕ) → k < w → has_bit (2 ^ w - 1) k ≡ true
has_bit-ones w k h = has_bit-1 _ _ (bit-ones w k h)

-- the word of a run of n bits from k on
pub has_bit-run : (n k j : ℕ) → has_bit (2 ^ (n + k) - 2 ^ k) j ≡ (leb k j && ltb j (k + n))
has_bit-run n k j = rw (high_ones n k, ← add-zero ((2 ^ n - 1) * 2 ^ k)) (go (dec_lt j k) (dec_lt j (k + n)))
  where
    from : k ≤ j → bit ((2 ^ n - 1) * 2 ^ k + 0) j ≡ bit (2 ^ n - 1) (j - k)
    from h = let e : j ≡ k + (j - k) = omega arith in ap (bit ((2 ^ n - 1) * 2 ^ k + 0)) e ∙ bit_high (2 ^ n - 1) 0 k (j - k) (pow_pos k)

    go : Dec (j < k) → Dec (j < k + n) → has_bit ((2 ^ n - 1) * 2 ^ k + 0) j ≡ (leb k j && ltb j (k + n))
    go (yes p) q = rw (lt-leb k j p) (has_bit-0 _ _ (bit-low (2 ^ n - 1) 0 k j (pow_pos k) p ∙ bit-nil j))
    go (no p) (yes q) =
        rw (le-leb k j (omega arith), lt-ltb j (k + n) q) (has_bit-1 _ _ (from (omega arith) ∙ bit-ones n (j - k) (omega arith)))
    go (no p) (no q) =
        let l : n ≤ j - k = omega arith in
        rw (le-leb k j (omega arith), le-ltb j (k + n) (omega arith))
        (has_bit-0 _ _ (from (omega arith) ∙ bit-small (2 ^ n - 1) (j - k) (omega (arith, ones_lt n, pow_mono l))))

-- ---- tests and words of code

-- `n & xy`, for xy the word of one bit
and_pow : (n k : ℕ) → bit_and n (2 ^ k) ≡ bit n k * 2 ^ k
unfolding bit
and_pow n k = ap (bit_and n) (omega (arith, pow-suc 2 k, ap (λ (x : ℕ). 2 ^ x) (one-add k))) ∙ and_high n 1 k

-- `n & xy != 0` taken, and left
pub test-set : (n k : ℕ) → (bit_and n (2 ^ k) ≡ 0 → ⊥) → has_bit n k ≡ true
test-set n k h =
    ⊎_elim (λ e. absurd (h (and_pow n k ∙ ap (λ (x : ℕ). x * 2 ^ k) e ∙ zero-mul (2 ^ k)))) (has_bit-1 n k) (bit-cases n k)

pub test-clear : (n k : ℕ) → bit_and n (2 ^ k) ≡ 0 → has_bit n k ≡ false
test-clear n k h =
    ⊎_elim (has_bit-0 n k) (λ e. absurd (omega (arith, pow_pos k, one-mul (2 ^ k), ap (λ (x : ℕ). x * 2 ^ k) (sym e) ∙ sym (and_pow n k) ∙ h)))
    (bit-cases n k)

-- `1 << k`, at w bits
pub one_shl : (k w : ℕ) → k < w → (1 * 2 ^ k) % 2 ^ w ≡ 2 ^ k
one_shl k w h = shl_exact 1 k w (omega arith) (omega arith) ∙ one-mul (2 ^ k)

-- `m & !(1 << k)`, at w bits
pub has_bit-cleared : (w m k : ℕ) → k < w → has_bit (bit_and m ((2 ^ w - 1) - 2 ^ k)) k ≡ false
has_bit-cleared w m k h =
    has_bit-0 _ _ (bit-and m ((2 ^ w - 1) - 2 ^ k) k ∙ omega (arith, bit_not w (2 ^ k) k (pow-lt h) h, bit-pow-same k))

pub has_bit-kept : (w m k j : ℕ) → k < w → j < w → (j ≡ k → ⊥) → has_bit (bit_and m ((2 ^ w - 1) - 2 ^ k)) j ≡ has_bit m j
has_bit-kept w m k j h hj ne =
    has-of-bit _ _ j j (bit-and m ((2 ^ w - 1) - 2 ^ k) j ∙ omega (arith, bit_not w (2 ^ k) j (pow-lt h) hj, bit-pow-other k j ne, bit_le m j))
