-- Many tests at once: two halves are one word, bit by bit; a word is not zero exactly when it has a bit; and a bit of words or-ed together
-- is the or of their bits, by recursion on the count of words.
use mathlib.Core.Path.{◌≡◌, refl, sym, ap, ap₂, ◌∙◌}
use mathlib.Core.Bool.{Bool, true, false, ◌||◌, not, or-false, or-true, false≢true}
use Prim.Native.Nat.{ℕ, zero, suc, ◌+◌, ◌-◌, ◌*◌, ◌/◌, ◌%◌, ◌^◌, ◌≤◌, ◌<◌}
use native.Mathlib.Omega.{arith}
use native.Mathlib.Nat.{add-zero, le_refl, div-eq_of_lt, mod-eq_of_lt}
use native.Mathlib.Numerals.{add-one}
use native.Mathlib.Decide.{dec_lt}
use lib.Dec.{eqb, ltb}
use lib.Bits.{bit_or, or_lt, or_add_and, and_le_l, and_le_r, or_shr, or_mod}
use lib.Pow.{pow_pos, pow_mono}
use borrow.Author.Tests.{eq-eqb, ne_eqb, lt-ltb, le-ltb}
use Rattle.loops.specs.Any.{any_below}
use Rattle.loops.proofs.Anys.{any-each, any_some}
use Rattle.bits.specs.Bit.{bit, has_bit}
use Rattle.bits.specs.Word.{or_below}
use Rattle.bits.proofs.Bits.{has_bit-0, has_bit-or, has_bit-nil, has-of-bit, bit-small, bit-low, bit_high, bit-nil, bit-ext, bit-of-has}

-- ---- two halves of h bits

pub none_from : (m h v : ℕ) → m < 2 ^ h → has_bit m (h + v) ≡ false
none_from m h v l = let e : h ≤ h + v = omega arith in has_bit-0 m (h + v) (bit-small m (h + v) (omega (arith, pow_mono e)))

module _ (lo hi h : ℕ) where
  shifted : hi * 2 ^ h ≡ hi * 2 ^ h + 0
  shifted = sym (add-zero (hi * 2 ^ h))

  pub half-low : (v : ℕ) → v < h → has_bit (bit_or lo (hi * 2 ^ h)) v ≡ has_bit lo v
  half-low v l =
      has_bit-or lo (hi * 2 ^ h) v
      ∙ ap (λ (b : Bool). has_bit lo v || b)
      (has_bit-0 (hi * 2 ^ h) v (ap (λ (n : ℕ). bit n v) shifted ∙ bit-low hi 0 h v (pow_pos h) l ∙ bit-nil v))
      ∙ or-false (has_bit lo v)

  pub half_high : (v : ℕ) → has_bit lo (h + v) ≡ false → has_bit (bit_or lo (hi * 2 ^ h)) (h + v) ≡ has_bit hi v
  half_high v e =
      has_bit-or lo (hi * 2 ^ h) (h + v)
      ∙ ap₂ ◌||◌ e (ap (λ (n : ℕ). has_bit n (h + v)) shifted ∙ has-of-bit _ _ (h + v) v (bit_high hi 0 h v (pow_pos h)))

-- ---- a word that is not zero

pub word_some : (n w : ℕ) → w < 2 ^ n → not (eqb w 0) ≡ any_below n (has_bit w)
word_some n w h = go (any_below n (has_bit w)) refl
  where
    go : (b : Bool) → any_below n (has_bit w) ≡ b → not (eqb w 0) ≡ any_below n (has_bit w)
    go false e =
        let z : w ≡ 0 = bit-ext n w 0 h (pow_pos n) (λ k l. bit-of-has w 0 k (any-each n (has_bit w) e k l ∙ sym (has_bit-nil k))) in
        rw (eq-eqb w 0 z) (sym e)
    go true e =
        let s = any_some n (has_bit w) e in
        rw (ne_eqb w 0 (λ z. false≢true (sym (has_bit-nil s.0) ∙ ap (λ (x : ℕ). has_bit x s.0) (sym z) ∙ s.2))) (sym e)

-- ---- a loop that ors

pub or-none : (f : ℕ → ℕ) → 0 ≡ or_below 0 f
unfolding or_below
or-none f = refl

pub or-more : (n : ℕ) (f : ℕ → ℕ) (a b r : ℕ) → a ≡ or_below n f → b ≡ f n → r ≡ bit_or a b → r ≡ or_below (n + 1) f
unfolding or_below
or-more n f a b r p q e = e ∙ ap₂ bit_or p q ∙ ap (λ (k : ℕ). or_below k f) (sym (add-one n))

pub or_same : (n : ℕ) (f g : ℕ → ℕ) → ((x : ℕ) → x < n → f x ≡ g x) → or_below n f ≡ or_below n g
unfolding or_below
or_same zero f g h = refl
or_same (suc n) f g h = ap₂ bit_or (or_same n f g (λ x l. h x (omega arith))) (h n (le_refl (suc n)))

-- ---- what it says of the words

pub or_below-lt : (w n : ℕ) (f : ℕ → ℕ) → ((x : ℕ) → x < n → f x < 2 ^ w) → or_below n f < 2 ^ w
unfolding or_below
or_below-lt w zero f h = pow_pos w
or_below-lt w (suc n) f h = or_lt w (or_below n f) (f n) (or_below-lt w n f (λ x l. h x (omega arith))) (h n (le_refl (suc n)))

pub has-or_below : (n : ℕ) (f : ℕ → ℕ) (k : ℕ) → has_bit (or_below n f) k ≡ any_below n (λ x. has_bit (f x) k)
unfolding or_below any_below
has-or_below zero f k = has_bit-nil k
has-or_below (suc n) f k = has_bit-or (or_below n f) (f n) k ∙ ap (λ (b : Bool). b || has_bit (f n) k) (has-or_below n f k)

-- above 2 ^ d - 1
pub or_above : (d a b : ℕ) → ltb (2 ^ d - 1) (bit_or a b) ≡ (ltb (2 ^ d - 1) a || ltb (2 ^ d - 1) b)
or_above d a b = go (dec_lt a (2 ^ d)) (dec_lt b (2 ^ d))
  where
    go : Dec (a < 2 ^ d) → Dec (b < 2 ^ d) → ltb (2 ^ d - 1) (bit_or a b) ≡ (ltb (2 ^ d - 1) a || ltb (2 ^ d - 1) b)
    go (yes p) (yes q) =
        rw (le-ltb (2 ^ d - 1) a (omega arith), le-ltb (2 ^ d - 1) b (omega arith)) (le-ltb (2 ^ d - 1) (bit_or a b) (omega (arith, or_lt d a b p q)))
    go (no p) q =
        rw (lt-ltb (2 ^ d - 1) a (omega (arith, pow_pos d))) (lt-ltb (2 ^ d - 1) (bit_or a b) (omega (arith, pow_pos d, or_add_and a b, and_le_r a b)))
    go (yes p) (no q) =
        rw (lt-ltb (2 ^ d - 1) b (omega (arith, pow_pos d)), or-true (ltb (2 ^ d - 1) a))
        (lt-ltb (2 ^ d - 1) (bit_or a b) (omega (arith, pow_pos d, or_add_and a b, and_le_l a b)))

pub above-or_below : (d n : ℕ) (f : ℕ → ℕ) → ltb (2 ^ d - 1) (or_below n f) ≡ any_below n (λ x. ltb (2 ^ d - 1) (f x))
unfolding or_below any_below
above-or_below d zero f = le-ltb (2 ^ d - 1) 0 (omega arith)
above-or_below d (suc n) f = or_above d (or_below n f) (f n) ∙ ap (λ (b : Bool). b || ltb (2 ^ d - 1) (f n)) (above-or_below d n f)

-- a field
pub field-or_below : (j k n : ℕ) (f : ℕ → ℕ) → or_below n f / 2 ^ j % 2 ^ k ≡ or_below n (λ x. f x / 2 ^ j % 2 ^ k)
unfolding or_below
field-or_below j k zero f = ap (λ (x : ℕ). x % 2 ^ k) (div-eq_of_lt (pow_pos j)) ∙ mod-eq_of_lt (pow_pos k)
field-or_below j k (suc n) f =
    ap (λ (x : ℕ). x % 2 ^ k) (or_shr (or_below n f) (f n) j)
    ∙ or_mod (or_below n f / 2 ^ j) (f n / 2 ^ j) k
    ∙ ap (λ (x : ℕ). bit_or x (f n / 2 ^ j % 2 ^ k)) (field-or_below j k n f)
