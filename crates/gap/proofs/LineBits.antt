-- The word of the first lines: bit q of it is `line_bit`, half by half, and a test over its bits is a test over lines.
use mathlib.Core.Path.{◌≡◌, refl, sym, ap, ap₂, ◌∙◌}
use mathlib.Core.Bool.{Bool, true, false, ◌&&◌}
use mathlib.Core.Logic.{by_cases}
use Prim.Native.Nat.{ℕ, ◌+◌, ◌-◌, ◌*◌, ◌/◌, ◌%◌, ◌^◌, ◌≤◌, ◌<◌, min}
use native.Mathlib.Nat.{zero-mul, one-mul, zero-add, add-zero}
use native.Mathlib.Decide.{dec_lt}
use native.Mathlib.Omega.{arith}
use lib.Dec.{ltb}
use lib.Bits.{or_lt}
use lib.Pow.{pow_mono}
use borrow.Author.Tests.{lt-ltb, le-leb, ltb-true}
use Rattle.loops.specs.Any.{any_below}
use Rattle.loops.proofs.Anys.{any_some, any-true, any-split}
use Rattle.loops.proofs.Bools.{both_true}
use Rattle.bits.specs.Bit.{has_bit}
use Rattle.bits.proofs.Bits.{has_bit-run}
use Rattle.bits.proofs.Words.{none_from, half-low, half_high}
use Rattle.units.specs.Masks.{two_halves}
use Rattle.gap.specs.Lines.{bit_of, line_bit, line_word}
use Rattle.gap.proofs.Shapes.{Halves}

-- ---- on Bools

pub iff : (a b : Bool) → (a ≡ true → b ≡ true) → (b ≡ true → a ≡ true) → a ≡ b
iff true b f g = sym (f refl)
iff false true f g = g refl
iff false false f g = refl

-- ---- a bit of a line

module _ (h n q : ℕ) where
  pub line-in : q % 16 < h → q / 16 * h + q % 16 < n → line_bit h n q ≡ true
  unfolding line_bit
  line-in p x = ap₂ ◌&&◌ (lt-ltb (q % 16) h p) (lt-ltb (q / 16 * h + q % 16) n x)

  pub line-out : line_bit h n q ≡ true → (q % 16 < h) × (q / 16 * h + q % 16 < n)
  unfolding line_bit
  line-out t =
      let y = both_true (ltb (q % 16) h) (ltb (q / 16 * h + q % 16) n) t in
      (ltb-true (q % 16) h y.0, ltb-true (q / 16 * h + q % 16) n y.1)

-- ---- the word

has_first : (n j : ℕ) → has_bit (2 ^ n - 1) j ≡ ltb j n
has_first n j =
    ap (λ (k : ℕ). has_bit (2 ^ k - 1) j) (sym (add-zero n))
    ∙ has_bit-run n 0 j
    ∙ ap₂ ◌&&◌ (le-leb 0 j (omega arith)) (ap (ltb j) (zero-add n))

module _ (h n : ℕ) (h1 : h ≤ 16) (h2 : n ≤ 2 * h) where
  low_run : 2 ^ min n h - 1 < 2 ^ 16
  low_run = let e : min n h ≤ 16 = omega arith in omega (arith, pow_mono e)

  pub line-lt : line_word h n < 2 ^ 32
  unfolding line_word
  line-lt = let e : n - h ≤ 16 = omega arith in or_lt 32 (2 ^ min n h - 1) ((2 ^ (n - h) - 1) * 2 ^ 16) (omega (arith, low_run)) (omega (arith, pow_mono e))

  low-place : (q : ℕ) → q < 16 → q / 16 * h + q % 16 ≡ q
  low-place q l = let e : q / 16 ≡ 0 = omega arith in ap (λ (k : ℕ). k * h + q % 16) e ∙ omega (arith, zero-mul h)

  high-place : (q : ℕ) → 16 ≤ q → q < 32 → q / 16 * h + q % 16 ≡ h + (q - 16)
  high-place q g l = let e : q / 16 ≡ 1 = omega arith in ap (λ (k : ℕ). k * h + q % 16) e ∙ omega (arith, one-mul h)

  low_bit : (q : ℕ) → q < 16 → has_bit (2 ^ min n h - 1) q ≡ line_bit h n q
  low_bit q l =
      let p = low-place q l in
      has_first (min n h) q
      ∙ iff (ltb q (min n h)) (line_bit h n q) (λ t. let x = ltb-true q (min n h) t in line-in h n q (omega arith) (omega arith))
      (λ t. let x = line-out h n q t in lt-ltb q (min n h) (omega arith))

  high_bit : (q : ℕ) → 16 ≤ q → q < 32 → has_bit (2 ^ (n - h) - 1) (q - 16) ≡ line_bit h n q
  high_bit q g l =
      let p = high-place q g l in
      has_first (n - h) (q - 16)
      ∙ iff (ltb (q - 16) (n - h)) (line_bit h n q) (λ t. let x = ltb-true (q - 16) (n - h) t in line-in h n q (omega arith) (omega arith))
      (λ t. let x = line-out h n q t in lt-ltb (q - 16) (n - h) (omega arith))

  pub has-line : (q : ℕ) → q < 32 → has_bit (line_word h n) q ≡ line_bit h n q
  unfolding line_word
  has-line q l =
      by_cases (dec_lt q 16) (λ p. half-low (2 ^ min n h - 1) (2 ^ (n - h) - 1) 16 q p ∙ low_bit q p)
      (λ p.
      let e : q ≡ 16 + (q - 16) = omega arith in
      ap (has_bit (two_halves (2 ^ min n h - 1) (2 ^ (n - h) - 1) 16)) e
      ∙ half_high (2 ^ min n h - 1) (2 ^ (n - h) - 1) 16 (q - 16) (none_from (2 ^ min n h - 1) 16 (q - 16) low_run)
      ∙ high_bit q (omega arith) l)

-- ---- bits and lines

module _ (h side : ℕ) (k : Halves h side) where
  pub bit_of-half : (y : ℕ) → bit_of h y / 16 ≡ y / h
  unfolding bit_of
  bit_of-half y = omega (arith, k.bit-of y, k.most)

  pub bit_of-bit : (y : ℕ) → bit_of h y % 16 ≡ y % h
  unfolding bit_of
  bit_of-bit y = omega (arith, k.bit-of y, k.most)

  pub bit_of-lt : (y : ℕ) → y < 2 * h → bit_of h y < 32
  unfolding bit_of
  bit_of-lt y l = omega (arith, k.bit-of y, k.most, k.half_of 2 y l)

  line_of : (y : ℕ) → bit_of h y / 16 * h + bit_of h y % 16 ≡ y
  line_of y = ap₂ (λ (a b : ℕ). a * h + b) (bit_of-half y) (bit_of-bit y) ∙ k.again y

  bit-back : (q : ℕ) → q % 16 < h → bit_of h (q / 16 * h + q % 16) ≡ q
  unfolding bit_of
  bit-back q l = ap₂ (λ (a b : ℕ). 16 * a + b) (k.half_no (q / 16) (q % 16) l) (k.bit (q / 16) (q % 16) l) ∙ omega arith

  -- some bit of the lines is some line
  pub any-lines : (n : ℕ) (f : ℕ → Bool) → n ≤ 2 * h → any_below 32 (λ q. line_bit h n q && f q) ≡ any_below n (λ i. f (bit_of h i))
  any-lines n f l =
      iff (any_below 32 (λ q. line_bit h n q && f q)) (any_below n (λ i. f (bit_of h i)))
      (λ t.
      let s = any_some 32 (λ q. line_bit h n q && f q) t in
      let q = s.0 in
      let x = both_true (line_bit h n q) (f q) s.2 in
      let w = line-out h n q x.0 in
      any-true n (λ i. f (bit_of h i)) (q / 16 * h + q % 16) w.1 (ap f (bit-back q w.0) ∙ x.1))
      (λ t.
      let s = any_some n (λ i. f (bit_of h i)) t in
      let y = s.0 in
      any-true 32 (λ q. line_bit h n q && f q) (bit_of h y) (bit_of-lt y (omega (arith, s.1)))
      (ap₂ ◌&&◌ (line-in h n (bit_of h y) (omega (arith, bit_of-bit y, k.bit-of y)) (omega (arith, line_of y, s.1))) s.2))

-- the bits of the two halves
pub any-halves : (f : ℕ → Bool) → any_below 32 f ≡ any_below 2 (λ h. any_below 16 (λ b. f (16 * h + b)))
unfolding any_below
any-halves f = any-split 16 16 f

pub any-first : (n m : ℕ) (f : ℕ → Bool) → n ≤ m → any_below m (λ i. ltb i n && f i) ≡ any_below n f
any-first n m f l =
    iff (any_below m (λ i. ltb i n && f i)) (any_below n f)
    (λ t.
    let s = any_some m (λ i. ltb i n && f i) t in
    let x = both_true (ltb s.0 n) (f s.0) s.2 in
    any-true n f s.0 (ltb-true s.0 n x.0) x.1)
    (λ t.
    let s = any_some n f t in
    any-true m (λ i. ltb i n && f i) s.0 (omega (arith, s.1)) (ap₂ ◌&&◌ (lt-ltb s.0 n s.1) s.2))

-- ---- for the code

pub run_fits : (n : ℕ) → n ≤ 16 → 2 ^ n - 1 < 2 ^ 16
run_fits n l = omega (arith, pow_mono l)

pub word-make : (h n a b lo hi r : ℕ) → a ≡ min n h → b ≡ n - h → lo ≡ 2 ^ a - 1 → hi ≡ 2 ^ b - 1 → r ≡ two_halves lo hi 16 → r ≡ line_word h n
unfolding line_word
word-make h n a b lo hi r ea eb el eh e = e ∙ ap₂ (λ (x y : ℕ). two_halves x y 16) (el ∙ (λ i. 2 ^ ea i - 1)) (eh ∙ (λ i. 2 ^ eb i - 1))
