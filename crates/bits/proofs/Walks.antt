-- The loop `while vm & !wrapping_sub_u32(xy, 1) != 0 { if vm & xy != 0 { f } xy <<= 1; }` visits each set place below 32 once:
-- at place k the bit is 2 ^ k % 2 ^ 32, so 0 past place 31, and the loop's test is what vm has from place k on.
use mathlib.Core.Path.{◌≡◌, refl, ap, ◌∙◌, sym}
use mathlib.Core.Bool.{true, false, cond}
use mathlib.Core.Logic.{by_cases}
use Prim.Native.Nat.{ℕ, suc, ◌+◌, ◌-◌, ◌*◌, ◌/◌, ◌%◌, ◌^◌, ◌≤◌, ◌<◌}
use native.Mathlib.Omega.{arith}
use native.Mathlib.Nat.{mod-eq_of_lt, div-eq_of_lt, pow-suc, le-div_iff_mul-le, mul-le-mul_right}
use native.Mathlib.Numerals.{add-one}
use native.Mathlib.Decide.{dec_lt}
use lib.Dec.{lit<}
use lib.Bits.{bit_and, and_high, and_zero_r}
use lib.Pow.{pow_pos, pow-lt, pow_mono, shr_mod}
use Rattle.loops.proofs.Runs.{up_to-idle}
use Rattle.bits.specs.Bit.{has_bit}
use Rattle.bits.specs.Walk.{visits, ahead}
use Rattle.bits.proofs.Bits.{has_bit-0, bit-small, test-set, test-clear}

-- ---- one place more

module _ {S : Type 0} (f : ℕ → S → S) (vm : ℕ) (s : S) where
  pub visits-none : visits 0 vm f s ≡ s
  unfolding visits
  visits-none = refl

  pub visits-set : (n : ℕ) → has_bit vm n ≡ true → visits (n + 1) vm f s ≡ f n (visits n vm f s)
  unfolding visits
  visits-set n h = rw (add-one n, h)

  pub visits-clear : (n : ℕ) → has_bit vm n ≡ false → visits (n + 1) vm f s ≡ visits n vm f s
  unfolding visits
  visits-clear n h = rw (add-one n, h)

  -- past the highest set bit nothing more is visited
  pub visits-stop : (n k : ℕ) → k ≤ n → vm < 2 ^ k → visits n vm f s ≡ visits k vm f s
  unfolding visits
  visits-stop n k h l =
      up_to-idle (λ i t. cond (has_bit vm i) (f i t) t) k n (λ i g t. rw (has_bit-0 vm i (bit-small vm i (omega (arith, pow_mono g))))) h s

-- ---- the loop's test, xy the bit at place k and r = xy - 1

module _ (vm k xy r : ℕ) (hv : vm < 2 ^ 32) (hk : k ≤ 32) (hx : xy ≡ 2 ^ k % 2 ^ 32) (hr : r < 2 ^ 32) (e : (r + 1) % 2 ^ 32 ≡ xy) where
  pub walk-test : bit_and vm ((2 ^ 32 - 1) - r) ≡ vm / 2 ^ k * 2 ^ k
  walk-test = by_cases (dec_lt k 32) low top
    where
      low : k < 32 → bit_and vm ((2 ^ 32 - 1) - r) ≡ vm / 2 ^ k * 2 ^ k
      low l =
          let x : 2 ^ k % 2 ^ 32 ≡ 2 ^ k = mod-eq_of_lt (pow-lt l) in
          let j : (32 - k) + k ≡ 32 = omega arith in
          let n : (2 ^ 32 - 1) - r ≡ 2 ^ 32 - 2 ^ k = omega (arith, pow_pos k, pow-lt l) in
          ap (bit_and vm) (n ∙ ap (λ (m : ℕ). 2 ^ m - 2 ^ k) (sym j))
          ∙ and_high vm (32 - k) k
          ∙ ap (λ (m : ℕ). m * 2 ^ k) (shr_mod (32 - k) k (rw j hv))

      top : ¬ (k < 32) → bit_and vm ((2 ^ 32 - 1) - r) ≡ vm / 2 ^ k * 2 ^ k
      top f =
          let x : k ≡ 32 = omega arith in
          let z : xy ≡ 0 = hx ∙ ap (λ (m : ℕ). 2 ^ m % 2 ^ 32) x in
          ap (bit_and vm) (omega arith) ∙ and_zero_r vm ∙ sym (rw x (ap (λ (m : ℕ). m * 2 ^ 32) (div-eq_of_lt hv)))

  -- a turn is taken only below place 32
  pub walk-on : (bit_and vm ((2 ^ 32 - 1) - r) ≡ 0 → ⊥) → k < 32
  walk-on t =
      by_cases (dec_lt k 32) (λ l. l)
      (λ f. let x : k ≡ 32 = omega arith in absurd (t (walk-test ∙ rw x (ap (λ (m : ℕ). m * 2 ^ 32) (div-eq_of_lt hv)))))

  -- the walk is left only where no bit is left
  pub walk-off : bit_and vm ((2 ^ 32 - 1) - r) ≡ 0 → vm < 2 ^ k
  walk-off t =
      by_cases (dec_lt vm (2 ^ k)) (λ l. l)
      (λ f.
      let q : 1 ≤ vm / 2 ^ k = (le-div_iff_mul-le (pow_pos k)).1 (omega arith) in
      absurd (omega (arith, pow_pos k, mul-le-mul_right (2 ^ k) q, sym walk-test ∙ t)))

-- ---- the moving bit

pub walk-next : (k xy : ℕ) → xy ≡ 2 ^ k % 2 ^ 32 → (xy * 2 ^ 1) % 2 ^ 32 ≡ 2 ^ (k + 1) % 2 ^ 32
walk-next k xy h = omega (arith, pow-suc 2 k, ap (λ (n : ℕ). 2 ^ n) (add-one k))

module _ (k xy : ℕ) (l : k < 32) (h : xy ≡ 2 ^ k % 2 ^ 32) where
  walk-word : xy ≡ 2 ^ k
  walk-word = h ∙ mod-eq_of_lt (pow-lt l)

  -- the turn's own test, at the word that the code has
  pub word_set : (vm : ℕ) → (bit_and vm xy ≡ 0 → ⊥) → has_bit vm k ≡ true
  word_set vm t = test-set vm k (λ e. t (ap (bit_and vm) walk-word ∙ e))

  pub word-clear : (vm : ℕ) → bit_and vm xy ≡ 0 → has_bit vm k ≡ false
  word-clear vm e = test-clear vm k (ap (bit_and vm) (sym walk-word) ∙ e)

  -- the measure of a loop that has no counter
  pub ahead-falls : ahead ((xy * 2 ^ 1) % 2 ^ 32) < ahead xy
  ahead-falls = by_cases (dec_lt (suc k) 32) low top
    where
      low : suc k < 32 → ahead ((xy * 2 ^ 1) % 2 ^ 32) < ahead xy
      low q =
          let e = walk-word in
          let d : (xy * 2 ^ 1) % 2 ^ 32 ≡ xy * 2 = mod-eq_of_lt (omega (arith, e, pow-suc 2 k, pow-lt q)) in
          let m : (2 ^ 32 - xy * 2) % 2 ^ 32 ≡ 2 ^ 32 - xy * 2 = mod-eq_of_lt (omega (arith, e, pow_pos k)) in
          let r : (2 ^ 32 - xy) % 2 ^ 32 ≡ 2 ^ 32 - xy = mod-eq_of_lt (omega (arith, e, pow_pos k)) in
          rw (d, m, r) (omega (arith, e, pow-suc 2 k, pow-lt q, pow_pos k))

      top : ¬ (suc k < 32) → ahead ((xy * 2 ^ 1) % 2 ^ 32) < ahead xy
      top q =
          let t : k ≡ 31 = omega arith in
          let z : xy ≡ 2 ^ 31 = walk-word ∙ ap (λ (n : ℕ). 2 ^ n) t in
          rw z (lit< tt)
