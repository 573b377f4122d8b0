-- One direction of a plane: where the standard looks for a unit of a block, and that its tests, which count from the frame's corner, are tests from the
-- block's. The block's place is a multiple of its side and that of its transform's side, since all are powers of two.
use mathlib.Core.Path.{◌≡◌, refl, sym, ap, ap₂, subst₂, ◌∙◌}
use mathlib.Core.Logic.{◌⊎◌, inl, inr, ⊎_elim, by_cases}
use Prim.Native.Nat.{ℕ, zero, suc, ◌+◌, ◌-◌, ◌*◌, ◌/◌, ◌%◌, ◌^◌, ◌≤◌, ◌<◌, ◌∣◌}
use native.Mathlib.Nat.{zero-add, mod-mod, add-mod, mod-one, mod-eq_of_lt, mul-mod_left, mod-add-div', pow-suc, one-le-pow, one-dvd, dvd_refl, dvd_trans}
use native.Mathlib.Nat.{mul-dvd-mul_left, mul-dvd-mul_right, dvd_of_mul-dvd-mul_left, dvd_of_mod-eq-zero, mod-eq-zero_of_dvd}
use native.Mathlib.Decide.{ℕ_discrete}
use native.Mathlib.Omega.{arith}
use lib.Bits.{bit_or, or_shifted}
use lib.Dec.{eqb}
use borrow.Author.Tests.{eq-eqb, ne_eqb}
use Rattle.standard.specs.Sizes.{plane_side}
use Rattle.units.specs.Units.{chroma_unit, chroma_units}
use Rattle.units.specs.Sizes.{log2, Side}
use Rattle.agree.specs.Legal.{PlacedSide}

-- ---- where the standard looks

-- the odd luma unit of unit k
owner : (ss k : ℕ) → ss ≤ 1 → bit_or (k * 2 ^ ss) ss ≡ k * 2 ^ ss + ss
owner zero k h = or_shifted k 0 0 (omega arith)
owner (suc zero) k h = or_shifted k 1 1 (omega arith)
owner (suc (suc s)) k h = absurd (omega arith)

pub own-unit : (ss k : ℕ) → ss ≤ 1 → bit_or (k * 2 ^ ss) ss / 2 ^ ss ≡ k
own-unit ss k h = ap (λ (o : ℕ). o / 2 ^ ss) (owner ss k h) ∙ go ss h
  where
    go : (ss : ℕ) → ss ≤ 1 → (k * 2 ^ ss + ss) / 2 ^ ss ≡ k
    go zero h = omega arith
    go (suc zero) h = omega arith
    go (suc (suc s)) h = absurd (omega arith)

-- the unit before, of the direction across the pass and of the one along it
pub prev-unit : (ss k : ℕ) → ss ≤ 1 → (bit_or (k * 2 ^ ss) ss - 1 * 2 ^ ss) / 2 ^ ss ≡ k - 1
prev-unit ss k h = ap (λ (o : ℕ). (o - 1 * 2 ^ ss) / 2 ^ ss) (owner ss k h) ∙ go ss h
  where
    go : (ss : ℕ) → ss ≤ 1 → (k * 2 ^ ss + ss - 1 * 2 ^ ss) / 2 ^ ss ≡ k - 1
    go zero h = omega arith
    go (suc zero) h = omega arith
    go (suc (suc s)) h = absurd (omega arith)

pub same-unit : (ss k : ℕ) → ss ≤ 1 → (bit_or (k * 2 ^ ss) ss - 0 * 2 ^ ss) / 2 ^ ss ≡ k
same-unit ss k h = let e : bit_or (k * 2 ^ ss) ss - 0 * 2 ^ ss ≡ bit_or (k * 2 ^ ss) ss = omega arith in ap (λ (o : ℕ). o / 2 ^ ss) e ∙ own-unit ss k h

-- the sample that the edge stands at
pub sample : (ss k : ℕ) → ss ≤ 1 → 4 * (k * 2 ^ ss) / 2 ^ ss ≡ 4 * k
sample zero k h = omega arith
sample (suc zero) k h = omega arith
sample (suc (suc s)) k h = absurd (omega arith)

-- ---- a block's side in the plane

-- one unit, or an even number
pub even : (n most : ℕ) → Side n most → (n ≡ 1) ⊎ (n % 2 ≡ 0)
even n most s = go (log2 n) s.power
  where
    go : (k : ℕ) → 2 ^ k ≡ n → (n ≡ 1) ⊎ (n % 2 ≡ 0)
    go zero e = inl (sym e)
    go (suc k) e = inr (omega (arith, pow-suc 2 k))

abbrev pub Power : ℕ → Type 0
Power n = (k : ℕ) × (2 ^ k ≡ n)

module _ (n : ℕ) (s : Side n 32) where
  -- in samples
  pub in-samples : (ss : ℕ) → ss ≤ 1 → plane_side n ss ≡ 4 * chroma_units ss n
  in-samples zero h = omega (arith, s.low)
  in-samples (suc zero) h = ⊎_elim (λ e. rw e refl) (λ e. omega (arith, s.low)) (even n 32 s)
  in-samples (suc (suc k)) h = absurd (omega arith)

  -- a power of two
  pub power : (ss : ℕ) → ss ≤ 1 → Power (chroma_units ss n)
  power zero h = (log2 n, s.power ∙ omega arith)
  power (suc zero) h = go (log2 n) s.power
    where
      go : (k : ℕ) → 2 ^ k ≡ n → Power ((n + 1) / 2)
      go zero e = (0, omega arith)
      go (suc k) e = (k, omega (arith, pow-suc 2 k))
  power (suc (suc k)) h = absurd (omega arith)

  module _ (at : ℕ) where
    -- which divides the place
    pub divides : (ss : ℕ) → PlacedSide ss n at → chroma_unit ss at % chroma_units ss n ≡ 0
    divides zero p = ap₂ (λ (a b : ℕ). a % b) (omega arith) (omega arith) ∙ p.multiple
    divides (suc zero) p = ⊎_elim (λ e. rw e (mod-one (at / 2))) halved (even n 32 s)
      where
        halved : n % 2 ≡ 0 → at / 2 % ((n + 1) / 2) ≡ 0
        halved e =
            let d : n ≡ 2 * ((n + 1) / 2) = omega arith in
            let f : at / 2 ≡ at / n * ((n + 1) / 2) = omega (arith, p.multiple, mod-add-div' at n, ap (λ (k : ℕ). at / n * k) d) in
            ap (λ (k : ℕ). k % ((n + 1) / 2)) f ∙ mul-mod_left (at / n) ((n + 1) / 2)
    divides (suc (suc k)) p = absurd (omega (arith, p.sub))

    -- the block covers the odd luma unit
    pub covered : (ss : ℕ) → PlacedSide ss n at → (x : ℕ) → x < chroma_units ss n
        → (at ≤ bit_or ((chroma_unit ss at + x) * 2 ^ ss) ss) × (bit_or ((chroma_unit ss at + x) * 2 ^ ss) ss < at + n)
    covered zero p x h = rw (owner 0 (at / 1 + x) (omega arith)) (omega arith)
    covered (suc zero) p x h = rw (owner 1 (at / 2 + x) (omega arith)) (⊎_elim one more (even n 32 s))
      where
        one : n ≡ 1 → (at ≤ (at / 2 + x) * 2 + 1) × ((at / 2 + x) * 2 + 1 < at + n)
        one e = omega (arith, p.has refl e)

        more : n % 2 ≡ 0 → (at ≤ (at / 2 + x) * 2 + 1) × ((at / 2 + x) * 2 + 1 < at + n)
        more e =
            let d : n ≡ 2 * ((n + 1) / 2) = omega arith in
            let f : at ≡ 2 * (at / n * ((n + 1) / 2)) = omega (arith, p.multiple, mod-add-div' at n, ap (λ (k : ℕ). at / n * k) d) in
            omega arith
    covered (suc (suc k)) p x h = absurd (omega (arith, p.sub))

-- ---- tests from the frame's corner, and from the block's

-- a power of two divides one that is no less
pub powers : (i j : ℕ) → 2 ^ i ≤ 2 ^ j → 2 ^ i ∣ 2 ^ j
powers zero j h = one-dvd (2 ^ j)
powers (suc i) zero h = absurd (omega (arith, one-le-pow i 2 (omega arith), pow-suc 2 i))
powers (suc i) (suc j) h =
    rw (pow-suc 2 i, pow-suc 2 j) (mul-dvd-mul_right (2 ^ i) (powers i j (omega (arith, pow-suc 2 i, pow-suc 2 j))) 2)

from-corner : (m x w : ℕ) → w ∣ m → (m + x) % w ≡ x % w
from-corner m x w d = add-mod m x w ∙ rw (mod-eq-zero_of_dvd w d, zero-add (x % w)) (mod-mod x w)

-- samples and units
four-times : (a w : ℕ) → eqb (4 * a % (4 * w)) 0 ≡ eqb (a % w) 0
four-times a w =
    by_cases (ℕ_discrete (a % w) 0)
    (λ e. eq-eqb _ 0 (mod-eq-zero_of_dvd (4 * w) (mul-dvd-mul_left w 4 (dvd_of_mod-eq-zero w e))) ∙ sym (eq-eqb (a % w) 0 e))
    (λ f. ne_eqb _ 0 (λ e. f (mod-eq-zero_of_dvd w (dvd_of_mul-dvd-mul_left w (omega arith) (dvd_of_mod-eq-zero (4 * w) e)))) ∙ sym (ne_eqb (a % w) 0 f))

module _ (ss n at : ℕ) (s : Side n 32) (p : PlacedSide ss n at) (x : ℕ) where
  test : (w : ℕ) → w ∣ chroma_units ss n → eqb (4 * ((chroma_unit ss at + x) * 2 ^ ss) / 2 ^ ss % (4 * w)) 0 ≡ eqb (x % w) 0
  test w d =
      ap (λ (k : ℕ). eqb (k % (4 * w)) 0) (sample ss (chroma_unit ss at + x) p.sub) ∙ four-times (chroma_unit ss at + x) w
      ∙ ap (λ (k : ℕ). eqb k 0) (from-corner (chroma_unit ss at) x w (dvd_trans w d (dvd_of_mod-eq-zero (chroma_units ss n) (divides n s at ss p))))

  pub tx-test : (w : ℕ) → Side w 16 → w ≤ chroma_units ss n → eqb (4 * ((chroma_unit ss at + x) * 2 ^ ss) / 2 ^ ss % (4 * w)) 0 ≡ eqb (x % w) 0
  tx-test w q h =
      let c = power n s ss p.sub in
      test w (subst₂ (λ (a b : ℕ). a ∣ b) q.power c.1 (powers (log2 w) c.0 (omega (arith, q.power, c.1))))

  pub block-test : x < chroma_units ss n → eqb (4 * ((chroma_unit ss at + x) * 2 ^ ss) / 2 ^ ss % plane_side n ss) 0 ≡ eqb x 0
  block-test h =
      ap (λ (k : ℕ). eqb (4 * ((chroma_unit ss at + x) * 2 ^ ss) / 2 ^ ss % k) 0) (in-samples n s ss p.sub) ∙ test (chroma_units ss n) (dvd_refl (chroma_units ss n))
      ∙ ap (λ (k : ℕ). eqb k 0) (mod-eq_of_lt h)
