-- What the functions compute, in the standard's words: the range test, the clip, and a delta that is added once or twice, each by turning integers into differences of naturals.
use mathlib.Core.Bool.{true, ◌||◌}
use mathlib.Core.Logic.{by_cases}
use mathlib.Core.Path.{◌≡◌, refl, ◌∙◌, ap, ap₂}
use Prim.Native.Nat.{ℕ, ◌+◌, ◌-◌, ◌*◌, ◌/◌, ◌^◌, ◌<◌, ◌≤◌, min}
use native.Mathlib.Decide.{dec_lt}
use native.Mathlib.Nat.{mul-add}
use native.Mathlib.Omega.{arith}
use borrow.Author.Tests.{lt-ltb, le-ltb, eq-eqb, ne_eqb}
use lib.Dec.{ltb}
use lib.IntN.{ℤ, pos, neg_ℤ, sub_ℕ, ◌+ℤ◌, +ℤ_comm, *ℤ_comm}
use lib.Signed.{lt_z}
use Rattle.standard.specs.Math.{Clip3}
use Rattle.standard.specs.Level.{base_filter_level, lvl_seg, lvl_delta, shl, n_shift}
use Rattle.deltas.specs.Deltas.{outside}
use Rattle.loops.proofs.Ints.{is-neg, is_pos, sub-eq, pos-sub, neg-pos, add-sub, plus-sub, times-sub, lt-sub}
use Rattle.loops.specs.Flag.{on}

-- ---- d below -n or above 63, of d = u - 128

pub outside-biased : (u n : ℕ) (d : ℤ) → sub_ℕ u 128 ≡ d → outside n d ≡ (ltb (u + n) 128 || ltb 191 u)
unfolding outside
outside-biased u n d e =
    let p : lt_z (sub_ℕ u 128) (neg_ℤ (pos n)) ≡ ltb (u + n) 128 = rw (neg-pos n) (lt-sub u 128 0 n) in
    let z : u + 0 ≡ u = omega arith in
    let q : lt_z (pos 63) (sub_ℕ u 128) ≡ ltb 191 u = rw (pos-sub 63) (lt-sub 63 0 u 128 ∙ ap (ltb 191) z) in
    rw (← e) (ap₂ ◌||◌ p q)

-- ---- clips to 0..63

pub clip-is : (sum offset : ℕ) → Clip3 (pos 0) (pos 63) (sub_ℕ sum offset) ≡ pos (min (sum - offset) 63)
unfolding Clip3
clip-is sum offset =
    by_cases (dec_lt sum offset)
    (λ h. rw (is-neg sum offset (offset - (sum + 1)) (omega arith)) (ap pos (omega arith)))
    (λ h. rw (is_pos sum offset (sum - offset) (omega arith), le-ltb (sum - offset) 0 (omega arith))
    (by_cases (dec_lt 63 (sum - offset)) (λ g. rw (lt-ltb 63 (sum - offset) g) (ap pos (omega arith))) (λ g. rw (le-ltb 63 (sum - offset) (omega arith)) (ap pos (omega arith)))))

-- ---- a base with its lf and segment delta

pub segment-base-is : (level lf seg v r : ℕ) → pos v ≡ Clip3 (pos 0) (pos 63) (sub_ℕ (level + lf) 128)
    → pos r ≡ Clip3 (pos 0) (pos 63) (sub_ℕ (v + seg) 128) → pos r ≡ lvl_seg true (sub_ℕ seg 128) (base_filter_level level (sub_ℕ lf 128))
unfolding lvl_seg base_filter_level
segment-base-is level lf seg v r p q = q ∙ rw (+ℤ_comm (sub_ℕ lf 128) (pos level), plus-sub level lf 128, ← p, plus-sub v seg 128) refl

-- ---- a delta once below 32, twice from 32 on

shl-sub : (a b n k : ℕ) → n ≡ k → shl (sub_ℕ a b) n ≡ sub_ℕ (2 ^ k * a) (2 ^ k * b)
shl-sub a b n k e = rw e (*ℤ_comm (sub_ℕ a b) (pos (2 ^ k)) ∙ times-sub (2 ^ k) a b)

pub once : (base sum offset : ℕ) → base < 32 → pos base +ℤ shl (sub_ℕ sum offset) (n_shift (pos base)) ≡ sub_ℕ (base + sum) offset
once base sum offset h =
    rw (shl-sub sum offset (base / 32) 0 (omega arith))
    (plus-sub base (1 * sum) (1 * offset) ∙ sub-eq (base + 1 * sum) (1 * offset) (base + sum) offset (omega arith))

pub twice : (base sum offset : ℕ) → 32 ≤ base → base < 64
    → pos base +ℤ shl (sub_ℕ sum offset) (n_shift (pos base)) ≡ sub_ℕ (base + 2 * sum) (2 * offset)
twice base sum offset h g = rw (shl-sub sum offset (base / 32) 1 (omega arith)) (plus-sub base (2 * sum) (2 * offset))

-- two deltas at once
shl-add : (a b c d n : ℕ) → shl (sub_ℕ a b) n +ℤ shl (sub_ℕ c d) n ≡ shl (sub_ℕ (a + c) (b + d)) n
shl-add a b c d n =
    rw (shl-sub a b n n refl, shl-sub c d n n refl, shl-sub (a + c) (b + d) n n refl, mul-add (2 ^ n) a c, mul-add (2 ^ n) b d)
    (add-sub (2 ^ n * a) (2 ^ n * b) (2 ^ n * c) (2 ^ n * d))

-- ---- the deltas of reference and mode

module _ (enabled : ℕ) (refs modes : ℕ → ℤ) (r m base : ℕ) where
  pub delta-none : enabled ≡ 0 → pos base ≡ lvl_delta (on enabled) refs modes r m (pos base)
  unfolding lvl_delta
  delta-none z = rw (eq-eqb enabled 0 z) refl

  module _ (y : enabled ≡ 0 → ⊥) (u l : ℕ) (eu : sub_ℕ u 128 ≡ refs r) where
    pub delta-intra : r ≡ 0 → pos l ≡ Clip3 (pos 0) (pos 63) (pos base +ℤ shl (sub_ℕ u 128) (n_shift (pos base)))
        → pos l ≡ lvl_delta (on enabled) refs modes r m (pos base)
    unfolding lvl_delta
    delta-intra z p =
        let e : sub_ℕ u 128 ≡ refs 0 = eu ∙ ap refs z in
        rw (ne_eqb enabled 0 y, eq-eqb r 0 z, ← e) p

    pub delta-inter : (r ≡ 0 → ⊥) → base < 64 → (v : ℕ) → sub_ℕ v 128 ≡ modes m
        → pos l ≡ Clip3 (pos 0) (pos 63) (pos base +ℤ shl (sub_ℕ (u + v) 256) (n_shift (pos base)))
        → pos l ≡ lvl_delta (on enabled) refs modes r m (pos base)
    unfolding lvl_delta
    delta-inter z h v ev p = rw (ne_eqb enabled 0 y, ne_eqb r 0 z, ← eu, ← ev, shl-add u 128 v 128 (base / 32)) p
