-- All samples or-ed together are above 2 ^ d - 1 exactly when some sample is, four lines at a time.
use mathlib.Core.Path.{◌≡◌, refl, sym, ap, ap₂, ◌∙◌}
use mathlib.Core.Bool.{Bool, not, ◌||◌}
use mathlib.Core.List.{List}
use Prim.Native.Nat.{ℕ, ◌+◌, ◌-◌, ◌*◌, ◌/◌, ◌^◌, ◌≤◌, ◌<◌}
use native.Mathlib.Nat.{div-eq_of_lt, le-div_iff_mul-le, one-mul, add-mul, mul-add, mul_assoc}
use native.Mathlib.Decide.{dec_lt}
use native.Mathlib.Omega.{arith}
use lib.Bits.{bit_or}
use lib.Dec.{eqb, ltb}
use lib.ListN.{get_or}
use lib.Pow.{pow_pos}
use borrow.Author.Tests.{eq-eqb, ne_eqb, lt-ltb, le-ltb}
use Rattle.loops.specs.Any.{any_below}
use Rattle.loops.proofs.Anys.{any_same, any-or}
use Rattle.bits.proofs.Words.{above-or_below, or_above}
use Rattle.scans.specs.Or.{four_lines, or_quad, or_samples}
use Rattle.scans.specs.Scan.{sample_high, samples_high}
use Rattle.scans.proofs.Rows.{any-fours}

-- `v >> d != 0`
above-div : (v d : ℕ) → not (eqb (v / 2 ^ d) 0) ≡ ltb (2 ^ d - 1) v
above-div v d = go (dec_lt v (2 ^ d))
  where
    go : Dec (v < 2 ^ d) → not (eqb (v / 2 ^ d) 0) ≡ ltb (2 ^ d - 1) v
    go (yes p) = rw (eq-eqb (v / 2 ^ d) 0 (div-eq_of_lt p), le-ltb (2 ^ d - 1) v (omega arith)) refl
    go (no p) =
        let q : 1 ≤ v / 2 ^ d = (le-div_iff_mul-le (pow_pos d)).1 (omega (arith, one-mul (2 ^ d))) in
        rw (ne_eqb (v / 2 ^ d) 0 (λ z. omega arith), lt-ltb (2 ^ d - 1) v (omega (arith, pow_pos d))) refl

or-four : (n a b c d : ℕ)
    → ltb (2 ^ n - 1) (bit_or (bit_or (bit_or a b) c) d) ≡ (((ltb (2 ^ n - 1) a || ltb (2 ^ n - 1) b) || ltb (2 ^ n - 1) c) || ltb (2 ^ n - 1) d)
or-four n a b c d =
    or_above n (bit_or (bit_or a b) c) d
    ∙ ap (λ (t : Bool). t || ltb (2 ^ n - 1) d) (or_above n (bit_or a b) c ∙ ap (λ (t : Bool). t || ltb (2 ^ n - 1) c) (or_above n a b))

module _ (s : List ℕ) (stride w d : ℕ) where
  -- the line at y
  abbrev line : ℕ → Bool
  line y = any_below w (λ x. sample_high s stride (2 ^ d - 1) x y)

  abbrev at : ℕ → ℕ → Bool
  at p x = ltb (2 ^ d - 1) (get_or s (p + x) 0)

  line-at : (y p : ℕ) → p ≡ y * stride → any_below w (at p) ≡ line y
  line-at y p e = ap (λ (q : ℕ). any_below w (at q)) e

  quad-high : (y a : ℕ) → a ≡ y * stride → ltb (2 ^ d - 1) (or_quad s stride w a) ≡ (((line y || line (y + 1)) || line (y + 2)) || line (y + 3))
  unfolding four_lines
  quad-high y a e =
      above-or_below d w (four_lines s a b c f)
      ∙ any_same w _ _ (λ x _. or-four d (get_or s (a + x) 0) (get_or s (b + x) 0) (get_or s (c + x) 0) (get_or s (f + x) 0))
      ∙ any-or w (λ x. (at a x || at b x) || at c x) (at f)
      ∙ ap₂ ◌||◌ (any-or w (λ x. at a x || at b x) (at c) ∙ ap₂ ◌||◌ (any-or w (at a) (at b)
      ∙ ap₂ ◌||◌ (line-at y a e) (line-at (y + 1) b (omega (arith, add-mul y 1 stride))))
      (line-at (y + 2) c (omega (arith, add-mul y 2 stride))))
      (line-at (y + 3) f (omega (arith, add-mul y 3 stride)))
    where
      b : ℕ
      b = a + stride

      c : ℕ
      c = a + stride + stride

      f : ℕ
      f = a + stride + stride + stride

  -- from line 4 * first on
  fours-high : (first n : ℕ) → ltb (2 ^ d - 1) (or_samples s stride w first n) ≡ any_below (4 * n) (λ i. line (4 * first + i))
  fours-high first n =
      above-or_below d n (λ i. or_quad s stride w (4 * ((first + i) * stride)))
      ∙ any_same n _ (λ i. ((line (4 * first + 4 * i) || line (4 * first + (4 * i + 1))) || line (4 * first + (4 * i + 2))) || line (4 * first + (4 * i + 3)))
      (λ i _. quad-high (4 * first + 4 * i) _ (place i)
      ∙ (λ j. ((line (4 * first + 4 * i) || line (move i 1 j)) || line (move i 2 j)) || line (move i 3 j)))
      ∙ sym (any-fours n (λ i. line (4 * first + i)))
    where
      place : (i : ℕ) → 4 * ((first + i) * stride) ≡ (4 * first + 4 * i) * stride
      place i = sym (mul_assoc 4 (first + i) stride) ∙ ap (λ (y : ℕ). y * stride) (mul-add 4 first i)

      move : (i q : ℕ) → 4 * first + 4 * i + q ≡ 4 * first + (4 * i + q)
      move i q = omega arith

  pub samples-high : (sb pass k r : ℕ) → r ≡ or_samples s stride w (k * sb - 2 * pass) ((k + 1) * sb - (k * sb - 2 * pass))
      → not (eqb (r / 2 ^ d) 0) ≡ samples_high s stride (2 ^ d - 1) w sb (8 * pass) k
  unfolding samples_high
  samples-high sb pass k r e =
      let f : 4 * (k * sb - 2 * pass) ≡ 4 * (k * sb) - 8 * pass = omega arith in
      let n : 4 * ((k + 1) * sb - (k * sb - 2 * pass)) ≡ 4 * ((k + 1) * sb) - (4 * (k * sb) - 8 * pass) = omega arith in
      above-div r d ∙ ap (ltb (2 ^ d - 1)) e ∙ fours-high (k * sb - 2 * pass) ((k + 1) * sb - (k * sb - 2 * pass))
      ∙ (λ j. any_below (n j) (λ i. line (f j + i)))
