-- Where an edge's bit stands: in the word of its half, below the record's 640.
use mathlib.Core.Path.{◌≡◌, refl, sym, ap}
use mathlib.Core.Bool.{Bool, true, false}
use mathlib.Core.Logic.{by_cases}
use Prim.Native.Nat.{ℕ, ◌+◌, ◌-◌, ◌*◌, ◌/◌, ◌%◌, ◌≤◌, ◌<◌}
use native.Mathlib.Nat.{add-mul, one-mul, div-eq_of_lt, mod-eq_of_lt, div-eq_of_lt-le, mod-add-div'}
use native.Mathlib.Decide.{dec_lt}
use native.Mathlib.Omega.{arith}
use Rattle.plane.specs.Line.{Pass, columns, rows}
use Rattle.units.specs.Masks.{word_of}
use Rattle.mask_edges.specs.Folds.{classes, edge_bit}

-- the two halves of a place: 0 and 1
pub low_half : (half q : ℕ) → q < half → (q / half ≡ 0) × (q % half ≡ q)
low_half half q h = (div-eq_of_lt h, mod-eq_of_lt h)

pub high_half : (half q : ℕ) → half ≤ q → q < 2 * half → (q / half ≡ 1) × (q % half ≡ q - half)
high_half half q l h =
    let e : q / half ≡ 1 = div-eq_of_lt-le {k = 1} half (omega arith) (omega arith) in
    (e, omega (arith, mod-add-div' q half, ap (λ (k : ℕ). k * half) e))

module _ (d : Pass) (unit class : ℕ) where
  pub word-in : (luma : Bool) → unit < 32 → class < classes luma → word_of luma d unit class 0 < 639
  word-in = go d
    where
      go : (d : Pass) (luma : Bool) → unit < 32 → class < classes luma → word_of luma d unit class 0 < 639
      go columns true u c = omega arith
      go columns false u c = omega arith
      go rows true u c = omega arith
      go rows false u c = omega arith

  word-half : (luma : Bool) (h : ℕ) → word_of luma d unit class h ≡ word_of luma d unit class 0 + h
  word-half true h = omega arith
  word-half false h = omega arith

  -- two words to a class
  pub class-word : (luma : Bool) (h : ℕ) → word_of luma d unit class h ≡ word_of luma d unit 0 0 + h + 2 * class
  class-word true h = omega arith
  class-word false h = omega arith

  -- the bit of a place in either half
  pub bit_at : (luma : Bool) (half w q h : ℕ) → w ≡ word_of luma d unit 0 0 → h * half ≤ q → q < h * half + half
      → 16 * (w + h + 2 * class) + (q - h * half) ≡ edge_bit luma half d unit class q
  unfolding edge_bit
  bit_at luma half w q h e l g =
      let d : q / half ≡ h = div-eq_of_lt-le {k = h} half l (omega (arith, add-mul h 1 half, one-mul half)) in
      rw d (omega (arith, class-word luma h, e, mod-add-div' q half, ap (λ (k : ℕ). k * half) d))

  module _ (luma : Bool) (half w q : ℕ) (e : w ≡ word_of luma d unit class 0) where
    pub bit-low : q < half → 16 * w + q ≡ edge_bit luma half d unit class q
    unfolding edge_bit
    bit-low h = let k = low_half half q h in rw (k.0, k.1, e) refl

    pub bit_high : half ≤ q → q < 2 * half → 16 * (w + 1) + (q - half) ≡ edge_bit luma half d unit class q
    unfolding edge_bit
    bit_high l h = let k = high_half half q l h in rw (k.0, k.1) (omega (arith, word-half luma 1))

    pub bit_word : edge_bit luma half d unit class q ≡ 16 * (w + q / half) + q % half
    unfolding edge_bit
    bit_word = rw (word-half luma (q / half), e) refl

pub bit_in_lem : (luma : Bool) (half : ℕ) (d : Pass) (unit class q : ℕ) → unit < 32 → class < classes luma → half ≤ 16 → q < 2 * half
    → edge_bit luma half d unit class q / 16 < 640
bit_in_lem luma half d unit class q u c h l =
    let w = word-in d unit class luma u c in
    by_cases (dec_lt q half)
    (λ g. rw (sym (bit-low d unit class luma half _ q refl g)) (omega arith))
    (λ g. rw (sym (bit_high d unit class luma half _ q refl (omega arith) l)) (omega arith))
