-- The bits of edges, of halves and of the words that the walk reads are the same bits: all are places in one record, and sums of them.
use mathlib.Core.Path.{◌≡◌, refl, sym, ap, ap₂, ◌∙◌}
use mathlib.Core.Bool.{Bool, true, false, ◌&&◌, cond}
use mathlib.Core.List.{List}
use mathlib.Core.Logic.{by_cases}
use Prim.Native.Nat.{ℕ, ◌+◌, ◌-◌, ◌*◌, ◌/◌, ◌%◌, ◌≤◌, ◌<◌}
use native.Mathlib.Decide.{dec_lt, ℕ_discrete}
use native.Mathlib.Omega.{arith}
use lib.Dec.{eqb, ltb}
use lib.ListN.{get_or}
use borrow.Author.Tests.{eq-eqb, ne_eqb, lt-ltb, le-ltb, ltb-true}
use Rattle.bits.specs.Bit.{has_bit}
use Rattle.bits.specs.Mark.{is_set}
use Rattle.bits.proofs.Bits.{has_bit-nil}
use Rattle.bits.proofs.Words.{none_from, half-low, half_high}
use Rattle.plane.specs.Line.{Pass, other, pass_no}
use Rattle.units.specs.Masks.{unit_words, two_halves, luma_word, chroma_word, luma_bit, chroma_bit, half_units}
use Rattle.edges.specs.Edges.{Grid, ss_of, units_of, side, half, record_at, word_in, bit_in, edge_bit, Proper}
use Rattle.edges.proofs.Bits.{ss-le, luma-ss}
use Rattle.gap.specs.Numbers.{half_bit, fits}
use Rattle.gap.specs.Track.{word_at, class_word}
use Rattle.loops.proofs.Bools.{both_true}
use Rattle.gap.proofs.Shapes.{Halves, halves}

module _ (G : Grid) (p : Proper G) where
  -- the halves along a pass
  pub along : (d : Pass) → Halves (half G d) (side G (other d))
  along d = halves (ss_of G (other d)) (ss-le G p (other d))

  -- ---- an edge is bit b of half j

  bit_in_lem : (d : Pass) (unit c place : ℕ) → bit_in G d unit c place ≡ 16 * word_in G d unit c (place / half G d) + place % half G d
  unfolding luma_bit chroma_bit
  bit_in_lem d unit c place = go G.luma (λ e. ap half_units (sym (luma-ss G p (other d) e)))
    where
      go : (b : Bool) → (b ≡ true → 16 ≡ half G d)
          → cond b (luma_bit (pass_no d) unit c place) (chroma_bit (ss_of G (other d)) (pass_no d) unit c place)
          ≡ 16 * cond b (luma_word (pass_no d) unit c (place / half G d)) (chroma_word (pass_no d) unit c (place / half G d)) + place % half G d
      go true s = (λ i. 16 * luma_word (pass_no d) unit c (place / s refl i) + place % s refl i)
      go false s = refl

  pub edge-bit : (d : Pass) (u c j b : ℕ) → b < half G d → edge_bit G d (u, j * half G d + b) c ≡ half_bit G d u c j b
  unfolding edge_bit half_bit
  edge-bit d u c j b l =
      let h = along d in
      ap (λ (r : ℕ). 10240 * record_at G d (u / side G d) r + bit_in G d (u % side G d) c ((j * half G d + b) % side G (other d))) (h.record_no j b l)
      ∙ ap (λ (x : ℕ). 10240 * record_at G d (u / side G d) (j / 2) + x)
      (bit_in_lem d (u % side G d) c ((j * half G d + b) % side G (other d))
      ∙ ap (λ (y : ℕ). 16 * word_in G d (u % side G d) c (y / half G d) + y % half G d) (h.place j b l)
      ∙ (λ i. 16 * word_in G d (u % side G d) c (h.half_no (j % 2) b l i) + h.bit (j % 2) b l i))

-- ---- the word of a half, as the walk reads it

module _ (ms : List ℕ) (small : (j : ℕ) → get_or ms j 0 < 65536) (halves : ℕ) (some : 0 < halves) (two : halves ≤ 2) where
  word-bit : (i q : ℕ) → q < 32 → has_bit (word_at ms halves i) q ≡ (ltb (q / 16) halves && is_set ms (16 * i + q))
  unfolding word_at is_set
  word-bit i q l = by_cases (dec_lt q 16) low high
    where
      hi : ℕ
      hi = cond (eqb halves 2) (get_or ms (i + 1) 0) 0

      low : q < 16 → has_bit (two_halves (get_or ms i 0) hi 16) q ≡ (ltb (q / 16) halves && is_set ms (16 * i + q))
      low p =
          let d : i ≡ (16 * i + q) / 16 = omega arith in
          let m : q ≡ (16 * i + q) % 16 = omega arith in
          rw (lt-ltb (q / 16) halves (omega arith))
          (half-low (get_or ms i 0) hi 16 q p ∙ (λ t. has_bit (get_or ms (d t) 0) (m t)))

      up : ¬ (q < 16) → Dec (halves ≡ 2) → has_bit hi (q - 16) ≡ (ltb (q / 16) halves && is_set ms (16 * i + q))
      up p (yes e) =
          let d : i + 1 ≡ (16 * i + q) / 16 = omega arith in
          let m : q - 16 ≡ (16 * i + q) % 16 = omega arith in
          rw (eq-eqb halves 2 e, lt-ltb (q / 16) halves (omega arith)) (λ t. has_bit (get_or ms (d t) 0) (m t))
      up p (no e) = rw (ne_eqb halves 2 e, le-ltb (q / 16) halves (omega arith)) (has_bit-nil (q - 16))

      high : ¬ (q < 16) → has_bit (two_halves (get_or ms i 0) hi 16) q ≡ (ltb (q / 16) halves && is_set ms (16 * i + q))
      high p =
          let e : q ≡ 16 + (q - 16) = omega arith in
          ap (has_bit (two_halves (get_or ms i 0) hi 16)) e
          ∙ half_high (get_or ms i 0) hi 16 (q - 16) (none_from (get_or ms i 0) 16 (q - 16) (small i))
          ∙ up p (ℕ_discrete halves 2)

  -- bit q of the word of class c at unit i
  pub class-bit : (luma : Bool) (at i c q : ℕ) → c < 3 → q < 32
      → has_bit (class_word ms luma halves at i c) q
      ≡ (ltb c (cond luma 3 2) && (ltb (q / 16) halves && is_set ms (16 * (at + unit_words luma * i + 2 * c) + q)))
  unfolding class_word
  class-bit true at i c q l h = rw (lt-ltb c 3 l) (word-bit (at + 6 * i + 2 * c) q h)
  class-bit false at i c q l h = go (ltb c 2)
    where
      go : (b : Bool) → has_bit (cond b (word_at ms halves (at + 4 * i + 2 * c)) 0) q
          ≡ (b && (ltb (q / 16) halves && is_set ms (16 * (at + 4 * i + 2 * c) + q)))
      go true = word-bit (at + 4 * i + 2 * c) q h
      go false = has_bit-nil q

-- ---- what fits

module _ (G : Grid) (d : Pass) (u j b : ℕ) where
  pub fits_in : b < half G d → u < units_of G d → j * half G d + b < units_of G (other d) → fits G d u j b ≡ true
  fits_in x y z =
      ap₂ ◌&&◌ (lt-ltb b (half G d) x) (ap₂ ◌&&◌ (lt-ltb u (units_of G d) y) (lt-ltb (j * half G d + b) (units_of G (other d)) z))

  pub fits_out : fits G d u j b ≡ true → (b < half G d) × (u < units_of G d) × (j * half G d + b < units_of G (other d))
  fits_out e =
      let x = both_true (ltb b (half G d)) (ltb u (units_of G d) && ltb (j * half G d + b) (units_of G (other d))) e in
      let y = both_true (ltb u (units_of G d)) (ltb (j * half G d + b) (units_of G (other d))) x.1 in
      (ltb-true b (half G d) x.0, ltb-true u (units_of G d) y.0, ltb-true (j * half G d + b) (units_of G (other d)) y.1)
