-- The calls of the frame answer 0: numbers 2 to 8 and 10 to 12 by computing, 9 since no sample is above 122.
use mathlib.Core.Path.{◌≡◌, refl, sym}
use mathlib.Core.Bool.{Bool, true, false, cond, and-false}
use Prim.Native.Nat.{ℕ, zero, suc, ◌*◌, ◌%◌, ◌^◌, ◌≤◌, ◌<◌}
use native.Mathlib.Omega.{arith}
use lib.Dec.{ltb}
use lib.ListN.{length, get_or, replicate}
use borrow.Author.Tests.{le-ltb}
use Rattle.loops.specs.Any.{any_below}
use Rattle.loops.proofs.Anys.{any_false}
use Rattle.loops.proofs.Tables.{each_at}
use Rattle.bits.specs.Bit.{has_bit}
use Rattle.bits.specs.Mark.{is_set, mark, marks, Words}
use Rattle.bits.proofs.Marks.{words-marks}
use Rattle.units.specs.Masks.{luma_bit, chroma_bit}
use Rattle.units.specs.Memory.{level_at}
use Rattle.edges.specs.Edges.{edge, edge_bit}
use Rattle.scans.specs.Scan.{levels_high, samples_high}
use Rattle.gap.specs.Line.{line_broken, clash, clashes, prev, at_least}
use Rattle.gap.specs.Line as line
use Rattle.gap.specs.Numbers.{gap, outside, bad_half, half_bit, part}
use Rattle.checks.specs.Tests.{levels_bad, plane_bad, planes_bad, inside, given, marked, number}
use Rattle.checks.proofs.Chain.{marked-number}
use Rattle.example_frame.specs.Data.{call, bits, masks, levels, quarters, samples_of, lent}
use Rattle.example_frame.proofs.Starts.{start, start-tells}

-- ---- no sample is too high

cond-le : (b : Bool) (x y n : ℕ) → x ≤ n → y ≤ n → cond b x y ≤ n
cond-le true x y n p q = p
cond-le false x y n p q = q

quarters-le : (w h i : ℕ) → quarters w h i ≤ 122
unfolding quarters
quarters-le w h i =
    cond-le (ltb i (w * h)) _ _ 122 (cond-le (ltb (i % w) 4) 100 90 122 (omega arith) (omega arith))
    (cond-le (ltb (i % w) 4) 110 122 122 (omega arith) (omega arith))

start-le : (n i : ℕ) → start n i ≤ 122
start-le zero i = cond-le (ltb i 16384) _ _ 122 (quarters-le 128 64 i) (omega arith)
start-le (suc n) i = cond-le (ltb i 4096) _ _ 122 (quarters-le 64 32 i) (omega arith)

not-high : (n i : ℕ) → ltb 255 (get_or (samples_of n) i 0) ≡ false
not-high n i = le-ltb 255 (get_or (samples_of n) i 0) (rw ((start-tells n).at i) (omega (arith, start-le n i)))

none-high : (n stride width sb above k : ℕ) → samples_high (samples_of n) stride 255 width sb above k ≡ false
unfolding samples_high
none-high n stride width sb above k = any_false _ _ (λ y _. any_false width _ (λ x _. not-high n _))

planes-good : (r : Bool) (k : ℕ) → planes_bad (call r k) lent ≡ false
unfolding plane_bad
planes-good r k = rw ((start-tells 0).long, (start-tells 1).long, (start-tells 2).long, none-high 0, none-high 1, none-high 2, and-false (inside (call r k))) refl

-- ---- no number is given

quiet : (r : Bool) (k : ℕ) → k < 2 → marked (call r k) masks ≡ 0
unfolding any_below masks bits marks mark gap line_broken clash clashes prev line.marked at_least outside bad_half half_bit part edge edge_bit is_set has_bit luma_bit chroma_bit
quiet false = each_at 2 (λ k. marked (call false k) masks ≡ 0) (refl, (refl, tt))
quiet true = each_at 2 (λ k. marked (call true k) masks ≡ 0) (refl, (refl, tt))

levels-good : (r : Bool) (k : ℕ) → k < 2 → given (call r k) levels (length masks) ≡ 0
unfolding any_below masks bits marks mark levels levels_bad levels_high level_at edge_bit luma_bit chroma_bit
levels-good false = each_at 2 (λ k. given (call false k) levels (length masks) ≡ 0) (refl, (refl, tt))
levels-good true = each_at 2 (λ k. given (call true k) levels (length masks) ≡ 0) (refl, (refl, tt))

pub accepted : (r : Bool) (k : ℕ) → k < 2 → number (call r k) lent ≡ 0
accepted r k h = sym (marked-number (call r k) lent (levels-good r k h) (planes-good r k) (sym (quiet r k h)))

-- ---- the masks are words

no_words : Words (replicate 640 0)
unfolding Words
no_words i = low_zeros 640 i
  where
    low_zeros : (n i : ℕ) → get_or (replicate n 0) i 0 < 2 ^ 16
    low_zeros zero i = omega arith
    low_zeros (suc n) zero = omega arith
    low_zeros (suc n) (suc i) = low_zeros n i

pub words : Words masks
unfolding masks
words = words-marks (length bits) (λ n. get_or bits n 0) (replicate 640 0) no_words
