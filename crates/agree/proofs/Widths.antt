-- The least of two classes is the standard's filter of the two sides: at each pair of powers of two, where both compute.
use mathlib.Core.Path.{◌≡◌}
use mathlib.Core.Bool.{Bool, true, false, cond}
use Prim.Native.Nat.{ℕ, ◌*◌, ◌^◌, ◌<◌, min}
use native.Mathlib.Omega.{arith}
use lib.Dec.{eqb}
use Rattle.loops.specs.Table.{Each}
use Rattle.loops.proofs.Tables.{each_at}
use Rattle.standard.specs.FilterSize.{filter_size, filter_len}
use Rattle.units.specs.Sizes.{log2, luma_class, chroma_class, Side}
use Rattle.walk.specs.Walk.{len_of, width_of}
use Rattle.agree.specs.Legal.{class_of}

-- of luma or chroma
abbrev class : Bool → ℕ → ℕ
class luma n = cond luma (luma_class n) (chroma_class n)

abbrev size : Bool → ℕ → ℕ → ℕ
size luma n m = min (cond luma 16 8) (min (4 * n) (4 * m))

abbrev Same : Bool → ℕ → ℕ → Type 0
Same luma n m =
    len_of luma (min (class luma n) (class luma m)) ≡ cond (eqb (size luma n m) 4) 4 (cond luma (size luma n m) 6)

abbrev Row : Bool → ℕ → Type 0
Row luma i = Each 5 (λ j. Same luma (2 ^ i) (2 ^ j))

at-powers : (luma : Bool) (i : ℕ) → i < 5 → Row luma i
unfolding log2
at-powers true = each_at 5 (Row true) (search arith)
at-powers false = each_at 5 (Row false) (search arith)

low : (n : ℕ) → n < 17 → log2 n < 5
unfolding log2
low = each_at 17 (λ n. log2 n < 5) (search arith)

same : (luma : Bool) (n m : ℕ) → Side n 16 → Side m 16 → Same luma n m
same luma n m p q =
    rw (p.power, q.power) at
    (each_at 5 (λ j. Same luma (2 ^ log2 n) (2 ^ j)) (at-powers luma (log2 n) (low n (omega (arith, p.at_most)))) (log2 m) (low m (omega (arith, q.at_most))))

pub width_same : (plane n m : ℕ) → Side n 16 → Side m 16
    → width_of plane (min (class_of plane n) (class_of plane m)) ≡ filter_len plane (filter_size plane (4 * n) (4 * m))
unfolding filter_size filter_len
width_same plane = same (eqb plane 0)
