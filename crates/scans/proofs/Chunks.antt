-- The bytes of a line of units in chunks of four: a chunk has those of one unit.
use mathlib.Core.List.{List, []}
use mathlib.Core.Path.{◌≡◌, ap, ◌∙◌}
use Prim.Native.Nat.{ℕ, zero, suc, ◌+◌, ◌-◌, ◌*◌, ◌/◌, ◌<◌, ◌≤◌}
use native.Mathlib.Omega.{arith}
use lib.ListN.{length, get_or, drop}
use Rattle.std.proofs.lemmas.List.{get_or-take, get_or-drop, length-take, length-drop}
use Rattle.std.specs.List.{slice_range}
use Rattle.std.specs.Simd.{first_chunks}

chunk-byte : (k x j : ℕ) (s : List ℕ) → x < k → j < 4 → get_or (get_or (first_chunks 4 k s) x []) j 0 ≡ get_or s (4 * x + j) 0
chunk-byte zero x j s p q = absurd (omega arith)
chunk-byte (suc k) zero j s p q = get_or-take 4 s j 0 q ∙ ap (λ (i : ℕ). get_or s i 0) (omega arith)
chunk-byte (suc k) (suc x) j s p q =
    chunk-byte k x j (drop 4 s) (omega arith) q ∙ get_or-drop 4 s (4 * x + j) 0 ∙ ap (λ (i : ℕ). get_or s i 0) (omega arith)

module _ (ls : List ℕ) (at w : ℕ) (h : at + 4 * w ≤ length ls) where
  abbrev line : List ℕ
  line = slice_range ls at (at + 4 * w)

  pub line-length : length line ≡ 4 * w
  line-length = omega (arith, length-take (at + 4 * w - at) (drop at ls), length-drop at ls)

  pub unit-byte : (x j : ℕ) → x < w → j < 4 → get_or (get_or (first_chunks 4 (length line / 4) line) x []) j 0 ≡ get_or ls (at + 4 * x + j) 0
  unit-byte x j p q =
      chunk-byte (length line / 4) x j line (omega (arith, line-length)) q
      ∙ get_or-take (at + 4 * w - at) (drop at ls) (4 * x + j) 0 (omega arith)
      ∙ get_or-drop at ls (4 * x + j) 0
      ∙ ap (λ (i : ℕ). get_or ls i 0) (omega arith)
