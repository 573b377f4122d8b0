-- Byte j of all the words or-ed together is above 63 exactly when byte j of some unit is: a byte of the or is the or of the bytes, and 63 is 2 ^ 6 - 1.
use mathlib.Core.Path.{◌≡◌, ap, ap₂, ◌∙◌}
use mathlib.Core.Bool.{Bool, ◌||◌}
use mathlib.Core.List.{List}
use Prim.Native.Nat.{ℕ, zero, suc, ◌+◌, ◌-◌, ◌*◌, ◌/◌, ◌%◌, ◌^◌, ◌<◌, min}
use native.Mathlib.Nat.{add-zero}
use native.Mathlib.Omega.{arith}
use lib.Dec.{ltb}
use lib.ListN.{get_or}
use Rattle.loops.specs.Any.{any_below}
use Rattle.loops.proofs.Anys.{any_same}
use Rattle.bits.proofs.Words.{above-or_below, field-or_below, or_same}
use Rattle.plane.specs.Line.{Pass, pass_no}
use Rattle.units.specs.Memory.{level_at}
use Rattle.units.specs.Units.{chroma_unit, chroma_units}
use Rattle.scans.specs.Or.{four_at, or_units, or_levels}
use Rattle.scans.specs.Scan.{level_high, levels_high, chroma_levels_high}

module _ (ls : List ℕ) (h : (i : ℕ) → get_or ls i 0 < 256) where
  byte_at : (at j : ℕ) → j < 4 → four_at ls at / 2 ^ (8 * j) % 2 ^ 8 ≡ get_or ls (at + j) 0
  unfolding four_at
  byte_at at zero l = omega (arith, h at, h (at + 1), h (at + 2), h (at + 3), ap (λ (k : ℕ). get_or ls k 0) (add-zero at))
  byte_at at (suc zero) l = omega (arith, h at, h (at + 1), h (at + 2), h (at + 3))
  byte_at at (suc (suc zero)) l = omega (arith, h at, h (at + 1), h (at + 2), h (at + 3))
  byte_at at (suc (suc (suc zero))) l = omega (arith, h at, h (at + 1), h (at + 2), h (at + 3))
  byte_at at (suc (suc (suc (suc j)))) l = absurd (omega arith)

  module _ (level-stride w j : ℕ) (l : j < 4) where
    byte-level : (x y : ℕ) → four_at ls (4 * (y * level-stride) + 4 * x) / 2 ^ (8 * j) % 2 ^ 8 ≡ get_or ls (level_at level-stride x y j) 0
    unfolding level_at
    byte-level x y = byte_at (4 * (y * level-stride) + 4 * x) j l ∙ ap (λ (k : ℕ). get_or ls k 0) (omega arith)

    line-high : (y : ℕ) → ltb 63 (or_units ls w (4 * (y * level-stride)) / 2 ^ (8 * j) % 2 ^ 8) ≡ any_below w (λ x. level_high ls level-stride j x y)
    line-high y =
        ap (ltb 63)
        (field-or_below (8 * j) 8 w (λ x. four_at ls (4 * (y * level-stride) + 4 * x))
        ∙ or_same w _ (λ x. get_or ls (level_at level-stride x y j) 0) (λ x _. byte-level x y))
        ∙ above-or_below 6 w (λ x. get_or ls (level_at level-stride x y j) 0)

    pub levels-high : (height sb above k r : ℕ) → r ≡ or_levels ls level-stride w (k * sb - above) (min height ((k + 1) * sb) - (k * sb - above))
        → ltb 63 (r / 2 ^ (8 * j) % 2 ^ 8) ≡ levels_high ls level-stride j w height sb above k
    unfolding levels_high
    levels-high height sb above k r e =
        ap (λ (v : ℕ). ltb 63 (v / 2 ^ (8 * j) % 2 ^ 8)) e
        ∙ ap (ltb 63) (field-or_below (8 * j) 8 (min height ((k + 1) * sb) - (k * sb - above)) (λ i. or_units ls w (4 * ((k * sb - above + i) * level-stride))))
        ∙ above-or_below 6 (min height ((k + 1) * sb) - (k * sb - above)) (λ i. or_units ls w (4 * ((k * sb - above + i) * level-stride)) / 2 ^ (8 * j) % 2 ^ 8)
        ∙ any_same (min height ((k + 1) * sb) - (k * sb - above)) _ _ (λ i _. line-high (k * sb - above + i))

  pub chroma-levels : (level-stride w4 h4 ss-hor ss-ver sb4 k above width height sb r : ℕ) (d : Pass) (u v : Bool) → above ≡ pass_no d → width ≡ chroma_units ss-hor w4
      → height ≡ chroma_units ss-ver h4 → sb ≡ chroma_unit ss-ver sb4 → r ≡ or_levels ls level-stride width (k * sb - above) (min height ((k + 1) * sb) - (k * sb - above))
      → u ≡ ltb 63 (r / 2 ^ (8 * 2) % 2 ^ 8) → v ≡ ltb 63 (r / 2 ^ (8 * 3) % 2 ^ 8) → (u || v) ≡ chroma_levels_high ls level-stride w4 h4 ss-hor ss-ver sb4 d k
  chroma-levels level-stride w4 h4 ss-hor ss-ver sb4 k above width height sb r d u v ea ew eh es e eu ev =
      ap₂ ◌||◌ (eu ∙ levels-high level-stride width 2 (omega arith) height sb above k r e) (ev ∙ levels-high level-stride width 3 (omega arith) height sb above k r e)
      ∙ (λ i. levels_high ls level-stride 2 (ew i) (eh i) (es i) (ea i) k || levels_high ls level-stride 3 (ew i) (eh i) (es i) (ea i) k)
