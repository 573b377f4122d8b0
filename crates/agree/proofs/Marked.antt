-- The bits that a block adds at one of its units are those of that unit's edge: no two edges share a bit, of one pass or of both.
use mathlib.Core.Path.{◌≡◌, sym, ap, ap₂, ◌∙◌}
use mathlib.Core.Bool.{Bool, true, false, cond, ◌&&◌, ◌||◌, or-false, false≢true}
use mathlib.Core.List.{List}
use Prim.Native.Nat.{ℕ, zero, suc, ◌+◌, ◌*◌, ◌≤◌, ◌<◌}
use native.Mathlib.Omega.{arith}
use lib.Dec.{eqb}
use Rattle.loops.specs.Any.{Below}
use Rattle.loops.specs.Exactly.{Reflects}
use Rattle.loops.proofs.Reflected.{reflects-eqb, reflects-flag, reflects-and, reflects-any, reflects-same}
use Rattle.bits.specs.Mark.{is_set}
use Rattle.standard.specs.Sizes.{Tx_Wide, Tx_High}
use Rattle.units.specs.Masks.{half_units, luma_bit, chroma_bit}
use Rattle.units.specs.Sizes.{luma_class, chroma_class}
use Rattle.units.proofs.Places.{half_in, luma-bit-inj, chroma-bit-inj}
use Rattle.mask_edges.specs.Recording.{Block, Sweep, columns, rows, is_edge, class_at, edges, Recorded, chroma_bits}
use Rattle.mask_edges.proofs.BlockPasses.{chroma-low}
use Rattle.mask_edges.proofs.CellTables.{luma-low}

-- ---- no two edges share a bit

half-low : (ss : ℕ) → ss ≤ 1 → half_units ss ≤ 16
half-low zero h = omega arith
half-low (suc zero) h = omega arith
half-low (suc (suc s)) h = absurd (omega arith)

abbrev bits : Bool → ℕ → ℕ → ℕ → ℕ → ℕ → ℕ → ℕ
bits luma ss-hor ss-ver = cond luma luma_bit (chroma_bits ss-hor ss-ver)

abbrev count : Bool → ℕ
count luma = cond luma 3 2

module _ (ss-hor ss-ver : ℕ) (sh : ss-hor ≤ 1) (sv : ss-ver ≤ 1) where
  module _ (u u' k k' q q' : ℕ) (hu : u < 32) (hu' : u' < 32) where
    same-0 : (luma : Bool) → k < count luma → k' < count luma → q < 2 * half_units ss-ver → q' < 2 * half_units ss-ver
        → bits luma ss-hor ss-ver 0 u k q ≡ bits luma ss-hor ss-ver 0 u' k' q' → (u ≡ u') × (k ≡ k') × (q ≡ q')
    same-0 true hk hk' hq hq' e =
        let l = half-low ss-ver sv in
        let d = luma-bit-inj 0 0 u u' k k' q q' hu hu' hk hk' (omega arith) (omega arith) e in (d.1, d.2, d.3)
    same-0 false hk hk' hq hq' e = let d = chroma-bit-inj ss-ver 0 0 u u' k k' q q' sv hu hu' hk hk' hq hq' e in (d.1, d.2, d.3)

    same-1 : (luma : Bool) → k < count luma → k' < count luma → q < 2 * half_units ss-hor → q' < 2 * half_units ss-hor
        → bits luma ss-hor ss-ver 1 u k q ≡ bits luma ss-hor ss-ver 1 u' k' q' → (u ≡ u') × (k ≡ k') × (q ≡ q')
    same-1 true hk hk' hq hq' e =
        let l = half-low ss-hor sh in
        let d = luma-bit-inj 1 1 u u' k k' q q' hu hu' hk hk' (omega arith) (omega arith) e in (d.1, d.2, d.3)
    same-1 false hk hk' hq hq' e = let d = chroma-bit-inj ss-hor 1 1 u u' k k' q q' sh hu hu' hk hk' hq hq' e in (d.1, d.2, d.3)

    apart : (luma : Bool) → k < count luma → k' < count luma → q < 2 * half_units ss-ver → q' < 2 * half_units ss-hor → bits luma ss-hor ss-ver 0 u k q ≡ bits luma ss-hor ss-ver 1 u' k' q' → ⊥
    unfolding chroma_bit
    apart true hk hk' hq hq' e =
        let l = half-low ss-ver sv in
        let m = half-low ss-hor sh in
        let d = luma-bit-inj 0 1 u u' k k' q q' hu hu' hk hk' (omega arith) (omega arith) e in omega (arith, d.0)
    apart false hk hk' hq hq' e = omega (arith, half_in q ss-ver sv hq, half_in q' ss-hor sh hq')

-- ---- a sweep's bits

module _ (S : Sweep) (bit : ℕ → ℕ → ℕ → ℕ) where
  abbrev Edge : ℕ → ℕ → ℕ → Type 0
  Edge e u v = (is_edge S u v ≡ true) × (bit (S.unit + u) (class_at S u v) (S.place + v) ≡ e)

module _ (S : Sweep) (bit : ℕ → ℕ → ℕ → ℕ) where
  told : (e : ℕ) → Reflects (edges S bit e) (Below S.across (λ u. Below S.along (Edge S bit e u)))
  unfolding edges
  told e =
      reflects-any S.across _ _
      (λ u _. reflects-any S.along _ _
      (λ v _. reflects-and (reflects-flag (is_edge S u v)) (reflects-eqb (bit (S.unit + u) (class_at S u v) (S.place + v)) e)))

  -- a bit of one unit
  pub one_unit : (u v k : ℕ) → u < S.across → v < S.along
      → ((u' v' : ℕ) → u' < S.across → v' < S.along → bit (S.unit + u') (class_at S u' v') (S.place + v') ≡ bit (S.unit + u) k (S.place + v)
      → (u' ≡ u) × (class_at S u' v' ≡ k) × (v' ≡ v))
      → edges S bit (bit (S.unit + u) k (S.place + v)) ≡ (is_edge S u v && eqb (class_at S u v) k)
  one_unit u v k hu hv inj =
      reflects-same (told (bit (S.unit + u) k (S.place + v))) (reflects-and (reflects-flag (is_edge S u v)) (reflects-eqb (class_at S u v) k))
      (λ q. let d = inj q.0 q.2.0 q.1 q.2.1 q.2.2.1 in
      (ap₂ (λ (a b : ℕ). is_edge S a b) (sym d.0) (sym d.2) ∙ q.2.2.0, ap₂ (λ (a b : ℕ). class_at S a b) (sym d.0) (sym d.2) ∙ d.1))
      (λ q. (u, hu, (v, hv, (q.0, ap (λ (c : ℕ). bit (S.unit + u) c (S.place + v)) q.1))))

  -- a bit of none
  pub no-unit : (e : ℕ) → ((u v : ℕ) → u < S.across → v < S.along → bit (S.unit + u) (class_at S u v) (S.place + v) ≡ e → ⊥) → edges S bit e ≡ false
  no-unit e f =
      reflects-same {Q = ⊥} (told e) (record { yes = λ q. absurd (false≢true q); no = λ _ q. q })
      (λ q. f q.0 q.2.0 q.1 q.2.1 q.2.2.1) (λ q. absurd q)

-- ---- a block's

module _ (B : Block) (luma : Bool) (ss-hor ss-ver : ℕ) (sh : ss-hor ≤ 1) (sv : ss-ver ≤ 1) (fits-right : B.bx4 + B.w4 ≤ 2 * half_units ss-hor)
    (fits-down : B.by4 + B.h4 ≤ 2 * half_units ss-ver) (low : (n : ℕ) → B.class n < count luma) (before after : List ℕ)
    (R : Recorded B (bits luma ss-hor ss-ver) before after) (x y : ℕ) (hx : x < B.w4) (hy : y < B.h4) (k : ℕ) (hk : k < count luma) where
  abbrev column-bit : ℕ
  column-bit = bits luma ss-hor ss-ver 0 (B.bx4 + x) k (B.by4 + y)

  abbrev row-bit : ℕ
  row-bit = bits luma ss-hor ss-ver 1 (B.by4 + y) k (B.bx4 + x)

  pub in-columns : is_set after column-bit ≡ (is_set before column-bit || (is_edge (columns B) x y && eqb (class_at (columns B) x y) k))
  in-columns =
      let lh = half-low ss-hor sh in
      let lv = half-low ss-ver sv in
      let own = one_unit (columns B) (bits luma ss-hor ss-ver 0) x y k hx hy
      (λ u v p q e. let d = same-0 ss-hor ss-ver sh sv (B.bx4 + u) (B.bx4 + x) (class_at (columns B) u v) k (B.by4 + v) (B.by4 + y) (omega arith) (omega arith) luma
      (omega (arith, low (Tx_Wide (B.tx u v)))) hk (omega arith) (omega arith) e in (omega arith, d.1, omega arith)) in
      let other = no-unit (rows B) (bits luma ss-hor ss-ver 1) column-bit
      (λ u v p q e. apart ss-hor ss-ver sh sv (B.bx4 + x) (B.by4 + u) k (class_at (rows B) u v) (B.by4 + y) (B.bx4 + v) (omega arith) (omega arith) luma hk
      (omega (arith, low (Tx_High (B.tx v u)))) (omega arith) (omega arith) (sym e)) in
      R.bits column-bit ∙ ap₂ (λ (a b : Bool). is_set before column-bit || (a || b)) own other ∙ ap (λ (b : Bool). is_set before column-bit || b) (or-false _)

  pub in_rows : is_set after row-bit ≡ (is_set before row-bit || (is_edge (rows B) y x && eqb (class_at (rows B) y x) k))
  in_rows =
      let lh = half-low ss-hor sh in
      let lv = half-low ss-ver sv in
      let own = one_unit (rows B) (bits luma ss-hor ss-ver 1) y x k hy hx
      (λ u v p q e. let d = same-1 ss-hor ss-ver sh sv (B.by4 + u) (B.by4 + y) (class_at (rows B) u v) k (B.bx4 + v) (B.bx4 + x) (omega arith) (omega arith) luma
      (omega (arith, low (Tx_High (B.tx v u)))) hk (omega arith) (omega arith) e in (omega arith, d.1, omega arith)) in
      let other = no-unit (columns B) (bits luma ss-hor ss-ver 0) row-bit
      (λ u v p q e. apart ss-hor ss-ver sh sv (B.bx4 + u) (B.by4 + y) (class_at (columns B) u v) k (B.by4 + v) (B.bx4 + x) (omega arith) (omega arith) luma
      (omega (arith, low (Tx_Wide (B.tx u v)))) hk (omega arith) (omega arith) e) in
      R.bits row-bit ∙ ap₂ (λ (a b : Bool). is_set before row-bit || (a || b)) other own

pub class_low : (luma : Bool) (n : ℕ) → cond luma (luma_class n) (chroma_class n) < count luma
class_low true = luma-low
class_low false = chroma-low
