-- Where two masks have the same bits of a row they have the same edges there, so its lines keep the gap rule in both or in neither: an edge's bits lie in the row's halves.
use mathlib.Core.Path.{◌≡◌, refl, sym, ap, ◌∙◌, subst}
use mathlib.Core.Bool.{Bool, true, false, cond}
use mathlib.Core.List.{List}
use mathlib.Core.Option.{some, none}
use Prim.Native.Nat.{ℕ, zero, suc, ◌+◌, ◌*◌, ◌/◌, ◌%◌, ◌≤◌, ◌<◌}
use native.Mathlib.Nat.{add-mul}
use native.Mathlib.Omega.{arith}
use lib.Dec.{ltb}
use borrow.Author.Tests.{ltb-true}
use Rattle.loops.proofs.Bools.{both_true}
use Rattle.bits.specs.Mark.{is_set}
use Rattle.plane.specs.Gap.{GapRule}
use Rattle.plane.specs.Line.{Pass, columns, rows, Piece, other}
use Rattle.plane.specs.Plane.{down}
use Rattle.units.specs.Frame.{records}
use Rattle.units.specs.Masks.{half_units}
use Rattle.units.specs.Units.{chroma_unit, chroma_units}
use Rattle.units.proofs.Places.{by-ss}
use Rattle.edges.specs.Edges.{Grid, Proper, units_of, half, classes, edge_bit, in_frame, highest, edge}
use Rattle.gap.specs.Numbers.{sb_units, stored_units, part, half_bit}
use Rattle.gap.specs.Promises.{Nowhere, Keeps, Looks, Across, Along}
use Rattle.gap.proofs.Shapes.{units-stored}
use Rattle.gap.proofs.Masks as masks
use Rattle.gap.proofs.NumbersMean.{promises}
use Rattle.frames.proofs.GapKept.{Size, by_size}
use Rattle.own_row.specs.Own.{SameBits}

highest-same : (n : ℕ) (f g : ℕ → Bool) → ((c : ℕ) → c < n → f c ≡ g c) → highest n f ≡ highest n g
highest-same zero f g h = refl
highest-same (suc n) f g h = λ q. cond (h n (omega arith) q) (some n) (highest-same n f g (λ c l. h c (omega arith)) q)

-- the halves of a line of the row are the row's
own-half : (k v sb4 ss : ℕ) → Size sb4 → ss ≤ 1 → k * chroma_unit ss sb4 ≤ v → v < (k + 1) * chroma_unit ss sb4
    → (k * (sb4 / 16) ≤ v / half_units ss) × (v / half_units ss < (k + 1) * (sb4 / 16))
own-half k v =
    by_size
    (λ sb4 ss. k * chroma_unit ss sb4 ≤ v → v < (k + 1) * chroma_unit ss sb4 → (k * (sb4 / 16) ≤ v / half_units ss) × (v / half_units ss < (k + 1) * (sb4 / 16)))
    (λ a b. omega arith) (λ a b. omega arith) (λ a b. omega arith) (λ a b. omega arith)

pub stored-half : (w4 v ss : ℕ) → ss ≤ 1 → v < chroma_units ss w4 → v / half_units ss < records w4 * 2
stored-half w4 v ss h = by-ss (λ ss. v < chroma_units ss w4 → v / half_units ss < records w4 * 2) (λ l. omega arith) (λ l. omega arith) ss h

module _ (G : Grid) (proper : Proper G) (sb4 k : ℕ) (size : Size sb4) where
  -- a unit of the row
  abbrev InRow : Pass → Piece → Type 0
  InRow d p = (k * sb_units G sb4 ≤ down d p) × (down d p < (k + 1) * sb_units G sb4)

  across : (d : Pass) (p : Piece) → p.0 < units_of G d → InRow d p → Across G d sb4 k p.0
  across columns p x r = omega (arith, units-stored G.ss-hor G.w4 proper.ss-hor-le)
  across rows p x r = r

  along : (d : Pass) (p : Piece) → p.1 < units_of G (other d) → InRow d p → Along G d sb4 k (p.1 / half G d)
  along columns p y r = own-half k p.1 sb4 G.ss-ver size proper.ss-ver-le r.0 r.1
  along rows p y r = stored-half G.w4 p.1 G.ss-hor proper.ss-hor-le y

  module _ (d : Pass) (ms ms' : List ℕ) (s : SameBits G d sb4 k ms ms') where
    bit-same : (p : Piece) (c : ℕ) → p.0 < units_of G d → p.1 < units_of G (other d) → InRow d p → c < classes G
        → is_set ms (edge_bit G d p c) ≡ is_set ms' (edge_bit G d p c)
    bit-same p c x y r h =
        let z = masks.along G proper d in
        let e : edge_bit G d p c ≡ half_bit G d p.0 c (p.1 / half G d) (p.1 % half G d) =
        ap (λ (v : ℕ). edge_bit G d (p.0, v) c) (sym (z.again p.1)) ∙ promises.bits G proper d p.0 c (p.1 / half G d) (p.1 % half G d) (z.bit-of p.1) in
        rw e (s.same p.0 c (p.1 / half G d) (p.1 % half G d) (across d p x r) (along d p y r) h (omega (arith, z.most, z.bit-of p.1)))

    pub edge_same : (p : Piece) → InRow d p → edge G ms d p ≡ edge G ms' d p
    unfolding edge
    edge_same p r = go (in_frame G d p) refl
      where
        go : (b : Bool) → in_frame G d p ≡ b
            → cond b (highest (classes G) (λ c. is_set ms (edge_bit G d p c))) none ≡ cond b (highest (classes G) (λ c. is_set ms' (edge_bit G d p c))) none
        go true e =
            let t = both_true (ltb p.0 (units_of G d)) (ltb p.1 (units_of G (other d))) e in
            highest-same (classes G) _ _ (λ c h. bit-same p c (ltb-true _ _ t.0) (ltb-true _ _ t.1) r h)
        go false e = refl

  pub keeps_same : (d : Pass) (ms ms' : List ℕ) → SameBits G d sb4 k ms ms' → (v : ℕ) → Looks G d sb4 k v → Keeps G ms d sb4 k v → Keeps G ms' d sb4 k v
  unfolding part
  keeps_same columns ms ms' s v l = subst (λ line. GapRule line Nowhere (stored_units G)) (λ q u. edge_same columns ms ms' s (u, v) (l.0, l.1) q)
  keeps_same rows ms ms' s v l = subst (λ line. GapRule line Nowhere (sb_units G sb4)) (λ q u. line_same u (ltb u (sb_units G sb4)) refl q)
    where
      line_same : (u : ℕ) (b : Bool) → ltb u (sb_units G sb4) ≡ b
          → cond b (edge G ms rows (k * sb_units G sb4 + u, v)) none ≡ cond b (edge G ms' rows (k * sb_units G sb4 + u, v)) none
      line_same u true e = edge_same rows ms ms' s (k * sb_units G sb4 + u, v) (omega arith, omega (arith, ltb-true u _ e, add-mul k 1 (sb_units G sb4)))
      line_same u false e = refl
