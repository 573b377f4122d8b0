-- The bits of edges: classes lie 32 bits apart, the bits of units in the frame lie in its records, and no two edges of a frame share one;
-- a bit is a record and a bit in it, and both are told by the laws of `units`, in luma and in chroma and in each pass.
use mathlib.Core.Path.{◌≡◌, refl, sym, ap, ap₂, ◌∙◌}
use mathlib.Core.Bool.{Bool, true, false, cond, false≢true}
use mathlib.Core.Logic.{by_cases}
use mathlib.Core.Option.{some, none}
use Prim.Native.Nat.{ℕ, zero, suc, ◌+◌, ◌*◌, ◌/◌, ◌%◌, ◌^◌, ◌≤◌, ◌<◌}
use native.Mathlib.Decide.{ℕ_discrete}
use native.Mathlib.Nat.{div-add-mod', mul_comm}
use native.Mathlib.Omega.{arith}
use lib.Dec.{eqb}
use borrow.Author.Tests.{eq-eqb, ne_eqb}
use Rattle.loops.proofs.Products.{row_in, row-inj}
use Rattle.loops.proofs.Tables.{each_at}
use Rattle.plane.specs.Line.{Pass, columns, rows, Piece, other, pass_no}
use Rattle.plane.specs.Plane.{right, down}
use Rattle.units.specs.Frame.{records, frame_records}
use Rattle.units.specs.Masks.{half_units, luma_bit, chroma_bit}
use Rattle.units.specs.Units.{chroma_units}
use Rattle.units.proofs.Places.{by-ss, side-le, pass-lt, luma-bit-inj, chroma-bit-inj, luma-bit-in, chroma-bit-in}
use Rattle.edges.specs.Edges.{Grid, Proper, ss_of, units_of, side, record_at, classes, bit_in, edge_bit, highest}

-- ---- a bit in its record, of luma or of chroma

class-in : (b : Bool) (ss pass u c q : ℕ)
    → cond b (luma_bit pass u c q) (chroma_bit ss pass u c q) ≡ cond b (luma_bit pass u 0 q) (chroma_bit ss pass u 0 q) + 32 * c
unfolding luma_bit chroma_bit
class-in true ss pass u c q = omega arith
class-in false ss pass u c q = omega arith

-- classes lie 32 bits apart
pub class-apart : (G : Grid) (d : Pass) (p : Piece) (c : ℕ) → edge_bit G d p c ≡ edge_bit G d p 0 + 32 * c
unfolding edge_bit
class-apart G d p c =
    omega (arith, class-in G.luma (ss_of G (other d)) (pass_no d) (p.0 % side G d) c (p.1 % side G (other d)))

-- the units of a record of a plane
pub two-halves : (ss : ℕ) → ss ≤ 1 → 32 / 2 ^ ss ≤ 2 * half_units ss
two-halves = by-ss (λ ss. 32 / 2 ^ ss ≤ 2 * half_units ss) (omega arith) (omega arith)

pub side-in : (ss u : ℕ) → ss ≤ 1 → u % (32 / 2 ^ ss) < 32 / 2 ^ ss
side-in ss u = by-ss (λ s. u % (32 / 2 ^ s) < 32 / 2 ^ s) (omega arith) (omega arith) ss

records-in : (ss n u : ℕ) → ss ≤ 1 → u < chroma_units ss n → u / (32 / 2 ^ ss) < records n
records-in ss n u h = each_at 2 (λ s. u < chroma_units s n → u / (32 / 2 ^ s) < records n) (λ l. omega arith, (λ l. omega arith, tt)) ss (omega arith)

module _ (G : Grid) (P : Proper G) where
  pub ss-le : (d : Pass) → ss_of G d ≤ 1
  ss-le columns = P.ss-hor-le
  ss-le rows = P.ss-ver-le

  pub luma-ss : (d : Pass) → G.luma ≡ true → ss_of G d ≡ 0
  luma-ss columns = P.luma-x
  luma-ss rows = P.luma-y

  -- the units of a piece in its record
  unit-in : (d : Pass) (u : ℕ) → u % side G d < 32
  unit-in d u = omega (arith, side-in (ss_of G d) u (ss-le d), side-le (ss_of G d) (ss-le d))

  place_in : (d : Pass) (u : ℕ) → u % side G (other d) < 2 * half_units (ss_of G (other d))
  place_in d u = omega (arith, side-in (ss_of G (other d)) u (ss-le (other d)), two-halves (ss_of G (other d)) (ss-le (other d)))

  -- ---- bits of the frame

  record-right : (d : Pass) (p : Piece) → p.0 < units_of G d → p.1 < units_of G (other d)
      → right d (p.0 / side G d, p.1 / side G (other d)) < records G.w4
  record-right columns p x y = records-in G.ss-hor G.w4 p.0 P.ss-hor-le x
  record-right rows p x y = records-in G.ss-hor G.w4 p.1 P.ss-hor-le y

  record-down : (d : Pass) (p : Piece) → p.0 < units_of G d → p.1 < units_of G (other d)
      → down d (p.0 / side G d, p.1 / side G (other d)) < records G.h4
  record-down columns p x y = records-in G.ss-ver G.h4 p.1 P.ss-ver-le y
  record-down rows p x y = records-in G.ss-ver G.h4 p.0 P.ss-ver-le x

  record-in : (d : Pass) (p : Piece) → p.0 < units_of G d → p.1 < units_of G (other d)
      → record_at G d (p.0 / side G d) (p.1 / side G (other d)) < frame_records G.w4 G.h4
  record-in d p x y =
      omega (
        arith,
        row_in (down d (p.0 / side G d, p.1 / side G (other d))) (records G.h4) (records G.w4) (record-down d p x y),
        record-right d p x y,
        mul_comm (records G.w4) (records G.h4),
      )

  -- one class more has room in a luma record
  bits_in : (d : Pass) (u c q : ℕ) → u < 32 → c < cond G.luma 4 2 → q < 2 * half_units (ss_of G (other d)) → bit_in G d u c q < 10240
  unfolding luma_bit
  bits_in d u c q hu hc hq = go G.luma refl hc
    where
      go : (b : Bool) → G.luma ≡ b → c < cond b 4 2
          → cond b (luma_bit (pass_no d) u c q) (chroma_bit (ss_of G (other d)) (pass_no d) u c q) < 10240
      go true e h =
          let z : q < 32 = rw (luma-ss (other d) e) at hq in omega (arith, pass-lt d)
      go false e h = (chroma-bit-in (ss_of G (other d)) (pass_no d) u c q (ss-le (other d)) (pass-lt d) hu h hq).1

  pub edge-bit-in : (d : Pass) (p : Piece) (c : ℕ) → p.0 < units_of G d → p.1 < units_of G (other d) → c < cond G.luma 4 2
      → edge_bit G d p c < 10240 * frame_records G.w4 G.h4
  unfolding edge_bit
  edge-bit-in d p c x y h =
      omega (arith, record-in d p x y, bits_in d (p.0 % side G d) c (p.1 % side G (other d)) (unit-in d p.0) h (place_in d p.1))

  classes-room : (c : ℕ) → c < classes G → c < cond G.luma 4 2
  classes-room c h = go G.luma h
    where
      go : (b : Bool) → c < cond b 3 2 → c < cond b 4 2
      go true l = omega arith
      go false l = l

  bits-inj : (d : Pass) (u u' c c' q q' : ℕ) → u < 32 → u' < 32 → c < classes G → c' < classes G
      → q < 2 * half_units (ss_of G (other d)) → q' < 2 * half_units (ss_of G (other d)) → bit_in G d u c q ≡ bit_in G d u' c' q'
      → (u ≡ u') × (c ≡ c') × (q ≡ q')
  bits-inj d u u' c c' q q' hu hu' hc hc' hq hq' = go G.luma refl hc hc'
    where
      go : (b : Bool) → G.luma ≡ b → c < cond b 3 2 → c' < cond b 3 2
          → cond b (luma_bit (pass_no d) u c q) (chroma_bit (ss_of G (other d)) (pass_no d) u c q)
          ≡ cond b (luma_bit (pass_no d) u' c' q') (chroma_bit (ss_of G (other d)) (pass_no d) u' c' q')
          → (u ≡ u') × (c ≡ c') × (q ≡ q')
      go true e h h' z =
          let l : q < 32 = rw (luma-ss (other d) e) at hq in
          let l' : q' < 32 = rw (luma-ss (other d) e) at hq' in
          let i = luma-bit-inj (pass_no d) (pass_no d) u u' c c' q q' hu hu' h h' l l' z in
          (i.1, i.2, i.3)
      go false e h h' z =
          let i = chroma-bit-inj (ss_of G (other d)) (pass_no d) (pass_no d) u u' c c' q q' (ss-le (other d)) hu hu' h h' hq hq' z in
          (i.1, i.2, i.3)

  -- a record's numbers across and along
  record-inj : (d : Pass) (a a' l l' : ℕ) → right d (a, l) < records G.w4 → right d (a', l') < records G.w4
      → record_at G d a l ≡ record_at G d a' l' → (a ≡ a') × (l ≡ l')
  record-inj columns a a' l l' x y e = let i = row-inj l l' a a' (records G.w4) x y e in (i.1, i.0)
  record-inj rows a a' l l' x y e = row-inj a a' l l' (records G.w4) x y e

  again : (d : Pass) (u v : ℕ) → u / side G d ≡ v / side G d → u % side G d ≡ v % side G d → u ≡ v
  again d u v e f = sym (div-add-mod' u (side G d)) ∙ ap₂ (λ (a b : ℕ). a * side G d + b) e f ∙ div-add-mod' v (side G d)

  -- no two edges share a bit
  pub edge-bit-inj : (d : Pass) (p q : Piece) (c k : ℕ) → p.0 < units_of G d → p.1 < units_of G (other d) → q.0 < units_of G d
      → q.1 < units_of G (other d) → c < classes G → k < classes G → edge_bit G d p c ≡ edge_bit G d q k
      → (p.0 ≡ q.0) × (p.1 ≡ q.1) × (c ≡ k)
  unfolding edge_bit
  edge-bit-inj d p q c k px py qx qy hc hk e =
      let a = bits_in d (p.0 % side G d) c (p.1 % side G (other d)) (unit-in d p.0) (classes-room c hc) (place_in d p.1) in
      let b = bits_in d (q.0 % side G d) k (q.1 % side G (other d)) (unit-in d q.0) (classes-room k hk) (place_in d q.1) in
      let r : record_at G d (p.0 / side G d) (p.1 / side G (other d)) ≡ record_at G d (q.0 / side G d) (q.1 / side G (other d)) = omega arith in
      let s : bit_in G d (p.0 % side G d) c (p.1 % side G (other d)) ≡ bit_in G d (q.0 % side G d) k (q.1 % side G (other d)) = omega arith in
      let i = record-inj d (p.0 / side G d) (q.0 / side G d) (p.1 / side G (other d)) (q.1 / side G (other d)) (record-right d p px py)
      (record-right d q qx qy) r in
      let j = bits-inj d (p.0 % side G d) (q.0 % side G d) c k (p.1 % side G (other d)) (q.1 % side G (other d)) (unit-in d p.0)
      (unit-in d q.0) hc hk (place_in d p.1) (place_in d q.1) s in
      (again d p.0 q.0 i.0 j.0, again (other d) p.1 q.1 i.1 j.2, j.1)

-- luma edges and chroma edges share no bit
module _ (G H : Grid) (P : Proper G) (Q : Proper H) (l : G.luma ≡ true) (m : H.luma ≡ false) where
  low : (d : Pass) (u c q : ℕ) → u < 32 → c < classes G → q < 2 * half_units (ss_of G (other d)) → bit_in G d u c q < 6144
  low d u c q hu hc hq =
      let h : c < 3 = rw l at hc in
      let z : q < 32 = rw (luma-ss G P (other d) l) at hq in
      rw l (luma-bit-in (pass_no d) u c q (pass-lt d) hu h z)

  high : (d : Pass) (u c q : ℕ) → u < 32 → c < classes H → q < 2 * half_units (ss_of H (other d)) → (6144 ≤ bit_in H d u c q) × (bit_in H d u c q < 10240)
  high d u c q hu hc hq =
      go H.luma m hc
    where
      go : (b : Bool) → b ≡ false → c < cond b 3 2
          → (6144 ≤ cond b (luma_bit (pass_no d) u c q) (chroma_bit (ss_of H (other d)) (pass_no d) u c q))
          × (cond b (luma_bit (pass_no d) u c q) (chroma_bit (ss_of H (other d)) (pass_no d) u c q) < 10240)
      go true e h = absurd (false≢true (sym e))
      go false e h = chroma-bit-in (ss_of H (other d)) (pass_no d) u c q (ss-le H Q (other d)) (pass-lt d) hu h hq

  pub luma-chroma-apart : (d e : Pass) (p q : Piece) (c k : ℕ) → c < classes G → k < classes H → ¬ (edge_bit G d p c ≡ edge_bit H e q k)
  unfolding edge_bit
  luma-chroma-apart d e p q c k hc hk z =
      omega (
        arith,
        low d (p.0 % side G d) c (p.1 % side G (other d)) (unit-in G P d p.0) hc (place_in G P d p.1),
        high e (q.0 % side H e) k (q.1 % side H (other e)) (unit-in H Q e q.0) hk (place_in H Q e q.1),
      )

-- no class is set
pub highest-none : (n : ℕ) (set : ℕ → Bool) → ((c : ℕ) → c < n → set c ≡ false) → highest n set ≡ none
highest-none zero set h = refl
highest-none (suc n) set h = rw (h n (omega arith)) (highest-none n set (λ c l. h c (omega arith)))

-- one class is set: it is the highest
pub highest-one : (n : ℕ) (set : ℕ → Bool) (m : ℕ) → ((c : ℕ) → c < n → set c ≡ eqb c m) → m < n → highest n set ≡ some m
highest-one zero set m h l = absurd (omega arith)
highest-one (suc n) set m h l =
    by_cases (ℕ_discrete n m) (λ e. rw (h n (omega arith), eq-eqb n m e) (ap some e))
    (λ f. rw (h n (omega arith), ne_eqb n m f) (highest-one n set m (λ c g. h c (omega arith)) (omega arith)))
