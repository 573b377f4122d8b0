-- An accepted call changes samples only as far above its row as it writes, and sees them as far as it reads: by the gap rule an edge piece of the row stays within that.
use mathlib.Core.Path.{◌≡◌, refl, sym, ap, ◌∙◌, subst, subst⁻¹}
use mathlib.Core.List.{List}
use mathlib.Core.Bool.{Bool, true, false, cond}
use mathlib.Core.Logic.{by_cases}
use mathlib.Core.Option.{some}
use Prim.Native.Nat.{ℕ, suc, ◌+◌, ◌-◌, ◌*◌, ◌/◌, ◌^◌, ◌≤◌, ◌<◌}
use native.Mathlib.Decide.{ℕ_discrete}
use native.Mathlib.Nat.{suc-mul}
use native.Mathlib.Omega.{arith}
use lib.Dec.{eqb}
use lib.ListN.{get_or}
use borrow.Author.Tests.{lt-ltb}
use Rattle.loops.specs.Local.{Local}
use Rattle.plane.specs.Gap.{Close}
use Rattle.plane.specs.Line.{Pass, columns, rows, Piece, Box, Room, Placed}
use Rattle.plane.specs.Line as line
use Rattle.plane.specs.Plane.{luma, chroma, Plane, class, rule_of, act, InRow}
use Rattle.plane.proofs.Gaps.{gap-close, after-start, before-end}
use Rattle.plane.proofs.Pieces.{Fair, fair-luma, fair-chroma, inner-some, rule_at, Writes, Reads, local-of, reads-piece}
use Rattle.gap.specs.Numbers.{part}
use Rattle.gap.specs.Promises.{Nowhere}
use Rattle.gap.proofs.NumbersMean.{edge_in}
use Rattle.filter.specs.declared.Component.{Component}
use Rattle.filter.specs.Filter.{Tables, grid_of, level_of, plane_of, sweep_of}
use Rattle.filter.specs.Ready.{Stored, Fit}
use Rattle.frames.specs.Within.{WithinRow, Agree}
use Rattle.frames.proofs.Sweeps.{sweep-both}
use Rattle.frames.proofs.GapKept.{Size, by_size, in-records, class-gives}

pub fair : (b : Bool) → Fair (cond b luma chroma)
fair true = fair-luma
fair false = fair-chroma

tall : (sb4 ss : ℕ) → Size sb4 → ss ≤ 1 → 8 ≤ sb4 / 2 ^ ss
tall = by_size (λ sb4 ss. 8 ≤ sb4 / 2 ^ ss) (omega arith) (omega arith) (omega arith) (omega arith)

module _ (c : Component) (t : Tables) (len : ℕ) (s : Stored c t len) (k : ℕ) where
  abbrev P : Plane
  P = plane_of c t

  abbrev R : ℕ → ℕ
  R = P.widths.reads

  abbrev W : ℕ → ℕ
  W = P.widths.writes

  width : Fair P.widths
  width = fair (eqb c.plane 0)

  -- how far an edge piece of the row reads
  abbrev Far : Pass → ℕ → Piece → Type 0
  Far columns n p = (n ≤ 4 * p.0) × (4 * p.0 + n ≤ 4 * (P.records * P.record_units))
  Far rows n p = (n ≤ 4 * p.0) × (4 * p.0 + n ≤ 4 * (suc k * P.sb))

  far-columns : Fit c t columns k → (p : Piece) (cls : ℕ) → InRow P columns k p → 0 < p.0 → P.edge columns p ≡ some cls → Far columns (R cls) p
  far-columns f p cls r h e =
      let i = edge_in (grid_of c) t.masks columns p cls e in
      let w = in-records p.0 c.w4.0 c.ss_hor s.proper.ss-hor-le i.0 in
      let to : p.1 < (k + 1) * P.sb = (let z : k + 1 ≡ suc k = omega arith in rw z r.to) in
      let g : Close (λ u. P.edge columns (u, p.1)) Nowhere (P.records * P.record_units) =
      gap-close _ _ _ (λ u. no (λ x. x)) (f.gap p.1 (r.from, to, i.1)) in
      (after-start R width.reach _ _ _ g p.0 cls e h, before-end R width.reach _ _ _ g p.0 cls e w)

  far-rows : Fit c t rows k → (p : Piece) (cls : ℕ) → InRow P rows k p → 0 < p.0 → P.edge rows p ≡ some cls → Far rows (R cls) p
  unfolding part
  far-rows f p cls r h e =
      let i = edge_in (grid_of c) t.masks rows p cls e in
      let u = p.0 - k * P.sb in
      let l : u < P.sb = omega (arith, r.from, r.to, suc-mul k P.sb) in
      let z : k * P.sb + u ≡ p.0 = omega (arith, r.from) in
      let q : part (k * P.sb) P.sb (λ y. P.edge rows (y, p.1)) u ≡ some cls = part_edge u l z in
      let g : Close (part (k * P.sb) P.sb (λ y. P.edge rows (y, p.1))) Nowhere P.sb =
      gap-close _ _ _ (λ u. no (λ x. x)) (f.gap p.1 i.1) in
      let b = before-end R width.reach _ _ _ g u cls q l in (
        by_cases (ℕ_discrete u 0)
            (λ n. omega (arith, width.reach.any cls, tall c.sb4.0 c.ss_ver s.size s.proper.ss-ver-le, top (omega arith)))
            (λ n. omega (arith, after-start R width.reach _ _ _ g u cls q (omega arith))),
        omega (arith, suc-mul k P.sb),
      )
    where
      part_edge : (u : ℕ) → u < P.sb → k * P.sb + u ≡ p.0 → part (k * P.sb) P.sb (λ y. P.edge rows (y, p.1)) u ≡ some cls
      part_edge u l z = rw (lt-ltb u P.sb l) (rw z e)

      -- a row past the first has one above it
      top : p.0 ≡ k * P.sb → P.sb ≤ p.0
      top z = by_cases (ℕ_discrete k 0) (λ n. absurd (omega (arith, ap (λ (m : ℕ). m * P.sb) n))) (λ n. omega (arith, up (k - 1) (omega arith)))
        where
          up : (j : ℕ) → k ≡ suc j → P.sb ≤ k * P.sb
          up j e = rw e (omega (arith, suc-mul j P.sb))

  pub far : (d : Pass) → Fit c t d k → (p : Piece) (cls : ℕ) → InRow P d k p → class P d p ≡ some cls → Far d (R cls) p
  far columns f p cls r e = let x = inner-some p.0 (P.edge columns p) cls e in far-columns f p cls r x.0 x.1
  far rows f p cls r e = let x = inner-some p.0 (P.edge rows p) cls e in far-rows f p cls r x.0 x.1

  -- the samples of a piece are there
  placed : (d : Pass) → Fit c t d k → (p : Piece) → InRow P d k p → (cls : ℕ) → class P d p ≡ some cls → Placed d P.stride (rule_at P d p) p
  placed d f p r cls e =
      subst⁻¹ (λ o. Placed d P.stride (rule_of P d p o) p) e
      (record {
        fewer = width.fewer cls;
        start = start d (R cls) p (far d f p cls r e);
        room = room d p cls e (far d f p cls r e);
        gives = class-gives t (eqb c.plane 0) cls (level_of c t d p);
      })
    where
      start : (d : Pass) (n : ℕ) (p : Piece) → Far d n p → n ≤ 4 * p.0
      start columns n p x = x.0
      start rows n p x = x.0

      room : (d : Pass) (p : Piece) (cls : ℕ) → class P d p ≡ some cls → Far d (R cls) p → Room d P.stride (R cls) p
      room columns p cls e x = omega (arith, s.stored-wide)
      room rows p cls e x =
          let i = edge_in (grid_of c) t.masks rows p cls (inner-some p.0 (P.edge rows p) cls e).1 in
          omega (arith, s.stored-wide, in-records p.1 c.w4.0 c.ss_hor s.proper.ss-hor-le i.1)

  -- a piece of the row is local
  local-row : (d : Pass) → Fit c t d k → (p : Piece) → InRow P d k p → Local (line.line_of d P.stride) (Writes P d p) (Reads P d p) (act P d p)
  local-row d f p r = local-of P d p (placed d f p r)

  -- and stays about the row
  box-within : (d : Pass) → Fit c t d k → (p : Piece) → InRow P d k p → (cls : ℕ) → class P d p ≡ some cls → (n m i : ℕ) → n ≤ R cls → n ≤ m
      → Box d P.stride n p i → WithinRow P m d k i
  box-within d f p r cls e n m i = go d p r e (far d f p cls r e)
    where
      go : (d : Pass) (p : Piece) → InRow P d k p → class P d p ≡ some cls → Far d (R cls) p → n ≤ R cls → n ≤ m → Box d P.stride n p i → WithinRow P m d k i
      go columns p r e x a b w = record { right = omega (arith, w.right); from = omega (arith, w.from, r.from); to = omega (arith, w.below, r.to) }
      go rows p r e x a b w =
          let j = edge_in (grid_of c) t.masks rows p cls (inner-some p.0 (P.edge rows p) cls e).1 in
          record {
            right = omega (arith, w.below, in-records p.1 c.w4.0 c.ss_hor s.proper.ss-hor-le j.1);
            from = omega (arith, w.left, r.from);
            to = omega (arith, w.right);
          }

  module _ (d : Pass) (f : Fit c t d k) (p : Piece) (r : InRow P d k p) (m : ℕ) where
    reads-within : ((cls : ℕ) → R cls ≤ m) → (i : ℕ) → Reads P d p i → WithinRow P m d k i
    reads-within h i b =
        let x = reads-piece P d p i b in
        let e : (rule_at P d p).reads ≡ R x.0 = ap (λ o. (rule_of P d p o).reads) x.1 in
        box-within d f p r x.0 x.1 (R x.0) m i (omega arith) (h x.0) (subst (λ n. Box d P.stride n p i) e b)

    writes-within : ((cls : ℕ) → W cls ≤ m) → (i : ℕ) → Writes P d p i → WithinRow P m d k i
    writes-within h i b =
        let x = reads-piece P d p i ((local-row d f p r).within i b) in
        let e : (rule_at P d p).writes ≡ W x.0 = ap (λ o. (rule_of P d p o).writes) x.1 in
        box-within d f p r x.0 x.1 (W x.0) m i (width.fewer x.0) (h x.0) (subst (λ n. Box d P.stride n p i) e b)

    -- so it changes no sample farther than it writes
    act-outside : ((cls : ℕ) → W cls ≤ m) → (l : List ℕ) (i : ℕ) → ¬ WithinRow P m d k i → get_or (act P d p l) i 0 ≡ get_or l i 0
    act-outside h l i n = (local-row d f p r).outside l i (λ w. n (writes-within h i w))

    -- and sees none farther than it reads
    act-inside : ((cls : ℕ) → R cls ≤ m) → (l l' : List ℕ) → Agree P m d k l l' → Agree P m d k (act P d p l) (act P d p l')
    act-inside h l l' a =
        let o = local-row d f p r in
        record {
          long = o.keeps l ∙ a.long ∙ sym (o.keeps l');
          same = λ i w. by_cases (o.decide i) (λ b. o.inside l l' a.long i b (λ j x _. a.same j (reads-within h j x)))
              (λ n. o.outside l i n ∙ a.same i w ∙ sym (o.outside l' i n));
        }

  -- so does the pass
  module _ (d : Pass) (f : Fit c t d k) (m : ℕ) where
    pub sweep-outside : ((cls : ℕ) → W cls ≤ m) → (l : List ℕ) (i : ℕ) → ¬ WithinRow P m d k i → get_or (sweep_of P d k l) i 0 ≡ get_or l i 0
    sweep-outside h l i n = sweep-both P k (λ l' _. get_or l' i 0 ≡ get_or l i 0) d (λ p r l' _ e. act-outside d f p r m h l' i n ∙ e) l l refl

    pub sweep-inside : ((cls : ℕ) → R cls ≤ m) → (l l' : List ℕ) → Agree P m d k l l' → Agree P m d k (sweep_of P d k l) (sweep_of P d k l')
    sweep-inside h = sweep-both P k (Agree P m d k) d (λ p r. act-inside d f p r m h)
