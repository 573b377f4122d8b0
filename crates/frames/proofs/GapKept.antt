-- A plane keeps the rule over the whole frame where each call's look found it kept, and boundaries keep it with what is above them.
use mathlib.Core.Path.{◌≡◌, refl}
use mathlib.Core.Bool.{Bool, true, false, cond}
use mathlib.Core.List.{List, []}
use mathlib.Core.Logic.{◌⊎◌, ⊎_elim, by_cases}
use mathlib.Core.Option.{some}
use Prim.Native.Nat.{ℕ, zero, suc, ◌+◌, ◌*◌, ◌/◌, ◌%◌, ◌^◌, ◌≤◌, ◌<◌}
use native.Mathlib.Decide.{dec_lt}
use native.Mathlib.Nat.{div-add-mod', mod-lt, suc-mul}
use native.Mathlib.Omega.{arith}
use lib.Dec.{eqb}
use Rattle.loops.proofs.Tables.{each_at}
use Rattle.plane.specs.Gap.{GapRule}
use Rattle.plane.specs.Line.{Pass, columns, rows, Piece, Change, Gives}
use Rattle.plane.specs.Plane.{Plane, luma, chroma, Kept, Boundary, end, right, down}
use Rattle.units.specs.Frame.{records, superblocks}
use Rattle.units.specs.Units.{chroma_unit, chroma_units}
use Rattle.edges.specs.Edges.{Proper, units_of}
use Rattle.line.specs.Width.{four, six, eight, sixteen}
use Rattle.line.proofs.Rules.{gives}
use Rattle.walk.specs.Walk.{len_of}
use Rattle.gap.proofs.NumbersMean.{edge_in}
use Rattle.filter.specs.declared.Component.{Component}
use Rattle.filter.specs.Filter.{Tables, grid_of, change_at, level_of, plane_of}
use Rattle.frames.specs.Whole.{RowsKeep, BoundariesKeep}
use Rattle.frames.proofs.GapWhole.{gap-whole}

-- ---- superblocks of units of a plane, by the two sizes at ss 0 and 1

abbrev pub Size : ℕ → Type 0
Size sb4 = (sb4 ≡ 16) ⊎ (sb4 ≡ 32)

pub by_size : (P : ℕ → ℕ → Type 0) → P 16 0 → P 16 1 → P 32 0 → P 32 1 → (sb4 ss : ℕ) → Size sb4 → ss ≤ 1 → P sb4 ss
by_size P a b c d sb4 ss s h =
    ⊎_elim (λ e. rw e (each_at 2 (P 16) (b, (a, tt)) ss (omega arith))) (λ e. rw e (each_at 2 (P 32) (d, (c, tt)) ss (omega arith))) s

pub some-sb : (sb4 ss : ℕ) → Size sb4 → ss ≤ 1 → 0 < chroma_unit ss sb4
some-sb = by_size (λ sb4 ss. 0 < chroma_unit ss sb4) (omega arith) (omega arith) (omega arith) (omega arith)

whole-rows : (r sb4 ss : ℕ) → Size sb4 → ss ≤ 1 → r * (32 / 2 ^ ss) % chroma_unit ss sb4 ≡ 0
whole-rows r = by_size (λ sb4 ss. r * (32 / 2 ^ ss) % chroma_unit ss sb4 ≡ 0) (omega arith) (omega arith) (omega arith) (omega arith)

row-in-frame : (k u h4 sb4 ss : ℕ) → Size sb4 → ss ≤ 1 → k * chroma_unit ss sb4 + u < chroma_units ss h4 → k * sb4 < h4
row-in-frame k u h4 =
    by_size (λ sb4 ss. k * chroma_unit ss sb4 + u < chroma_units ss h4 → k * sb4 < h4) (λ h. omega arith) (λ h. omega arith) (λ h. omega arith) (λ h. omega arith)

pub in-records : (x w4 ss : ℕ) → ss ≤ 1 → x < chroma_units ss w4 → x < records w4 * (32 / 2 ^ ss)
in-records x w4 ss h = each_at 2 (λ s. x < chroma_units s w4 → x < records w4 * (32 / 2 ^ s)) (λ h. omega arith, (λ h. omega arith, tt)) ss (omega arith)

pub in-superblocks : (y h4 sb4 ss : ℕ) → Size sb4 → ss ≤ 1 → y < chroma_units ss h4 → y < superblocks h4 sb4 * chroma_unit ss sb4
in-superblocks y h4 =
    by_size (λ sb4 ss. y < chroma_units ss h4 → y < superblocks h4 sb4 * chroma_unit ss sb4) (λ h. omega arith) (λ h. omega arith) (λ h. omega arith) (λ h. omega arith)

some-record : (ss : ℕ) → ss ≤ 1 → 0 < 32 / 2 ^ ss
some-record ss h = each_at 2 (λ s. 0 < 32 / 2 ^ s) (omega arith, (omega arith, tt)) ss (omega arith)

-- ---- what a piece writes

nothing : (n : ℕ) → Gives n (record { side = 0; samples = [] })
nothing n = record { even = refl; few = omega arith }

of-level : (b : Bool) (n : ℕ) (x y : Change) → Gives n x → Gives n y → Gives n (cond b x y)
of-level true n x y g h = g
of-level false n x y g h = h

module _ (t : Tables) where
  pub class-gives : (b : Bool) (cls lvl : ℕ) (l : List ℕ) → Gives ((cond b luma chroma).writes cls) (change_at t (len_of b cls) lvl l)
  class-gives true zero lvl l = of-level (eqb lvl 0) _ _ _ (nothing _) (gives four _ l)
  class-gives true (suc zero) lvl l = of-level (eqb lvl 0) _ _ _ (nothing _) (gives eight _ l)
  class-gives true (suc (suc n)) lvl l = of-level (eqb lvl 0) _ _ _ (nothing _) (gives sixteen _ l)
  class-gives false zero lvl l = of-level (eqb lvl 0) _ _ _ (nothing _) (gives four _ l)
  class-gives false (suc n) lvl l = of-level (eqb lvl 0) _ _ _ (nothing _) (gives six _ l)

-- ---- the plane

module _ (c : Component) (t : Tables) (proper : Proper (grid_of c)) (size : Size c.sb4.0) where
  abbrev P : Plane
  P = plane_of c t

  pos : 0 < P.sb
  pos = some-sb c.sb4.0 c.ss_ver size proper.ss-ver-le

  module _ (keep : RowsKeep c t) where
    column-gap : (v : ℕ) → GapRule (λ u. P.edge columns (u, v)) (Boundary P columns) (end P columns)
    column-gap v =
        by_cases (dec_lt v (units_of (grid_of c) rows)) seen
        (λ n. record {
          left = λ a b _ cls e. absurd (n (edge_in (grid_of c) t.masks columns (a, v) cls e).1);
          right = λ a b _ cls e. absurd (n (edge_in (grid_of c) t.masks columns (b, v) cls e).1);
        })
      where
        seen : v < units_of (grid_of c) rows → GapRule (λ u. P.edge columns (u, v)) (Boundary P columns) (end P columns)
        seen h =
            let k = v / P.sb in
            let f : k * P.sb + v % P.sb ≡ v = div-add-mod' v P.sb in
            let m = mod-lt v pos in
            keep.keeps columns k v (row-in-frame k (v % P.sb) c.h4.0 c.sb4.0 c.ss_ver size proper.ss-ver-le (rw f h))
            (omega arith, (let e : (k + 1) * P.sb ≡ k * P.sb + P.sb = omega (arith, suc-mul k P.sb) in rw e (omega arith)), h)

    row-gap : BoundariesKeep P → (v : ℕ) → GapRule (λ u. P.edge rows (u, v)) (Boundary P rows) (end P rows)
    row-gap b v =
        gap-whole (λ u. P.edge rows (u, v)) P.sb P.height pos (whole-rows (records c.h4.0) c.sb4.0 c.ss_ver size proper.ss-ver-le)
        (λ k cls u e h.
        let i = edge_in (grid_of c) t.masks rows (k * P.sb + u, v) cls e in
        keep.keeps rows k v (row-in-frame k u c.h4.0 c.sb4.0 c.ss_ver size proper.ss-ver-le i.0) i.1)
        (λ k a cls e n. let h = b.keeps v k a cls e n in search)

    gap : BoundariesKeep P → (d : Pass) (v : ℕ) → GapRule (λ u. P.edge d (u, v)) (Boundary P d) (end P d)
    gap b columns v = column-gap v
    gap b rows v = row-gap b v

    from-left : (d : Pass) (p : Piece) (cls : ℕ) → P.edge d p ≡ some cls → right d p < P.records * P.record_units
    from-left columns p cls e = in-records p.0 c.w4.0 c.ss_hor proper.ss-hor-le (edge_in (grid_of c) t.masks columns p cls e).0
    from-left rows p cls e = in-records p.1 c.w4.0 c.ss_hor proper.ss-hor-le (edge_in (grid_of c) t.masks rows p cls e).1

    from-top : (d : Pass) (p : Piece) (cls : ℕ) → P.edge d p ≡ some cls → down d p < P.sbs * P.sb
    from-top columns p cls e = in-superblocks p.1 c.h4.0 c.sb4.0 c.ss_ver size proper.ss-ver-le (edge_in (grid_of c) t.masks columns p cls e).1
    from-top rows p cls e = in-superblocks p.0 c.h4.0 c.sb4.0 c.ss_ver size proper.ss-ver-le (edge_in (grid_of c) t.masks rows p cls e).0

    pub kept : 4 * (P.records * P.record_units) ≤ P.stride → BoundariesKeep P → Kept P
    kept h b =
        record {
          gap = gap b;
          from-left = from-left;
          from-top = from-top;
          stored = h;
          some-sb = pos;
          some-record = some-record c.ss_hor proper.ss-hor-le;
          gives = λ d cls p l. class-gives t (eqb c.plane 0) cls (level_of c t d p) l;
        }
