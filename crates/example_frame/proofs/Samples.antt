-- The samples after each pass at one place of each plane, the first past the corner where the quarters meet, computed as a function of the index.
use mathlib.Core.Path.{◌≡◌, refl, sym, ap, ◌∙◌, subst⁻¹}
use mathlib.Core.Bool.{true}
use mathlib.Core.List.{List, [], ◌∷◌, map}
use Prim.Native.Nat.{ℕ, zero, suc, ◌+◌, ◌*◌, ◌<◌}
use mathlib.Core.Option.{some}
use native.Mathlib.Omega.{arith}
use lib.Dec.{eqb, leb}
use lib.ListN.{get_or}
use borrow.Author.Tests.{leb-true}
use Rattle.loops.specs.Any.{any_below}
use Rattle.loops.specs.Run.{run, All}
use Rattle.loops.specs.Table.{Each}
use Rattle.loops.proofs.Tables.{each_at}
use Rattle.plane.specs.Line.{Pass, columns, rows, Piece, ix, line_step, sample_step, piece_at}
use Rattle.plane.specs.Line as plane
use Rattle.plane.specs.Plane.{class, act}
use Rattle.units.specs.Memory.{level_at}
use Rattle.standard.specs.Math.{Clip3, Round2}
use Rattle.standard.specs.Strength.{limit, blimit, thresh, bounds}
use Rattle.standard.specs.Masks.{hev_mask, filter_mask, flat_mask, flat_mask2}
use Rattle.standard.specs.Narrow.{filter4_clamp, base_filter, filter12, moved, narrowed, narrow}
use Rattle.standard.specs.Wide.{wide_at, wide}
use Rattle.standard.specs.Line as standard
use Rattle.standard.specs.Line.{filtered}
use Rattle.line.specs.Choice.{choice}
use Rattle.line.specs.Rule.{side, change, rule}
use Rattle.line.specs.Width.{reads}
use Rattle.line.proofs.Choices.{sizes}
use Rattle.line.proofs.Rules.{gives}
use Rattle.limits.specs.Limits.{limits_of}
use Rattle.walk.specs.Walk.{thresholds, len_of, visit}
use Rattle.walk.proofs.WidthsThresholds.{width}
use Rattle.walk.proofs.Laws as walk
use Rattle.filter.specs.Filter.{level_of}
use Rattle.filter.proofs.UnitActs.{act-visit}
use Rattle.checks.specs.Call.{stride_of}
use Rattle.apply.specs.Apply.{component_of, tables_of}
use Rattle.example_frame.specs.Data.{head, edges_of, levels, limits, quarters, samples_of, lent, plane_of}
use Rattle.example_frame.proofs.Starts.{size, start, start-tells}
use Rattle.example_frame.proofs.Edges.{Everywhere, everywhere, Drawn, drawn, pieces_of}
use Rattle.example_frame.proofs.Places.{Tells, Sound, piece_of, piece-tells}

-- ---- an edge, filtered at level 32 with the standard's bounds

abbrev rule_of : ℕ → ℕ → plane.Rule
rule_of n cls = rule (len_of (eqb n 0) cls) (bounds 8 3 32)

abbrev first : ℕ → Pass → Piece → ℕ
first n d p = ix d (stride_of head n) (4 * p.1) (4 * p.0)

abbrev level : ℕ → Pass → Piece → ℕ
level n = level_of (component_of head n) (tables_of head limits lent)

sound : (n cls : ℕ) → Sound (rule_of n cls)
sound n cls = let w = width (eqb n 0) cls in record { fewer = (sizes w).written_read; gives = gives w (bounds 8 3 32) }

bounds-are : thresholds 8 limits.e limits.i 32 ≡ bounds 8 3 32
unfolding limits_of
bounds-are = (walk.promises).standard 8 3 32 (omega arith)

act-is : (n : ℕ) (d : Pass) (p : Piece) (cls : ℕ) → class (plane_of n) d p ≡ some cls → level n d p ≡ 32 → (l : List ℕ)
    → act (plane_of n) d p l ≡ piece_at (line_step d (stride_of head n)) (sample_step d (stride_of head n)) (rule_of n cls) (first n d p) l
unfolding visit
act-is n d p cls e z l =
    act-visit (component_of head n) (tables_of head limits lent) d p cls e l
    ∙ rw z
    (ap (λ t. piece_at (line_step d (stride_of head n)) (sample_step d (stride_of head n)) (rule (len_of (eqb n 0) cls) t) (first n d p) l) bounds-are)

-- that level, and samples enough before it
abbrev Ready : ℕ → Pass → Piece × ℕ → Type 0
Ready n d e =
    (level n d e.0 ≡ 32) × (leb (reads (len_of (eqb n 0) e.1) * sample_step d (stride_of head n)) (first n d e.0) ≡ true)

ready : (d : Pass) → Everywhere (λ n k. All (Ready n d) (edges_of n d k))
unfolding levels level_at
ready columns =
    ((((refl, refl), tt), (((refl, refl), tt), tt)), ((((refl, refl), tt), (((refl, refl), tt), tt)), ((((refl, refl), tt), (((refl, refl), tt), tt)), tt)))
ready rows = (
  (((refl, refl), ((refl, refl), tt)), (((refl, refl), ((refl, refl), tt)), tt)),
  (
    (((refl, refl), ((refl, refl), tt)), (((refl, refl), ((refl, refl), tt)), tt)),
    ((((refl, refl), ((refl, refl), ((refl, refl), tt))), (((refl, refl), ((refl, refl), tt)), tt)), tt),
  ),
)

-- ---- the edges of a pass, one after another

abbrev run_of : ℕ → Pass → List (Piece × ℕ) → (ℕ → ℕ) → ℕ → ℕ
run_of n d [] g = g
run_of n d (e ∷ es) g =
    run_of n d es (piece_of (size n) (line_step d (stride_of head n)) (sample_step d (stride_of head n)) (rule_of n e.1) (first n d e.0) g)

run-tells : (n : ℕ) (d : Pass) (es : List (Piece × ℕ)) → All (λ e. class (plane_of n) d e.0 ≡ some e.1) es
    → All (Ready n d) es → (g : ℕ → ℕ) (l : List ℕ) → Tells (size n) g l → Tells (size n) (run_of n d es g) (run (act (plane_of n) d) (map (λ e. e.0) es) l)
run-tells n d [] a b g l t = t
run-tells n d (e ∷ es) a b g l t =
    let f = piece_of (size n) (line_step d (stride_of head n)) (sample_step d (stride_of head n)) (rule_of n e.1) (first n d e.0) g in
    run-tells n d es a.1 b.1 f (act (plane_of n) d e.0 l)
    (subst⁻¹ (Tells (size n) f) (act-is n d e.0 e.1 a.0 b.0.0 l)
    (piece-tells (size n) (line_step d (stride_of head n)) (sample_step d (stride_of head n)) (rule_of n e.1) (sound n e.1) (first n d e.0)
    (leb-true _ _ b.0.1) g l t))

-- all edges of a pass
abbrev pub sweep : ℕ → Pass → List ℕ → List ℕ
sweep n d l = run (act (plane_of n) d) (pieces_of n d 1) (run (act (plane_of n) d) (pieces_of n d 0) l)

abbrev sweep_of : ℕ → Pass → (ℕ → ℕ) → ℕ → ℕ
sweep_of n d g = run_of n d (edges_of n d 1) (run_of n d (edges_of n d 0) g)

sweep-tells : (n : ℕ) → n < 3 → (d : Pass) (g : ℕ → ℕ) (l : List ℕ) → Tells (size n) g l → Tells (size n) (sweep_of n d g) (sweep n d l)
sweep-tells n h d g l t =
    let a = everywhere (Drawn d) (drawn d) n h in
    let b = everywhere (λ n k. All (Ready n d) (edges_of n d k)) (ready d) n h in
    run-tells n d (edges_of n d 1) (a 1 (omega arith)) (b 1 (omega arith)) _ _
    (run-tells n d (edges_of n d 0) (a 0 (omega arith)) (b 0 (omega arith)) g l t)

-- ---- at the first place past the corner

abbrev corner : ℕ → ℕ
corner zero = 64 * 128 + 4
corner (suc n) = 32 * 64 + 4

record Values (n : ℕ) : Type 0 where
  before : start n (corner n) ≡ 122
  after-columns : sweep_of n columns (start n) (corner n) ≡ 117
  after-rows : sweep_of n rows (sweep_of n columns (start n)) (corner n) ≡ 108
  rows-first : sweep_of n columns (sweep_of n rows (start n)) (corner n) ≡ 116

values : Each 3 Values
unfolding quarters any_below side change choice Clip3 Round2 limit blimit thresh bounds hev_mask filter_mask flat_mask flat_mask2 filter4_clamp base_filter filter12 moved
    narrowed narrow wide_at wide standard.changed filtered
values = (
  record { before = refl; after-columns = refl; after-rows = refl; rows-first = refl },
  (
    record { before = refl; after-columns = refl; after-rows = refl; rows-first = refl },
    (record { before = refl; after-columns = refl; after-rows = refl; rows-first = refl }, tt),
  ),
)

-- two lists that differ there
differ : (i a b : ℕ) (l m : List ℕ) → get_or l i 0 ≡ a → get_or m i 0 ≡ b → ¬ (a ≡ b) → ¬ (l ≡ m)
differ i a b l m x y n e = n (sym x ∙ ap (λ (s : List ℕ). get_or s i 0) e ∙ y)

module _ (n : ℕ) (h : n < 3) where
  abbrev known : Values n
  known = each_at 3 Values values n h

  abbrev s : List ℕ
  s = samples_of n

  told : (d : Pass) → Tells (size n) (sweep_of n d (start n)) (sweep n d s)
  told d = sweep-tells n h d (start n) s (start-tells n)

  told-both : (d e : Pass) → Tells (size n) (sweep_of n e (sweep_of n d (start n))) (sweep n e (sweep n d s))
  told-both d e = sweep-tells n h e _ _ (told d)

  pub columns-change : ¬ (sweep n columns s ≡ s)
  columns-change =
      differ (corner n) 117 122 _ _ ((told columns).at (corner n) ∙ known.after-columns) ((start-tells n).at (corner n) ∙ known.before) (λ e. omega arith)

  pub rows-change : ¬ (sweep n rows (sweep n columns s) ≡ sweep n columns s)
  rows-change =
      differ (corner n) 108 117 _ _ ((told-both columns rows).at (corner n) ∙ known.after-rows) ((told columns).at (corner n) ∙ known.after-columns) (λ e. omega arith)

  pub order-counts : ¬ (sweep n columns (sweep n rows s) ≡ sweep n rows (sweep n columns s))
  order-counts =
      differ (corner n) 116 108 _ _ ((told-both rows columns).at (corner n) ∙ known.rows-first) ((told-both columns rows).at (corner n) ∙ known.after-rows)
      (λ e. omega arith)
