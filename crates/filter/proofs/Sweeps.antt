-- A pass over a superblock row is the plane's, keeps the length, and keeps the samples in range: each line does, by its walk or by doing nothing.
use mathlib.Core.Path.{◌≡◌, refl, sym, ◌∙◌, subst}
use mathlib.Core.List.{List}
use mathlib.Core.Logic.{by_cases}
use mathlib.Core.Option.{Option, some, none}
use Prim.Native.Nat.{ℕ, ◌+◌, ◌*◌, ◌^◌, ◌≤◌, ◌<◌}
use native.Mathlib.Decide.{dec_lt, ℕ_discrete}
use native.Mathlib.Nat.{mul-le-mul_right}
use native.Mathlib.Omega.{arith}
use lib.Dec.{eqb}
use lib.ListN.{length, get_or}
use Rattle.loops.proofs.Runs.{up_to-holds}
use Rattle.bits.specs.Mark.{Words}
use Rattle.plane.specs.Line.{Pass, columns, rows, Rule, Piece, ix, line_step, sample_step, changed, line_at, piece_at, piece}
use Rattle.plane.specs.Plane.{Plane, class, rule_of, act, cols_of, rows_of}
use Rattle.plane.proofs.Lines.{put_keeps}
use Rattle.plane.proofs.Pieces.{idle}
use Rattle.units.specs.Frame.{records}
use Rattle.edges.specs.Edges.{units_of}
use Rattle.line.specs.Width.{reads}
use Rattle.piece.specs.Samples.{PieceUnder}
use Rattle.walk.specs.Walk.{len_of, walked}
use Rattle.walk.proofs.WidthsThresholds.{width}
use Rattle.walk.proofs.Ranges.{visit-below, visits-below}
use Rattle.filter.specs.declared.Component.{Component}
use Rattle.filter.specs.Filter.{Tables, grid_of, level_of, plane_of, first_across, first_along, across, along, line_of, sweep_of}
use Rattle.filter.specs.Ready.{Stored, Fit, Under}
use Rattle.filter.specs.Lines.{unit_at, units_across, line_in, Inner}
use Rattle.filter.specs.Promises.{Promises}
use Rattle.filter.proofs.UnitPlaces.{places-le}
use Rattle.filter.proofs.UnitActs.{reads-is, act-visit, line-walked}
use Rattle.filter.proofs.PieceRooms.{walkable}
use Rattle.filter.proofs.Ranges.{in-range, stays}
use Rattle.filter.proofs.RecordLines.{at-start, past_end}

-- ---- the plane's passes, and their length

columns-are : (P : Plane) (k : ℕ) (s : List ℕ) → sweep_of P columns k s ≡ cols_of P k s
unfolding sweep_of line_of cols_of
columns-are P k s = refl

rows_are : (P : Plane) (k : ℕ) (s : List ℕ) → sweep_of P rows k s ≡ rows_of P k s
unfolding sweep_of line_of rows_of
rows_are P k s = refl

module _ (n : ℕ) where
  abbrev Long : List ℕ → Type 0
  Long s = length s ≡ n

  piece-keeps : (line_step sample-step : ℕ) (r : Rule) (q : ℕ) (s : List ℕ) → Long s → Long (piece_at line_step sample-step r q s)
  unfolding piece_at line_at changed
  piece-keeps line_step sample-step r q = up_to-holds Long (λ i. line_at sample-step r (q + i * line_step)) 4 (λ i l s h. put_keeps sample-step _ _ s ∙ h)

  act-keeps : (P : Plane) (d : Pass) (p : Piece) (s : List ℕ) → Long s → Long (act P d p s)
  unfolding act piece
  act-keeps P d p = piece-keeps (line_step d P.stride) (sample_step d P.stride) (rule_of P d p (class P d p)) (ix d P.stride (4 * p.1) (4 * p.0))

  line-keeps : (P : Plane) (d : Pass) (k rec a : ℕ) (s : List ℕ) → Long s → Long (line_of P d k rec a s)
  unfolding line_of
  line-keeps P d k rec a = up_to-holds Long _ (along P d) (λ v _. act-keeps P d (first_across P d k rec + a, first_along P d k rec + v))

  sweep-keeps : (P : Plane) (d : Pass) (k : ℕ) (s : List ℕ) → Long s → Long (sweep_of P d k s)
  unfolding sweep_of
  sweep-keeps P d k = up_to-holds Long _ P.records (λ rec _. up_to-holds Long _ (across P d) (λ a _. line-keeps P d k rec a))

-- ---- range

low-in : (d : Pass) (S n : ℕ) (p : Piece) → n ≤ 4 * p.0 → n * sample_step d S ≤ ix d S (4 * p.1) (4 * p.0)
low-in columns S n p h = omega arith
low-in rows S n p h = omega (arith, mul-le-mul_right S h)

module _ (c : Component) (t : Tables) (d : Pass) (p : Piece) (s : List ℕ) (h : 8 ≤ t.depth)
    (f : (cls : ℕ) → class (plane_of c t) d p ≡ some cls
    → ((plane_of c t).widths.reads cls ≤ 4 * p.0)
    × PieceUnder (2 ^ t.depth) ((plane_of c t).widths.reads cls) (line_step d c.stride) (sample_step d c.stride) (ix d c.stride (4 * p.1) (4 * p.0)) s) where
  unit-range : (j : ℕ) → get_or s j 0 < 2 ^ t.depth → get_or (act (plane_of c t) d p s) j 0 < 2 ^ t.depth
  unit-range j l = go (class (plane_of c t) d p) refl
    where
      go : (o : Option ℕ) → class (plane_of c t) d p ≡ o → get_or (act (plane_of c t) d p s) j 0 < 2 ^ t.depth
      go (some cls) e =
          let len = len_of (eqb c.plane 0) cls in
          let r = reads-is (eqb c.plane 0) cls in
          let x = f cls e in
          rw (act-visit c t d p cls e s)
          (visit-below t.depth t.e t.i (line_step d c.stride) (sample_step d c.stride) (level_of c t d p) (ix d c.stride (4 * p.1) (4 * p.0)) s
          h (width (eqb c.plane 0) cls) (low-in d c.stride (reads len) p (omega arith))
          (subst (λ (n : ℕ). PieceUnder (2 ^ t.depth) n (line_step d c.stride) (sample_step d c.stride) (ix d c.stride (4 * p.1) (4 * p.0)) s) r x.1) j l)
      go none e = rw (idle (plane_of c t) d p e s) l

module _ (c : Component) (t : Tables) (k len j : ℕ) (stored : Stored c t len) (w : (i : ℕ) → get_or t.masks i 0 < 65536) (h : 8 ≤ t.depth) where
  -- what a line keeps
  abbrev Low : Pass → List ℕ → Type 0
  Low d s = (length s ≡ len) × Under (2 ^ t.depth) c d k s × (get_or s j 0 < 2 ^ t.depth)

  inside : (d : Pass) (rec a : ℕ) → a < across (plane_of c t) d → unit_at c d k rec a < units_of (grid_of c) d → a < units_across c d k rec
  inside columns rec a x y = omega arith
  inside rows rec a x y = omega arith

  module _ (d : Pass) (f : Fit c t d k) where
    walk-range : (rec a : ℕ) (s : List ℕ) → Inner c d k rec a → Low d s → Low d (line_of (plane_of c t) d k rec a s)
    unfolding walked
    walk-range rec a s i b =
        let S : Stored c t (length s) = subst (Stored c t) (sym b.0) stored in
        let e = line-walked c t k rec a len stored d f i w (places-le c t k rec a len stored d) s in (
          line-keeps len (plane_of c t) d k rec a s b.0,
          subst (Under (2 ^ t.depth) c d k) (sym e) (stays c t d k rec a s S f i w h b.1),
          subst (λ (l : List ℕ). get_or l j 0 < 2 ^ t.depth) (sym e)
              (visits-below t.depth t.e t.i t.levels (line_in c t.masks d k rec a) s h
              (walkable c t d k rec a (length s) S f i w) (in-range c t d k rec a (length s) (2 ^ t.depth) S f i w s b.1) 32 j b.2),
        )

    line-range : (rec a : ℕ) → rec < records c.w4.0 → a < across (plane_of c t) d → (s : List ℕ) → Low d s → Low d (line_of (plane_of c t) d k rec a s)
    line-range rec a lg la s b =
        by_cases (ℕ_discrete (unit_at c d k rec a) 0) (λ e. subst (Low d) (sym (at-start c t d k rec a s e)) b)
        (λ n. by_cases (dec_lt (unit_at c d k rec a) (units_of (grid_of c) d))
        (λ x. walk-range rec a s (record { rec-in = lg; unit = inside d rec a la x; first = omega arith }) b)
        (λ x. subst (Low d) (sym (past_end c t d k rec a s (omega arith))) b))

    row-range : (s : List ℕ) → Low d s → Low d (sweep_of (plane_of c t) d k s)
    unfolding sweep_of
    row-range = up_to-holds (Low d) _ (records c.w4.0) (λ rec lg. up_to-holds (Low d) _ (across (plane_of c t) d) (λ a la. line-range rec a lg la))

sweep-range : (c : Component) (t : Tables) (d : Pass) (k : ℕ) (s : List ℕ) → Stored c t (length s) → Fit c t d k → Words t.masks → 8 ≤ t.depth
    → Under (2 ^ t.depth) c d k s → (j : ℕ) → get_or s j 0 < 2 ^ t.depth → get_or (sweep_of (plane_of c t) d k s) j 0 < 2 ^ t.depth
unfolding Words
sweep-range c t d k s stored f w h b j l = (row-range c t k (length s) j stored w h d f s (refl, b, l)).2

pub promises : Promises
promises =
    record {
      columns-are = columns-are;
      rows_are = rows_are;
      keeps = λ P d k s. sweep-keeps (length s) P d k s refl;
      unit-range = unit-range;
      range = sweep-range;
    }
