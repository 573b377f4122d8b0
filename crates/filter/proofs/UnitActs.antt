-- What the plane does along a line is its walk: at a place with an edge `act` is the visit of that place, at any other nothing, and past the line's places no bit is set.
use mathlib.Core.Path.{◌≡◌, refl, sym, ap, ap₂, ◌∙◌}
use mathlib.Core.Bool.{Bool, true, false, cond}
use mathlib.Core.List.{List, []}
use mathlib.Core.Option.{Option, some, none}
use Prim.Native.Nat.{ℕ, zero, suc, ◌+◌, ◌-◌, ◌*◌, ◌≤◌, ◌<◌}
use native.Mathlib.Omega.{arith}
use lib.Dec.{eqb}
use lib.ListN.{get_or}
use Rattle.loops.specs.Run.{up_to}
use Rattle.loops.proofs.Runs.{up_to-idle, up_to-same}
use Rattle.bits.specs.Bit.{has_bit}
use Rattle.bits.specs.Walk.{visits}
use Rattle.plane.specs.Line.{Pass, columns, rows, Rule, Piece, ix, line_step, sample_step, put, changed, line_at, piece_at, piece}
use Rattle.plane.specs.Plane.{luma, chroma, inner, class, act, right, down}
use Rattle.plane.proofs.Pieces.{idle}
use Rattle.line.specs.Rule.{rule}
use Rattle.line.specs.Width.{reads, writes}
use Rattle.units.specs.Memory.{level_at}
use Rattle.view.specs.Level.{level_used}
use Rattle.walk.specs.declared.UnitLine.{UnitLine}
use Rattle.walk.specs.Walk.{thresholds, len_of, len_in, set_in, visit, visit_at, walked}
use Rattle.walk.specs.Walk as walk
use Rattle.filter.specs.declared.Component.{Component}
use Rattle.filter.specs.Filter.{Tables, area_of, before, level_of, plane_of, line_of}
use Rattle.filter.specs.Ready.{Stored, Fit}
use Rattle.filter.specs.Lines.{left_of, top_of, unit_at, along_step, back_step, line_in, Inner}
use Rattle.filter.proofs.UnitPlaces.{first_place, places}
use Rattle.filter.proofs.Words.{picked, none_over}

-- ---- one piece

pub reads-is : (b : Bool) (class : ℕ) → (cond b luma chroma).reads class ≡ reads (len_of b class)
reads-is true zero = refl
reads-is true (suc zero) = refl
reads-is true (suc (suc class)) = refl
reads-is false zero = refl
reads-is false (suc class) = refl

writes-is : (b : Bool) (class : ℕ) → (cond b luma chroma).writes class ≡ writes (len_of b class)
writes-is true zero = refl
writes-is true (suc zero) = refl
writes-is true (suc (suc class)) = refl
writes-is false zero = refl
writes-is false (suc class) = refl

pub len-in : (b : Bool) (class : ℕ) → len_of b class ≡ len_in (cond b 3 2) class
len-in true class = refl
len-in false class = refl

-- a rule that is not to be used changes nothing
unused : (z : Bool) (r : Rule) (n m line_step sample-step q : ℕ) (s : List ℕ) → n ≡ r.reads → m ≡ r.writes
    → piece_at line_step sample-step (record { reads = n; writes = m; rule = λ l. cond z (record { side = 0; samples = [] }) (r.rule l) }) q s
    ≡ cond z s (piece_at line_step sample-step r q s)
unfolding piece_at line_at changed put
unused true r n m line_step sample-step q s en em = refl
unused false r n m line_step sample-step q s en em = (λ j. piece_at line_step sample-step (record { reads = en j; writes = em j; rule = r.rule }) q s)

module _ (c : Component) (t : Tables) (d : Pass) (p : Piece) where
  pub act-visit : (cls : ℕ) → class (plane_of c t) d p ≡ some cls → (s : List ℕ) → act (plane_of c t) d p s
      ≡ visit t.depth t.e t.i (line_step d c.stride) (sample_step d c.stride) (len_of (eqb c.plane 0) cls) (level_of c t d p)
      (ix d c.stride (4 * p.1) (4 * p.0)) s
  unfolding act piece visit
  act-visit cls e s =
      rw e
      (unused (eqb (level_of c t d p) 0) (rule (len_of (eqb c.plane 0) cls) (thresholds t.depth t.e t.i (level_of c t d p)))
      ((cond (eqb c.plane 0) luma chroma).reads cls) ((cond (eqb c.plane 0) luma chroma).writes cls) (line_step d c.stride) (sample_step d c.stride)
      (ix d c.stride (4 * p.1) (4 * p.0)) s (reads-is (eqb c.plane 0) cls) (writes-is (eqb c.plane 0) cls))

inner-pos : (u : ℕ) (o : Option ℕ) → 0 < u → inner u o ≡ o
inner-pos zero o h = absurd (omega arith)
inner-pos (suc u) o h = refl

-- ---- the level bytes and the samples of place v

module _ (c : Component) (k rec a v : ℕ) where
  pub index_is : (d : Pass)
      → ix d c.stride (4 * (first_place c d k rec + v)) (4 * unit_at c d k rec a)
      ≡ 4 * (top_of c d k a * c.stride + left_of c d rec a) + v * (4 * line_step d c.stride)
  index_is columns = omega arith
  index_is rows = omega arith

  pub level-place : (d : Pass) (area : ℕ)
      → level_at c.level_stride (right d (unit_at c d k rec a, first_place c d k rec + v)) (down d (unit_at c d k rec a, first_place c d k rec + v)) area
      ≡ level_at c.level_stride (left_of c d rec a) (top_of c d k a) area + v * along_step c d
  unfolding level_at
  level-place columns area = omega arith
  level-place rows area = omega arith

  pub before-place : (d : Pass) (area : ℕ) → 0 < unit_at c d k rec a
      → level_at c.level_stride (right d (before (unit_at c d k rec a, first_place c d k rec + v))) (down d (before (unit_at c d k rec a, first_place c d k rec + v))) area
      + back_step c d ≡ level_at c.level_stride (left_of c d rec a) (top_of c d k a) area + v * along_step c d
  unfolding level_at
  before-place columns area h = omega arith
  before-place rows area h = let e : unit_at c rows k rec a - 1 + 1 ≡ top_of c rows k a = omega arith in
      omega (arith, ap (λ (n : ℕ). n * c.level_stride) e)

-- ---- the line

module _ (c : Component) (t : Tables) (k rec a : ℕ) where
  pub line-places : (d : Pass) (l : List ℕ)
      → line_of (plane_of c t) d k rec a l ≡ up_to (λ v. act (plane_of c t) d (unit_at c d k rec a, first_place c d k rec + v)) (places c d) l
  unfolding line_of
  line-places columns l = refl
  line-places rows l = refl

  module _ (len : ℕ) (s : Stored c t len) (d : Pass) (f : Fit c t d k) (i : Inner c d k rec a) (small : (j : ℕ) → get_or t.masks j 0 < 65536) where
    abbrev U : UnitLine
    U = line_in c t.masks d k rec a

    class-is : (v : ℕ) → v < places c d → class (plane_of c t) d (unit_at c d k rec a, first_place c d k rec + v)
        ≡ cond (has_bit (set_in U) v) (some (walk.highest U.m1 U.m2 v)) none
    class-is v l = inner-pos (unit_at c d k rec a) _ i.first ∙ picked c t d k rec a len s f i small v l

    level-is : (v : ℕ) → level_of c t d (unit_at c d k rec a, first_place c d k rec + v) ≡ walk.level_at t.levels U v
    level-is v =
        let e : level_at c.level_stride (right d (before (unit_at c d k rec a, first_place c d k rec + v)))
        (down d (before (unit_at c d k rec a, first_place c d k rec + v))) (area_of c d) ≡ U.at + v * U.along - U.back =
        omega (arith, before-place c k rec a v d (area_of c d) i.first) in
        ap₂ (λ (x y : ℕ). level_used (get_or t.levels x 0) (get_or t.levels y 0)) (level-place c k rec a v d (area_of c d)) e

    step : (v : ℕ) → v < places c d → (l : List ℕ) → act (plane_of c t) d (unit_at c d k rec a, first_place c d k rec + v) l
        ≡ cond (has_bit (set_in U) v) (visit_at t.depth t.e t.i t.levels U v l) l
    step v lv l = go (has_bit (set_in U) v) (class-is v lv)
      where
        go : (b : Bool) → class (plane_of c t) d (unit_at c d k rec a, first_place c d k rec + v) ≡ cond b (some (walk.highest U.m1 U.m2 v)) none
            → act (plane_of c t) d (unit_at c d k rec a, first_place c d k rec + v) l ≡ cond b (visit_at t.depth t.e t.i t.levels U v l) l
        go true e =
            act-visit c t d (unit_at c d k rec a, first_place c d k rec + v) _ e l
            ∙ ap (λ (n : ℕ). visit t.depth t.e t.i U.line_step U.sample_step n (level_of c t d (unit_at c d k rec a, first_place c d k rec + v))
            (ix d c.stride (4 * (first_place c d k rec + v)) (4 * unit_at c d k rec a)) l) (len-in (eqb c.plane 0) (walk.highest U.m1 U.m2 v))
            ∙ ap₂ (λ (x y : ℕ). visit t.depth t.e t.i U.line_step U.sample_step (walk.len_at U v) x y l) (level-is v) (index_is c k rec a v d)
        go false e = idle (plane_of c t) d (unit_at c d k rec a, first_place c d k rec + v) e l

    pub line-walked : places c d ≤ 32 → (l : List ℕ) → line_of (plane_of c t) d k rec a l ≡ walked t.depth t.e t.i t.levels U l
    unfolding walked visits
    line-walked few l =
        line-places d l
        ∙ up_to-same _ _ (places c d) step l
        ∙ sym (up_to-idle (λ v m. cond (has_bit (set_in U) v) (visit_at t.depth t.e t.i t.levels U v m) m) (places c d) 32
        (λ v x m. rw (none_over c t d k rec a len s f i small v x) refl) few l)
