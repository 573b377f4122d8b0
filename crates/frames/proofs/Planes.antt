-- Each plane of an accepted frame: demand 3, one row for each edge piece, and pieces of different rows that commute; by the gap rule where the plane is filtered, and
-- where it is not since it has no edges.
use mathlib.Core.Path.{◌≡◌, refl, sym, ap, ◌∙◌, subst}
use mathlib.Core.Bool.{Bool, true, false}
use mathlib.Core.List.{List, [], ◌∷◌}
use mathlib.Core.Logic.{◌≢◌, ⊎_elim}
use mathlib.Core.Option.{none}
use Prim.Native.Nat.{ℕ, suc, ◌*◌, ◌/◌, ◌<◌}
use native.Mathlib.Nat.{div-lt_iff_lt-mul, mul-le-mul_right}
use native.Mathlib.Omega.{arith}
use lib.Dec.{eqb}
use Rattle.loops.specs.Run.{run, up_to}
use Rattle.loops.proofs.Runs.{up_to-idle}
use Rattle.loops.proofs.Locals.{commute}
use Rattle.plane.specs.Line.{Pass, columns, rows, Piece}
use Rattle.plane.specs.Plane.{Plane, class, IsPiece, act, cols_of, rows_of, unit, raster_of, down, Kept, InRow}
use Rattle.plane.specs.Three.{Three}
use Rattle.plane.proofs.Pieces.{Fair, inner-some, idle, local-of, reads-piece, local, apart, past, ahead, not-both}
use Rattle.units.specs.Frame.{superblocks}
use Rattle.order.specs.Demand3.{Order, Demand3}
use Rattle.order.proofs.Parts.{divided, cut}
use Rattle.order.proofs.Frames.{demand3, row_of}
use Rattle.filter.specs.declared.Component.{Component}
use Rattle.filter.specs.Filter.{Tables, plane_of}
use Rattle.filter.proofs.Sweeps as filter
use Rattle.checks.specs.Call.{chroma_on, luma}
use Rattle.checks.proofs.Accepted.{filtered-u, filtered-v}
use Rattle.apply.specs.Apply.{shown, plane_at}
use Rattle.frames.specs.Whole.{RowsKeep, BoundariesKeep}
use Rattle.frames.specs.Calls.{Frame, call_at, lent_of, planes, Accepted, BoundariesKept}
use Rattle.frames.proofs.GapKept.{Size, kept}
use Rattle.frames.proofs.CallReach.{fair}
use Rattle.frames.proofs.Sweeps.{sweep-stays, shown-none}
use Rattle.frames.proofs.NumbersKept.{Done, done}

pub record Sound (P : Plane) : Type 0 where
  pub demand : Demand3 P
  pub row : (d : Pass) (p : Piece) → IsPiece P d p → (k : ℕ) × (k < P.sbs) × InRow P d k p
  pub same : (d : Pass) (j k : ℕ) → j ≢ k → (p q : Piece) → InRow P d j p → InRow P d k q → (s : List ℕ)
      → act P d p (act P d q s) ≡ act P d q (act P d p s)
  pub past : (j i : ℕ) → j < i → (p q : Piece) → InRow P columns i p → InRow P rows j q → (s : List ℕ)
      → act P columns p (act P rows q s) ≡ act P rows q (act P columns p s)
  pub ahead : (j i : ℕ) → suc i < j → (p q : Piece) → InRow P columns i p → InRow P rows j q → (s : List ℕ)
      → act P columns p (act P rows q s) ≡ act P rows q (act P columns p s)

module _ (P : Plane) where
  above : (d : Pass) (p : Piece) (j k : ℕ) → InRow P d j p → InRow P d k p → ¬ (j < k)
  above d p j k a b h = omega (arith, a.to, b.from, mul-le-mul_right P.sb h)

  -- an edge piece belongs to one row
  pub one-row : (d : Pass) (p : Piece) (j k : ℕ) → InRow P d j p → InRow P d k p → j ≡ k
  one-row d p j k a b = let x = above d p j k a b in let y = above d p k j b a in omega arith

-- ---- a plane that keeps the rule

module _ (P : Plane) (k : Kept P) (f : Fair P.widths) where
  sound-kept : Sound P
  sound-kept =
      record {
        demand = demand3 P k f;
        row = λ d p e. (
          down d p / P.sb,
          (div-lt_iff_lt-mul k.some-sb).1 (k.from-top d p e.cls (inner-some p.0 _ _ e.is).1),
          row_of P k d p,
        );
        same = λ d i j n p q a b. commute (local P k f d p) (local P k f d q)
            (apart P k f d p q (λ e. n (one-row P d q i j (subst (InRow P d i) e a) b)));
        past = past P k f;
        ahead = ahead P k f;
      }

-- ---- a plane with no edges

module _ (P : Plane) (no_edge : (d : Pass) (p : Piece) → class P d p ≡ none) where
  stays : (d : Pass) (p : Piece) (s : List ℕ) → act P d p s ≡ s
  stays d p = idle P d p (no_edge d p)

  run-stays : (d : Pass) (l : List Piece) (s : List ℕ) → run (act P d) l s ≡ s
  run-stays d [] s = refl
  run-stays d (p ∷ l) s = run-stays d l (act P d p s) ∙ stays d p s

  raster-stays : (d : Pass) (s : List ℕ) → raster_of P d s ≡ s
  unfolding raster_of
  raster-stays d =
      up_to-idle (λ y. up_to (λ x. act P d (unit d x y)) (P.records * P.record_units)) 0 (P.sbs * P.sb)
      (λ y _. up_to-idle (λ x. act P d (unit d x y)) 0 (P.records * P.record_units) (λ x _. stays d (unit d x y)) (omega arith)) (omega arith)

  cols-stay : (k : ℕ) (s : List ℕ) → cols_of P k s ≡ s
  cols-stay k s = sym ((filter.promises).columns-are P k s) ∙ sweep-stays P no_edge columns k s

  rows_stay : (k : ℕ) (s : List ℕ) → rows_of P k s ≡ s
  rows_stay k s = sym ((filter.promises).rows_are P k s) ∙ sweep-stays P no_edge rows k s

  turns-stay : (s : List ℕ) → up_to (λ k t. rows_of P k (cols_of P k t)) P.sbs s ≡ s
  turns-stay = up_to-idle (λ k t. rows_of P k (cols_of P k t)) 0 P.sbs (λ k _ t. rows_stay k (cols_of P k t) ∙ cols-stay k t) (omega arith)

  no-piece : (d : Pass) (p : Piece) → IsPiece P d p → ⊥
  no-piece d p e = not-both (sym (no_edge d p) ∙ e.is)

  demand-none : Demand3 P
  demand-none =
      record {
        an-order = λ d. ([], record { only = tt; every = λ p _ e. absurd (no-piece d p e); once = tt });
        any_order = λ d l m _ _ s. run-stays d l s ∙ sym (run-stays d m s);
        any-parts = λ d.
            divided P d (λ p. local-of P d p (λ c e. absurd (no-piece d p (record { cls = c; is = e }))))
            (λ p q n i r _. let x = reads-piece P d p i r in no-piece d p (record { cls = x.0; is = x.1 }));
        two-parts = λ d m n M. subst (Order P d) (cut m n) M;
        one-row-columns = λ k l _ s. cols-stay k s ∙ sym (run-stays columns l s);
        one-row-rows = λ k l _ s. rows_stay k s ∙ sym (run-stays rows l s);
        rows-in-turn = λ l m _ _ s. turns-stay s ∙ sym (run-stays rows m (run (act P columns) l s) ∙ run-stays columns l s);
        standard-order = λ s. turns-stay s ∙ sym (raster-stays rows (raster_of P columns s) ∙ raster-stays columns s);
        standard-any = λ d l _ s. raster-stays d s ∙ sym (run-stays d l s);
      }

  idly : (p q : Piece) (s : List ℕ) → act P columns p (act P rows q s) ≡ act P rows q (act P columns p s)
  idly p q s = stays columns p (act P rows q s) ∙ ap (act P rows q) (sym (stays columns p s))

  sound_none : Sound P
  sound_none =
      record {
        demand = demand-none;
        row = λ d p e. absurd (no-piece d p e);
        same = λ d _ _ _ p q _ _ s. stays d p (act P d q s) ∙ ap (act P d q) (sym (stays d p s));
        past = λ _ _ _ p q _ _. idly p q;
        ahead = λ _ _ _ p q _ _. idly p q;
      }

-- ---- a filtered plane

in_rows : (k h4 sb4 : ℕ) → Size sb4 → k * sb4 < h4 → k < superblocks h4 sb4
in_rows k h4 sb4 = ⊎_elim (λ e. rw e (λ h. omega arith)) (λ e. rw e (λ h. omega arith))

module _ (c : Component) (t : Tables) (s : List ℕ) (some : 0 < superblocks c.h4.0 c.sb4.0)
    (o : (d : Pass) (k : ℕ) → k < superblocks c.h4.0 c.sb4.0 → Done c t d k s) where
  rows-keep : RowsKeep c t
  rows-keep = record { keeps = λ d k v h. (o d k (in_rows k c.h4.0 c.sb4.0 (o columns 0 some).stored.size h)).fit.gap v }

  filtered-sound : BoundariesKeep (plane_of c t) → Sound (plane_of c t)
  filtered-sound b =
      let r = (o columns 0 some).stored in
      sound-kept (plane_of c t) (kept c t r.proper r.size rows-keep r.stored-wide b) (fair (eqb c.plane 0))

-- ---- the planes of a frame

shown-sound : (P : Plane) (on : Bool) → BoundariesKeep (shown on P) → (on ≡ true → BoundariesKeep P → Sound P) → Sound (shown on P)
shown-sound P true b h = h refl b
shown-sound P false b h = sound_none (shown false P) (shown-none P)

module _ (f : Frame) (s : Three (List ℕ)) (a : Accepted f s) (b : BoundariesKept f) where
  pub sound-luma : Sound (planes f).luma
  sound-luma = filtered-sound _ _ s.luma a.some (λ d k h. done f k s d (a.all d k h) luma) b.luma

  pub sound-u : Sound (planes f).u
  sound-u =
      shown-sound (plane_at f.head f.limits (lent_of f s) 1) (chroma_on f.head) b.u
      (λ o. filtered-sound _ _ s.u a.some (λ d k h. done f k s d (a.all d k h) (filtered-u (call_at f d k) o)))

  pub sound-v : Sound (planes f).v
  sound-v =
      shown-sound (plane_at f.head f.limits (lent_of f s) 2) (chroma_on f.head) b.v
      (λ o. filtered-sound _ _ s.v a.some (λ d k h. done f k s d (a.all d k h) (filtered-v (call_at f d k) o)))
