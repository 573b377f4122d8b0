-- Demand 3's samples are the standard's: an edge piece of a frame belongs to the call of its superblock row, which is accepted, so it is the standard's.
use Prim.Native.Nat.{ℕ, ◌*◌, ◌/◌, ◌≤◌, ◌<◌}
use native.Mathlib.Nat.{div-add-mod', mod-lt, div-lt_iff_lt-mul}
use native.Mathlib.Omega.{arith}
use mathlib.Core.Bool.{Bool, true, false}
use mathlib.Core.List.{List}
use mathlib.Core.Option.{some, none}
use mathlib.Core.Path.{◌≡◌, refl, sym, ap, ◌∙◌, subst}
use lib.ListN.{length}
use Rattle.loops.specs.Run.{run, up_to}
use Rattle.plane.specs.Line.{Pass, columns, rows, Piece}
use Rattle.plane.specs.Plane.{Plane, class, act, InRow, down}
use Rattle.plane.specs.Three.{Three}
use Rattle.plane.proofs.Pieces.{inner-some, idle, not-both}
use Rattle.line.specs.Width.{reads}
use Rattle.limits.specs.Limits.{limits_of}
use Rattle.gap.proofs.NumbersMean.{edge_in}
use Rattle.filter.specs.declared.Component.{Component}
use Rattle.filter.specs.Filter.{Tables, grid_of}
use Rattle.filter.specs.Ready.{Stored}
use Rattle.checks.specs.Call.{samples, stride_of, chroma_on, Filtered, luma, chroma-u, chroma-v}
use Rattle.checks.proofs.Accepted.{filtered-u, filtered-v}
use Rattle.checks.proofs.FaultTests.{reflects-on}
use Rattle.apply.specs.Apply.{component_of, tables_of, shown, plane_at}
use Rattle.order.specs.Demand3.{Order, all_of, Orders}
use Rattle.frames.specs.Calls.{Frame, call_at, lent_of, after, planes, sb_rows, Accepted, BoundariesKept}
use Rattle.frames.specs.Promises.{Demand}
use Rattle.frames.proofs.GapKept.{some-sb, in-superblocks}
use Rattle.frames.proofs.Sweeps.{shown-none}
use Rattle.frames.proofs.NumbersKept.{Done, done}
use Rattle.frames.proofs.Theorems as frames
use Rattle.walk.specs.Walk.{width_of}
use Rattle.standard_planes.specs.Piece.{There}
use Rattle.standard_planes.specs.Frame.{Sharp, frame_level, Filters, Steps, ByStandard}
use Rattle.standard_planes.proofs.Pieces.{limits-are, no-level, piece_is}
use Rattle.standard_planes.proofs.PieceSamples.{asked-row}
use Rattle.standard_planes.proofs.Steps.{steps, run_long, only}

module _ (f : Frame) (s : Three (List ℕ)) (a : Accepted f s) where
  module _ (n : ℕ) (fil : Filtered f.head n) where
    abbrev C : Component
    C = component_of f.head n

    abbrev T : Tables
    T = tables_of f.head f.limits (lent_of f s)

    abbrev P : Plane
    P = plane_at f.head f.limits (lent_of f s) n

    of-call : (d : Pass) (k : ℕ) → Filtered (call_at f d k) n
    of-call d k = go fil
      where
        go : {m : ℕ} → Filtered f.head m → Filtered (call_at f d k) m
        go luma = luma
        go (chroma-u x y) = chroma-u x y
        go (chroma-v x y) = chroma-v x y

    -- what a call of the frame leaves of it
    its : (d : Pass) (k : ℕ) → k < sb_rows f → Done C T d k (samples (lent_of f s) n)
    its d k h = done f k s d (a.all d k h) (of-call d k)

    stored : Stored C T (length (samples (lent_of f s) n))
    stored = (its columns 0 a.some).stored

    below : (d : Pass) (p : Piece) (cls : ℕ) → class P d p ≡ some cls → down d p < P.sbs * P.sb
    below columns p cls e =
        in-superblocks p.1 _ _ _ stored.size stored.proper.ss-ver-le (edge_in (grid_of C) T.masks columns p cls (inner-some p.0 _ cls e).1).1
    below rows p cls e =
        in-superblocks p.0 _ _ _ stored.size stored.proper.ss-ver-le (edge_in (grid_of C) T.masks rows p cls (inner-some p.0 _ cls e).1).0

    -- the superblock row of an edge piece
    row : (d : Pass) (p : Piece) (cls : ℕ) → class P d p ≡ some cls → (k : ℕ) × (k < sb_rows f) × InRow P d k p
    row d p cls e =
        let h = some-sb _ _ stored.size stored.proper.ss-ver-le in (
          down d p / P.sb,
          (div-lt_iff_lt-mul h).1 (below d p cls e),
          record { from = omega (arith, div-add-mod' (down d p) P.sb); to = omega (arith, div-add-mod' (down d p) P.sb, mod-lt (down d p) h) },
        )

    -- what the call of that row asks of it
    asks : (d : Pass) (p : Piece) (cls : ℕ) → class P d p ≡ some cls
        → (frame_level f n d p ≤ 63) × There d (stride_of f.head n) (reads (width_of n cls)) p (length (samples (lent_of f s) n))
    asks d p cls e =
        let r = row d p cls e in
        asked-row C _ _ stored r.0 p cls d (its d r.0 r.1).fit r.2 e

  module _ (sharp : ℕ) (g : Sharp sharp f) where
    record Same (n : ℕ) (P : Plane) : Type 0 where
      filtered : Filtered f.head n → P ≡ plane_at f.head f.limits (lent_of f s) n
      unfiltered : ¬ Filtered f.head n → (d : Pass) (p : Piece) → class P d p ≡ none
      unit : (d : Pass) (p : Piece) (t : List ℕ) → length t ≡ length (samples (lent_of f s) n) → Filters sharp f n P d p t (act P d p t)

    same-plane : (n : ℕ) → Filtered f.head n → Same n (plane_at f.head f.limits (lent_of f s) n)
    same-plane n fil =
        record {
          filtered = λ _. refl;
          unfiltered = λ o. absurd (o fil);
          unit = λ d p t e. record {
            no-piece = λ z. idle (plane_at f.head f.limits (lent_of f s) n) d p z t;
            no-level = no-level f.head f.limits (lent_of f s) n d p t;
            lines = λ cls is o.
                let k = asks n fil d p cls is in
                piece_is f.head f.limits (lent_of f s) n d p t sharp cls (g.given ∙ limits-are sharp (limits_of sharp) refl g.accepted) is o k.0 (rw e k.1);
          };
        }

    -- chroma that is filtered, or not
    same-shown : (n : ℕ) → (Filtered f.head n → chroma_on f.head ≡ false → ⊥) → (chroma_on f.head ≡ true → Filtered f.head n) → (on : Bool) → chroma_on f.head ≡ on
        → Same n (shown on (plane_at f.head f.limits (lent_of f s) n))
    same-shown n off fil true e = same-plane n (fil e)
    same-shown n off fil false e =
        let Q = plane_at f.head f.limits (lent_of f s) n in
        record {
          filtered = λ x. absurd (off x e);
          unfiltered = λ _. shown-none Q;
          unit = λ d p t _.
              let z = shown-none Q d p in
              record { no-piece = λ _. idle (shown false Q) d p z t; no-level = λ _. idle (shown false Q) d p z t; lines = λ cls is o. absurd (not-both (sym z ∙ is)) };
        }

    off-u : Filtered f.head 1 → chroma_on f.head ≡ false → ⊥
    off-u (chroma-u x y) e = (reflects-on f.head).no e (x, y)

    off-v : Filtered f.head 2 → chroma_on f.head ≡ false → ⊥
    off-v (chroma-v x y) e = (reflects-on f.head).no e (x, y)

    by-standard : (n : ℕ) (P : Plane) (part : Three (List ℕ) → List ℕ) → length (samples (lent_of f s) n) ≡ length (part s) → Same n P
        → (BoundariesKept f → (l m : List Piece) → Order P columns l → Order P rows m
        → part (up_to (λ k t. after f rows k (after f columns k t)) (sb_rows f) s) ≡ run (act P rows) m (run (act P columns) l (part s)))
        → ByStandard sharp f s n P part
    by-standard n P part long x turn =
        record {
          filtered = x.filtered;
          unfiltered = x.unfiltered;
          unit = unit;
          steps = steps (length (part s)) unit;
          only = only (length (part s)) unit;
          in-turn = λ b l m L M. (
            run (act P columns) l (part s),
            steps (length (part s)) unit columns l (part s) refl,
            subst (Steps sharp f n P rows m (run (act P columns) l (part s))) (sym (turn b l m L M))
                (steps (length (part s)) unit rows m _ (run_long (length (part s)) unit columns l (part s) refl)),
          );
        }
      where
        unit : (d : Pass) (p : Piece) (t : List ℕ) → length t ≡ length (part s) → Filters sharp f n P d p t (act P d p t)
        unit d p t e = x.unit d p t (e ∙ sym long)

    demand : BoundariesKept f → Demand f s
    demand b = (frames.promises).demand f s a b

    some-order : BoundariesKept f → (d : Pass) → (l : Three (List Piece)) × Orders (planes f) d l
    some-order b d =
        let D = demand b in
        let y = D.luma.an-order d in
        let u = D.u.an-order d in
        let v = D.v.an-order d in
        (record { luma = y.0; u = u.0; v = v.0 }, record { luma = y.1; u = u.1; v = v.1 })

    pub by-luma : ByStandard sharp f s 0 (planes f).luma (λ t. t.luma)
    unfolding all_of
    by-luma = by-standard 0 (planes f).luma (λ t. t.luma) refl (same-plane 0 luma) (λ b l m L M.
        let c = some-order b columns in
        let r = some-order b rows in
        ap (λ t. t.luma)
        ((demand b).in-turn (record { luma = l; u = c.0.u; v = c.0.v }) (record { luma = m; u = r.0.u; v = r.0.v })
        (record { luma = L; u = c.1.u; v = c.1.v }) (record { luma = M; u = r.1.u; v = r.1.v })))

    pub by-u : ByStandard sharp f s 1 (planes f).u (λ t. t.u)
    unfolding all_of
    by-u = by-standard 1 (planes f).u (λ t. t.u) refl (same-shown 1 off-u (filtered-u f.head) (chroma_on f.head) refl) (λ b l m L M.
        let c = some-order b columns in
        let r = some-order b rows in
        ap (λ t. t.u)
        ((demand b).in-turn (record { luma = c.0.luma; u = l; v = c.0.v }) (record { luma = r.0.luma; u = m; v = r.0.v })
        (record { luma = c.1.luma; u = L; v = c.1.v }) (record { luma = r.1.luma; u = M; v = r.1.v })))

    pub by-v : ByStandard sharp f s 2 (planes f).v (λ t. t.v)
    unfolding all_of
    by-v = by-standard 2 (planes f).v (λ t. t.v) refl (same-shown 2 off-v (filtered-v f.head) (chroma_on f.head) refl) (λ b l m L M.
        let c = some-order b columns in
        let r = some-order b rows in
        ap (λ t. t.v)
        ((demand b).in-turn (record { luma = c.0.luma; u = c.0.u; v = l }) (record { luma = r.0.luma; u = r.0.u; v = m })
        (record { luma = c.1.luma; u = c.1.u; v = L }) (record { luma = r.1.luma; u = r.1.u; v = M })))
