-- A plane whose masks hold the standard's edges of legal blocks keeps the gap rule over the whole frame, of which a call looks at parts and BoundariesKeep at the rest.
use mathlib.Core.Bool.{Bool, true, false}
use mathlib.Core.List.{List, []}
use mathlib.Core.Option.{Option}
use mathlib.Core.Path.{◌≡◌, refl, sym, ap, ◌∙◌, subst}
use Prim.Native.Nat.{ℕ, ◌*◌, ◌/◌, ◌%◌, ◌^◌, ◌≤◌}
use native.Mathlib.Omega.{arith}
use Rattle.loops.proofs.Tables.{each_at}
use Rattle.standard.specs.Edge as standard
use Rattle.plane.specs.Gap.{GapRule}
use Rattle.plane.specs.Line.{Pass, columns, rows}
use Rattle.plane.specs.Plane.{Plane, Boundary, end}
use Rattle.plane.specs.Three.{Three}
use Rattle.plane.proofs.Pieces.{not-both}
use Rattle.units.specs.Units.{chroma_unit}
use Rattle.edges.specs.Edges.{edge}
use Rattle.gap.specs.Numbers.{gap}
use Rattle.gap.specs.Promises.{Keeps}
use Rattle.gap.proofs.NumbersMean as numbers
use Rattle.checks.specs.Call.{sb4, chroma_on, Shaped}
use Rattle.checks.proofs.Accepted.{accepted-shape}
use Rattle.checks.proofs.TestsPassed.{unmet, sizes}
use Rattle.apply.specs.Apply.{plane_at, shown}
use Rattle.frames.specs.Whole.{BoundariesKeep}
use Rattle.frames.specs.Calls.{Frame, call_at, lent_of, Accepted, BoundariesKept}
use Rattle.frames.proofs.GapKept.{by_size}
use Rattle.covering.specs.Standard.{Covered}
use Rattle.covering.proofs.Theorems as covering
use Rattle.drawn.specs.Run.{State, SeenBlock, Tallies, OneTile}
use Rattle.drawn.proofs.Theorems as drawn
use Rattle.kept.specs.Holds.{frame_grid, HoldsEdges, AllHold}

side-four : (r ss : ℕ) → ss ≤ 1 → r * (32 / 2 ^ ss) % 4 ≡ 0
side-four r ss h = each_at 2 (λ s. r * (32 / 2 ^ s) % 4 ≡ 0) (omega arith, (omega arith, tt)) ss (omega arith)

pub recorded : (f : Frame) (D : standard.Frame) (n : ℕ) (l : List SeenBlock) (s t : State) (start : ℕ) → Tallies D n (frame_grid f n)
    → OneTile D n (frame_grid f n) l s t start → Covered D n → f.masks ≡ t.masks → HoldsEdges f D n
recorded f D n l s t start T O K e =
    record {
      tallies = T;
      covered = K;
      edges = λ d p. ap (λ (m : List ℕ). edge (frame_grid f n) m d p) e ∙ (drawn.promises).edges D n (frame_grid f n) l s t start T O d p;
    }

module _ (f : Frame) (D : standard.Frame) (shaped : Shaped f.head) where
  module _ (n : ℕ) (H : HoldsEdges f D n) where
    abbrev P : Plane
    P = plane_at f.head f.limits (lent_of f (record { luma = []; u = []; v = [] })) n

    sb-four : P.sb % 4 ≡ 0
    sb-four = by_size (λ s ss. chroma_unit ss s % 4 ≡ 0) refl refl refl refl (sb4 f.head) _ (sizes f.head shaped) H.tallies.proper.ss-ver-le

    end-four : (d : Pass) → end P d % 4 ≡ 0
    end-four columns = side-four _ _ H.tallies.proper.ss-hor-le
    end-four rows = side-four _ _ H.tallies.proper.ss-ver-le

    plane-gap : (d : Pass) (v : ℕ) → GapRule (λ u. P.edge d (u, v)) (Boundary P d) (end P d)
    plane-gap d v =
        subst (λ (e : ℕ → Option ℕ). GapRule e (Boundary P d) (end P d)) (λ q u. sym (H.edges d (u, v)) q)
        ((covering.promises).gap D n (omega (arith, H.tallies.right-ss, H.tallies.proper.ss-hor-le)) (omega (arith, H.tallies.down-ss, H.tallies.proper.ss-ver-le))
        H.covered d v P sb-four (end-four d))

    keeps : (d : Pass) (k v : ℕ) → Keeps (frame_grid f n) f.masks d (sb4 f.head) k v
    keeps columns k v = plane-gap columns v
    keeps rows k v = (drawn.promises).row (λ u. P.edge rows (u, v)) P.sb P.height (plane-gap rows v) k

    boundaries : BoundariesKeep P
    boundaries = record { keeps = λ v k a c e m. (plane-gap rows v).right a (k * P.sb) m c e }

    pub eleven : (d : Pass) (k : ℕ) → gap (frame_grid f n) f.masks d (sb4 f.head) k ≡ false
    eleven d k =
        unmet (gap (frame_grid f n) f.masks d (sb4 f.head) k) ((numbers.promises).eleven (frame_grid f n) f.masks d (sb4 f.head) k H.tallies.proper.ss-hor-le)
        (λ g. g.breaks (keeps d k g.line))

  -- a plane that is not filtered has no edge
  shown-keeps : (on : Bool) (P : Plane) → (on ≡ true → BoundariesKeep P) → BoundariesKeep (shown on P)
  shown-keeps true P h = record { keeps = (h refl).keeps }
  shown-keeps false P h = record { keeps = λ v k a c e m. absurd (not-both e) }

  pub all_keep : AllHold f D → BoundariesKept f
  all_keep A =
      record {
        luma = boundaries 0 A.luma;
        u = shown-keeps (chroma_on f.head) _ (λ e. boundaries 1 (A.chroma e));
        v = shown-keeps (chroma_on f.head) _ (λ e. record { keeps = (boundaries 1 (A.chroma e)).keeps });
      }

pub shape_of : (f : Frame) (s : Three (List ℕ)) → Accepted f s → Shaped f.head
shape_of f s a =
    let h = accepted-shape (call_at f columns 0) (lent_of f s) (a.all columns 0 a.some) in
    record { width = h.width; height = h.height; size = h.size }
