-- A start whose number is 0 is as the work behind the number asks: its line fits the frame, the masks and the context.
use mathlib.Core.Path.{◌≡◌, sym, ap, ◌∙◌, subst}
use mathlib.Core.Bool.{Bool, true, false, cond, not, ◌&&◌}
use mathlib.Core.List.{List}
use Prim.Native.Nat.{ℕ, ◌+◌, ◌*◌, ◌≤◌, ◌<◌, min}
use native.Mathlib.Omega.{arith}
use lib.Dec.{ltb}
use lib.ListN.{length, get_or}
use borrow.Author.Tests.{not-false, ltb-false}
use Rattle.plane.specs.Line.{other, pass_of}
use Rattle.loops.specs.Any.{any_below}
use Rattle.loops.proofs.Numbers.{passed}
use Rattle.loops.proofs.Tables.{each_at}
use Rattle.units.specs.Units.{chroma_unit, chroma_units}
use Rattle.units.specs.Frame.{frame_records}
use Rattle.units.specs.Memory.{masks_ok}
use Rattle.units.proofs.Places.{chroma-unit-in}
use Rattle.units.proofs.Tests.{reflects-masks}
use Rattle.block.specs.Tests.{context_bad}
use Rattle.loops.proofs.Bools.{or_off}
use Rattle.edges.specs.Edges.{ss_of, units_of}
use Rattle.correct.specs.declared.Start.{Start}
use Rattle.correct.specs.declared.TileEdge.{TileEdge}
use Rattle.correct.specs.Start.{w4, h4, sb4, grid_at, across, end, line_of, inside, corrects, Inside}
use Rattle.correct.specs.Correct.{line_done, plane_done, Fits}
use Rattle.correct.specs.Tests.{shape_bad, units_along, most, context_refused, length_bad, number}
use Rattle.correct.specs.Answer.{Ready}
use Rattle.correct.proofs.Starts.{proper, shaped, first-le}

-- ---- the line

units_mono : (ss m n : ℕ) → ss ≤ 1 → m ≤ n → chroma_units ss m ≤ chroma_units ss n
units_mono ss m n h l = each_at 2 (λ s. chroma_units s m ≤ chroma_units s n) (omega arith, (omega arith, tt)) ss (omega arith)

module _ (t : Start) (luma : Bool) (i : Inside t) where
  pub across-in : across t luma < units_of (grid_at t luma) (pass_of t.rowwise)
  across-in = go t.rowwise
    where
      go : (b : Bool) → chroma_unit (ss_of (grid_at t luma) (pass_of b)) (cond b t.row t.start * sb4 t) < units_of (grid_at t luma) (pass_of b)
      go true = chroma-unit-in (t.row * sb4 t) (h4 t) (grid_at t luma).ss-ver i.row_in (proper t luma).ss-ver-le
      go false = chroma-unit-in (t.start * sb4 t) (w4 t) (grid_at t luma).ss-hor i.start-in (proper t luma).ss-hor-le

  pub end-in : end t luma ≤ units_of (grid_at t luma) (other (pass_of t.rowwise))
  end-in = go t.rowwise
    where
      go : (b : Bool) → cond b (chroma_units (grid_at t luma).ss-hor (w4 t)) (chroma_units (grid_at t luma).ss-ver (min (h4 t) ((t.row + 1) * sb4 t)))
          ≤ units_of (grid_at t luma) (other (pass_of b))
      go true = omega arith
      go false = units_mono (grid_at t luma).ss-ver (min (h4 t) ((t.row + 1) * sb4 t)) (h4 t) (proper t luma).ss-ver-le (omega arith)

  pub fits : (l : TileEdge) (masks context : ℕ) → l ≡ line_of t luma → 640 * frame_records (w4 t) (h4 t) ≤ masks → units_along t luma ≤ context → Fits l masks context
  fits l masks context e m k =
      subst (λ (x : TileEdge). Fits x masks context) (sym e)
      (record {
        proper = proper t luma;
        width = omega (arith, i.width);
        height = omega (arith, i.height);
        across-in = across-in;
        end-in = omega (arith, first-le t luma i, end-in);
        long = m;
        context-long = k;
      })

-- ---- number 0

pub record Passed (t : Start) (masks : ℕ) (context context-uv : List ℕ) : Type 0 where
  pub shape : shape_bad t ≡ false
  pub luma : context_refused t true context ≡ false
  pub chroma : context_refused t false context-uv ≡ false
  pub lengths : length_bad t masks ≡ false
  pub outside : not (inside t) ≡ false

module _ (t : Start) (masks : ℕ) (context context-uv : List ℕ) (e : number t masks context context-uv ≡ 0) where
  pub all-passed : Passed t masks context context-uv
  unfolding number
  all-passed =
      let d : ℕ = cond (not (inside t)) 10 0 in
      let c : ℕ = cond (length_bad t masks) 7 d in
      let b : ℕ = cond (context_refused t false context-uv) 6 c in
      let p₁ = passed (shape_bad t) 4 (cond (context_refused t true context) 6 b) (omega arith) e in
      let p₂ = passed (context_refused t true context) 6 b (omega arith) p₁.1 in
      let p₃ = passed (context_refused t false context-uv) 6 c (omega arith) p₂.1 in
      let p₄ = passed (length_bad t masks) 7 d (omega arith) p₃.1 in
      let p₅ = passed (not (inside t)) 10 0 (omega arith) p₄.1 in
      record { shape = p₁.0; luma = p₂.0; chroma = p₃.0; lengths = p₄.0; outside = p₅.0 }

  long : (luma : Bool) (c : List ℕ) → context_refused t luma c ≡ false → corrects t luma ≡ true → units_along t luma ≤ length c
  long luma c f y =
      ltb-false (length c) (units_along t luma) (or_off (ltb (length c) (units_along t luma)) (any_below (units_along t luma) (λ i. ltb (most luma) (get_or c i 0)))
      (bad (corrects t luma) (context_bad (units_along t luma) (most luma) c) y f)).0
    where
      bad : (a b : Bool) → a ≡ true → (a && b) ≡ false → b ≡ false
      bad a b y f = rw y at f

  ready : (luma : Bool) (c : List ℕ) → context_refused t luma c ≡ false → Ready t luma masks (length c)
  ready luma c f =
      record {
        shaped = shaped t all-passed.shape;
        masks-long = (reflects-masks masks (w4 t) (h4 t)).yes (not-false (masks_ok masks (w4 t) (h4 t)) all-passed.lengths);
        context-long = long luma c f;
      }

  pub ready-luma : Ready t true masks (length context)
  ready-luma = ready true context all-passed.luma

  pub ready-chroma : Ready t false masks (length context-uv)
  ready-chroma = ready false context-uv all-passed.chroma

-- ---- a plane at the start

module _ (t : Start) (luma : Bool) (context ms : List ℕ) where
  pub plane-off : corrects t luma ≡ false → ms ≡ plane_done t luma context ms
  plane-off e = ap (λ (b : Bool). cond b (line_done (line_of t luma) context ms) ms) (sym e)

  pub plane-on : (l : TileEdge) (m : List ℕ) → corrects t luma ≡ true → l ≡ line_of t luma → m ≡ line_done l context ms → m ≡ plane_done t luma context ms
  plane-on l m e q z =
      z ∙ ap (λ (x : TileEdge). line_done x context ms) q ∙ ap (λ (b : Bool). cond b (line_done (line_of t luma) context ms) ms) (sym e)
