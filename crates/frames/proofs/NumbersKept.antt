-- No call changes another's number: a number sees of the samples their count and which are above the depth's maximum, and a call that is done keeps both, since
-- those that it has looked at stay in range, and it changes no other.
use mathlib.Core.Path.{◌≡◌, refl, sym, ap, ◌∙◌, subst}
use mathlib.Core.Bool.{Bool, cond, not, ◌&&◌, ◌||◌}
use mathlib.Core.List.{List}
use mathlib.Core.Logic.{by_cases}
use Prim.Native.Nat.{ℕ, suc, ◌+◌, ◌-◌, ◌*◌, ◌/◌, ◌%◌, ◌^◌, ◌≤◌, ◌<◌}
use native.Mathlib.Decide.{ℕ_discrete, dec_le, dec_lt}
use native.Mathlib.Nat.{div-add-mod'}
use native.Mathlib.Omega.{arith}
use lib.Dec.{eqb, ltb}
use lib.ListN.{length, get_or}
use borrow.Author.Tests.{le-ltb, eq-eqb, ne_eqb}
use Rattle.loops.specs.Any.{any_below}
use Rattle.bits.specs.Mark.{Words}
use Rattle.plane.specs.Line.{Pass, columns, rows, pass_no}
use Rattle.plane.specs.Plane.{Plane}
use Rattle.plane.specs.Three.{Three, cols_call, rows_call}
use Rattle.units.specs.Units.{chroma_unit}
use Rattle.units.specs.Frame.{stored}
use Rattle.units.specs.Memory.{plane_ok}
use Rattle.scans.specs.Scan.{some_from, samples_high}
use Rattle.filter.specs.declared.Component.{Component}
use Rattle.filter.specs.Filter.{Tables, plane_of, sweep_of}
use Rattle.filter.specs.Ready.{Stored, Fit, Under}
use Rattle.filter.proofs.Sweeps as filter
use Rattle.checks.specs.declared.Call.{Call}
use Rattle.checks.specs.Call.{samples, call_pass, sb4, ss-hor, ss-ver, stride_of, chroma_on, Filtered, luma}
use Rattle.checks.specs.Tests.{level_bad, depth_bad, shape_bad, length_bad, inside, levels_bad, plane_bad, marked, number}
use Rattle.checks.proofs.Accepted.{filtered-u, filtered-v}
use Rattle.apply.specs.Apply.{component_of, tables_of, pass_call}
use Rattle.apply.proofs.ReadyPlanes.{ready, deep, under}
use Rattle.frames.specs.Within.{WithinRow}
use Rattle.frames.specs.Calls.{Frame, call_at, lent_of, answer, planes, after}
use Rattle.frames.proofs.CallReach.{fair, sweep-outside}
use Rattle.frames.proofs.Sweeps.{shown_case}

-- ---- what a number sees of the samples

record Alike (m : ℕ) (s t : List ℕ) : Type 0 where
  long : length s ≡ length t
  too-high : (i : ℕ) → ltb (m - 1) (get_or s i 0) ≡ ltb (m - 1) (get_or t i 0)

same : (m : ℕ) (s : List ℕ) → Alike m s s
same m s = record { long = refl; too-high = λ i. refl }

plane-alike : (c : Call) (n : ℕ) (s t : List ℕ) → Alike (2 ^ c.depth) s t → plane_bad c n s ≡ plane_bad c n t
unfolding plane_bad samples_high
plane-alike c n s t a =
    λ q.
    not (plane_ok (a.long q) (stride_of c n) (stored c.width.0 (ss-hor c n)) (stored c.height.0 (ss-ver c n)))
    || (inside c
    && some_from (4 * (c.row * chroma_unit (ss-ver c n) (sb4 c)) - 8 * pass_no (call_pass c)) (4 * ((c.row + 1) * chroma_unit (ss-ver c n) (sb4 c)))
    (λ y. any_below (stored c.width.0 (ss-hor c n)) (λ x. a.too-high (y * stride_of c n + x) q)))

record Alike3 (m : ℕ) (s t : Three (List ℕ)) : Type 0 where
  luma : Alike m s.luma t.luma
  u : Alike m s.u t.u
  v : Alike m s.v t.v

answer-alike : (f : Frame) (d : Pass) (j : ℕ) (s t : Three (List ℕ)) → Alike3 (2 ^ f.head.depth) s t → answer f d j s ≡ answer f d j t
unfolding number
answer-alike f d j s t a =
    let c = call_at f d j in
    ap
    (λ (b : Bool).
    cond (level_bad c) 2
    (cond (depth_bad c) 3
    (cond (shape_bad c) 4
    (cond (length_bad c (length f.levels) (length f.masks)) 7 (cond (levels_bad c f.levels) 8 (cond b 9 (marked c f.masks)))))))
    (λ q.
    plane-alike c 0 s.luma t.luma a.luma q
    || (chroma_on c && (plane-alike c 1 s.u t.u a.u q || plane-alike c 2 s.v t.v a.v q)))

-- ---- what a pass that is done leaves

dec-within : (P : Plane) (n : ℕ) (d : Pass) (k i : ℕ) → Dec (WithinRow P n d k i)
dec-within P n d k i =
    by_cases (dec_lt (i % P.stride) (4 * (P.records * P.record_units)))
    (λ a. by_cases (dec_le (4 * (k * P.sb)) (i / P.stride + n * pass_no d))
    (λ b. by_cases (dec_lt (i / P.stride) (4 * (suc k * P.sb)))
    (λ e. yes (record { right = a; from = b; to = e })) (λ m. no (λ x. m x.to)))
    (λ m. no (λ x. m x.from))) (λ m. no (λ x. m x.right))

-- what numbers up to 12 leave of one plane
pub record Done (c : Component) (t : Tables) (d : Pass) (k : ℕ) (s : List ℕ) : Type 0 where
  pub stored : Stored c t (length s)
  pub fit : Fit c t d k
  pub deep : 8 ≤ t.depth
  pub under : Under (2 ^ t.depth) c d k s

module _ (c : Component) (t : Tables) (d : Pass) (k : ℕ) (s : List ℕ) (o : Done c t d k s) (w : Words t.masks) where
  -- a sample that it looked at was in range, and is
  looked : (i : ℕ) → WithinRow (plane_of c t) 8 d k i → ltb (2 ^ t.depth - 1) (get_or (sweep_of (plane_of c t) d k s) i 0) ≡ ltb (2 ^ t.depth - 1) (get_or s i 0)
  looked i l =
      let e : i / c.stride * c.stride + i % c.stride ≡ i = div-add-mod' i c.stride in
      let z : k + 1 ≡ suc k = omega arith in
      let b : get_or s i 0 < 2 ^ t.depth =
      subst (λ (j : ℕ). get_or s j 0 < 2 ^ t.depth) e (o.under.under (i % c.stride) (i / c.stride) l.right l.from (rw z l.to)) in
      let a = (filter.promises).range c t d k s o.stored o.fit w o.deep o.under i b in
      le-ltb (2 ^ t.depth - 1) (get_or (sweep_of (plane_of c t) d k s) i 0) (omega arith) ∙ sym (le-ltb (2 ^ t.depth - 1) (get_or s i 0) (omega arith))

  -- any other stays
  not-looked : (i : ℕ) → ¬ WithinRow (plane_of c t) 8 d k i → get_or (sweep_of (plane_of c t) d k s) i 0 ≡ get_or s i 0
  not-looked = sweep-outside c t (length s) o.stored k d o.fit 8 few s
    where
      few : (cls : ℕ) → (plane_of c t).widths.writes cls ≤ 8
      few cls = let w = fair (eqb c.plane 0) in omega (arith, w.fewer cls, w.reach.any cls)

  sweep-alike : Alike (2 ^ t.depth) (sweep_of (plane_of c t) d k s) s
  sweep-alike =
      record {
        long = (filter.promises).keeps (plane_of c t) d k s;
        too-high = λ i. by_cases (dec-within (plane_of c t) 8 d k i) (looked i) (λ n. ap (λ (x : ℕ). ltb (2 ^ t.depth - 1) x) (not-looked i n));
      }

-- ---- a call

-- the pass over the three planes
abbrev pub sweep_call : Three Plane → Pass → ℕ → Three (List ℕ) → Three (List ℕ)
sweep_call F d k s = record { luma = sweep_of F.luma d k s.luma; u = sweep_of F.u d k s.u; v = sweep_of F.v d k s.v }

pass-is : (f : Frame) (d : Pass) (k : ℕ) (F : Three Plane) (s : Three (List ℕ)) → pass_call (call_at f d k) F k s ≡ sweep_call F d k s
unfolding cols_call rows_call
pass-is f columns k F s =
    let e = (filter.promises).columns-are in
    λ q. record { luma = sym (e F.luma k s.luma) q; u = sym (e F.u k s.u) q; v = sym (e F.v k s.v) q }
pass-is f rows k F s =
    let e = (filter.promises).rows_are in
    λ q. record { luma = sym (e F.luma k s.luma) q; u = sym (e F.u k s.u) q; v = sym (e F.v k s.v) q }

module _ (f : Frame) (k : ℕ) (s : Three (List ℕ)) where
  pub done : (d : Pass) → answer f d k s ≡ 0 → {n : ℕ} → Filtered (call_at f d k) n
      → Done (component_of (call_at f d k) n) (tables_of (call_at f d k) f.limits (lent_of f s)) d k (samples (lent_of f s) n)
  done columns e x =
      let c = call_at f columns k in
      let r = ready c f.limits (lent_of f s) e x in
      record { stored = r.stored; fit = r.fit; deep = (deep c f.limits (lent_of f s) e).0; under = under c f.limits (lent_of f s) e x }
  done rows e x =
      let c = call_at f rows k in
      let r = ready c f.limits (lent_of f s) e x in
      record { stored = r.stored; fit = r.fit; deep = (deep c f.limits (lent_of f s) e).0; under = under c f.limits (lent_of f s) e x }

  -- accepted
  pub after-done : (d : Pass) → answer f d k s ≡ 0 → after f d k s ≡ sweep_call (planes f) d k s
  unfolding after
  after-done d e = rw (eq-eqb (answer f d k s) 0 e) (pass-is f d k (planes f) s)

  -- refused
  pub after-refused : (d : Pass) → ¬ (answer f d k s ≡ 0) → after f d k s ≡ s
  unfolding after
  after-refused d n = rw (ne_eqb (answer f d k s) 0 n) refl

  sweeps-alike : (d : Pass) → answer f d k s ≡ 0 → Alike3 (2 ^ f.head.depth) (sweep_call (planes f) d k s) s
  sweeps-alike d e =
      let m = 2 ^ f.head.depth in
      record {
        luma = sweep-alike _ _ d k s.luma (done d e luma) f.words;
        u = shown_case _ d k (λ _ g. Alike m (g s.u) s.u) (chroma_on f.head)
            (λ o. sweep-alike _ _ d k s.u (done d e (filtered-u (call_at f d k) o)) f.words) (same m s.u);
        v = shown_case _ d k (λ _ g. Alike m (g s.v) s.v) (chroma_on f.head)
            (λ o. sweep-alike _ _ d k s.v (done d e (filtered-v (call_at f d k) o)) f.words) (same m s.v);
      }

  after-alike : (d : Pass) → Alike3 (2 ^ f.head.depth) (after f d k s) s
  after-alike d =
      by_cases (ℕ_discrete (answer f d k s) 0)
      (λ e. subst (λ (t : Three (List ℕ)). Alike3 (2 ^ f.head.depth) t s) (sym (after-done d e)) (sweeps-alike d e))
      (λ n. subst (λ (t : Three (List ℕ)). Alike3 (2 ^ f.head.depth) t s) (sym (after-refused d n))
      (record { luma = same _ s.luma; u = same _ s.u; v = same _ s.v }))

pub answers_stay : (f : Frame) (d e : Pass) (j k : ℕ) (s : Three (List ℕ)) → answer f d j (after f e k s) ≡ answer f d j s
answers_stay f d e j k s = answer-alike f d j (after f e k s) s (after-alike f k s e)
