-- The list has each edge of the frame once, in order: what holds of lists one after another, applied to units, lines, passes and planes.
-- ---- lists one after another
use mathlib.Core.Bool.{Bool, true, false, cond}
use mathlib.Core.List.Memᴰ
use mathlib.Core.List.{List, [], ◌∷◌, ◌++◌, Memᴰ}
use mathlib.Core.Logic.{inl, inr, ⊎_elim}
use mathlib.Core.Option.{Option, some, none}
use mathlib.Core.Path.{◌≡◌, refl, sym, ap, subst, ◌∙◌}
use Prim.Native.Nat.{ℕ, zero, suc, ◌<◌}
use native.Mathlib.Omega.{arith}
use borrow.Author.Tests.{eqb-false, ne_eqb}
use lib.Dec.{eqb}
use Rattle.loops.specs.Run.{cat}
use Rattle.loops.proofs.ReadApart.{all-at, all_of}
use Rattle.loops.proofs.Loops.{mem-cat}
use Rattle.plane.specs.Line.{Pass, columns, rows, pass_no}
use Rattle.plane.specs.Plane.{unit}
use Rattle.edges.specs.Edges.{units_of, edge}
use Rattle.list_edges.specs.Listed.{Held, Edge, planes, grid_in, edge_in, found, edges_at, edges_in, edges_of}
use Rattle.list_edges.specs.Promises.{IsEdge, Before, Ordered, Promises}

cat-some : {A : Type 0} {p : A} (f : ℕ → List A) (n : ℕ) → Memᴰ p (cat f n) → (j : ℕ) × (j < n) × Memᴰ p (f j)
cat-some f zero m = absurd (Memᴰ.not-nil m)
cat-some {p = p} f (suc n) m =
    ⊎_elim (λ (a : Memᴰ p (cat f n)). let r = cat-some f n a in (r.0, omega (arith, r.1), r.2)) (λ a. (n, omega arith, a)) (Memᴰ.append_cases (cat f n) m)

ordered-append : (l m : List Edge) → Ordered l → Ordered m → ((e f : Edge) → Memᴰ e l → Memᴰ f m → Before e f) → Ordered (l ++ m)
ordered-append [] m a b h = b
ordered-append (e ∷ l) m a b h = (
  all_of (Before e) (l ++ m)
      (λ f i. ⊎_elim (λ k. all-at (Before e) l a.0 k) (λ k. h e f (Memᴰ.head refl) k) (Memᴰ.append_cases l i)),
  ordered-append l m a.1 b (λ g f i k. h g f (Memᴰ.tail i) k),
)

ordered-cat : (f : ℕ → List Edge) (n : ℕ) → ((j : ℕ) → Ordered (f j))
    → ((i j : ℕ) (e g : Edge) → i < j → Memᴰ e (f i) → Memᴰ g (f j) → Before e g) → Ordered (cat f n)
ordered-cat f zero h b = tt
ordered-cat f (suc n) h b =
    ordered-append (cat f n) (f n) (ordered-cat f n h b) (h n)
    (λ e g i k. let r = cat-some f n i in b r.0 n e g r.1 r.2 k)

-- ---- one unit

pub record At (s : Held) (p : ℕ) (d : Pass) (x y : ℕ) (e : Edge) : Type 0 where
  pub inner : (unit d x y).0 ≡ 0 → ⊥
  pub class-is : edge (grid_in s p) s.masks d (unit d x y) ≡ some e.class
  pub is : e ≡ edge_in s p d x y e.class

at_some : (s : Held) (p : ℕ) (d : Pass) (x y : ℕ) (e : Edge) → Memᴰ e (edges_at s p d x y) → At s p d x y e
unfolding edges_at
at_some s p d x y e m = go (eqb (unit d x y).0 0) (edge (grid_in s p) s.masks d (unit d x y)) refl refl m
  where
    go : (b : Bool) (o : Option ℕ) → eqb (unit d x y).0 0 ≡ b → edge (grid_in s p) s.masks d (unit d x y) ≡ o
        → Memᴰ e (cond b [] (found o (edge_in s p d x y))) → At s p d x y e
    go true o f g m = absurd (Memᴰ.not-nil m)
    go false none f g m = absurd (Memᴰ.not-nil m)
    go false (some c) f g m =
        let z = Memᴰ.eq_of_singleton m in
        record {
          inner = eqb-false (unit d x y).0 0 f;
          class-is = g ∙ ap some (sym (ap (λ (a : Edge). a.class) z));
          is = z ∙ ap (edge_in s p d x y) (sym (ap (λ (a : Edge). a.class) z));
        }

at_all : (s : Held) (p : ℕ) (d : Pass) (x y c : ℕ) → ((unit d x y).0 ≡ 0 → ⊥) → edge (grid_in s p) s.masks d (unit d x y) ≡ some c
    → Memᴰ (edge_in s p d x y c) (edges_at s p d x y)
unfolding edges_at
at_all s p d x y c h e = rw (ne_eqb (unit d x y).0 0 h, e) (Memᴰ.head refl)

at-ordered : (s : Held) (p : ℕ) (d : Pass) (x y : ℕ) → Ordered (edges_at s p d x y)
unfolding edges_at
at-ordered s p d x y = go (eqb (unit d x y).0 0) (edge (grid_in s p) s.masks d (unit d x y))
  where
    go : (b : Bool) (o : Option ℕ) → Ordered (cond b [] (found o (edge_in s p d x y)))
    go true o = tt
    go false none = tt
    go false (some c) = (tt, tt)

-- ---- a pass of a plane

module _ (s : Held) (p : ℕ) (d : Pass) where
  abbrev line : ℕ → List Edge
  line y = cat (λ x. edges_at s p d x y) (units_of (grid_in s p) columns)

  -- an edge of line y
  record On (y : ℕ) (e : Edge) : Type 0 where
    pub x : ℕ
    pub x-in : x < units_of (grid_in s p) columns
    pub at : At s p d x y e

  line-some : (y : ℕ) (e : Edge) → Memᴰ e (line y) → On y e
  line-some y e m =
      let r = cat-some (λ x. edges_at s p d x y) (units_of (grid_in s p) columns) m in
      record { x = r.0; x-in = r.1; at = at_some s p d r.0 y e r.2 }

  line-ordered : (y : ℕ) → Ordered (line y)
  line-ordered y =
      ordered-cat (λ x. edges_at s p d x y) (units_of (grid_in s p) columns) (λ x. at-ordered s p d x y)
      (λ i j e g l a b.
      let u = (at_some s p d i y e a).is in
      let v = (at_some s p d j y g b).is in
      let ex = ap (λ (z : Edge). z.x) u in
      let gx = ap (λ (z : Edge). z.x) v in
      inr (
        ap (λ (z : Edge). z.plane) u ∙ sym (ap (λ (z : Edge). z.plane) v),
        inr (
          ap (λ (z : Edge). z.pass) u ∙ sym (ap (λ (z : Edge). z.pass) v),
          inr (ap (λ (z : Edge). z.y) u ∙ sym (ap (λ (z : Edge). z.y) v), omega arith),
        ),
      ))

  -- an edge of the pass
  record In (e : Edge) : Type 0 where
    pub y : ℕ
    pub y-in : y < units_of (grid_in s p) rows
    pub on : On y e

  in_some : (e : Edge) → Memᴰ e (edges_in s p d) → In e
  unfolding edges_in
  in_some e m =
      let r = cat-some line (units_of (grid_in s p) rows) m in
      record { y = r.0; y-in = r.1; on = line-some r.0 e r.2 }

  in_all : (x y : ℕ) (e : Edge) → x < units_of (grid_in s p) columns → y < units_of (grid_in s p) rows → Memᴰ e (edges_at s p d x y)
      → Memᴰ e (edges_in s p d)
  unfolding edges_in
  in_all x y e h g m =
      mem-cat line y (units_of (grid_in s p) rows) g (mem-cat (λ x. edges_at s p d x y) x (units_of (grid_in s p) columns) h m)

  in-ordered : Ordered (edges_in s p d)
  unfolding edges_in
  in-ordered =
      ordered-cat line (units_of (grid_in s p) rows) line-ordered
      (λ i j e g l a b.
      let u = (line-some i e a).at.is in
      let v = (line-some j g b).at.is in
      let ey = ap (λ (z : Edge). z.y) u in
      let gy = ap (λ (z : Edge). z.y) v in
      inr (
        ap (λ (z : Edge). z.plane) u ∙ sym (ap (λ (z : Edge). z.plane) v),
        inr (ap (λ (z : Edge). z.pass) u ∙ sym (ap (λ (z : Edge). z.pass) v), inl (omega arith)),
      ))

  in-plane : (e : Edge) → Memᴰ e (edges_in s p d) → e.plane ≡ p
  in-plane e m = ap (λ (z : Edge). z.plane) (in_some e m).on.at.is

  in-pass : (e : Edge) → Memᴰ e (edges_in s p d) → e.pass ≡ d
  in-pass e m = ap (λ (z : Edge). z.pass) (in_some e m).on.at.is

  in-edge : p < planes s → (e : Edge) → Memᴰ e (edges_in s p d) → IsEdge s e
  in-edge h e m =
      let i = in_some e m in
      let o = i.on in
      let a = o.at in
      subst (λ (z : Edge). IsEdge s z) (sym a.is)
      (record { plane-in = h; x-in = o.x-in; y-in = i.y-in; inner = a.inner; class-is = a.class-is; level-is = refl })

-- ---- the frame

abbrev both : Held → ℕ → List Edge
both s p = edges_in s p columns ++ edges_in s p rows

both-plane : (s : Held) (p : ℕ) (e : Edge) → Memᴰ e (both s p) → e.plane ≡ p
both-plane s p e m = ⊎_elim (in-plane s p columns e) (in-plane s p rows e) (Memᴰ.append_cases (edges_in s p columns) m)

both_ordered : (s : Held) (p : ℕ) → Ordered (both s p)
both_ordered s p =
    ordered-append (edges_in s p columns) (edges_in s p rows) (in-ordered s p columns) (in-ordered s p rows)
    (λ e f a b.
    let u = ap pass_no (in-pass s p columns e a) in
    let v = ap pass_no (in-pass s p rows f b) in
    inr (in-plane s p columns e a ∙ sym (in-plane s p rows f b), inl (omega arith)))

ordered : (s : Held) → Ordered (edges_of s)
unfolding edges_of
ordered s =
    ordered-cat (both s) (planes s) (both_ordered s)
    (λ i j e g l a b. let u = both-plane s i e a in let v = both-plane s j g b in inl (omega arith))

only : (s : Held) (e : Edge) → Memᴰ e (edges_of s) → IsEdge s e
unfolding edges_of
only s e m =
    let r = cat-some (both s) (planes s) m in
    ⊎_elim (in-edge s r.0 columns r.1 e) (in-edge s r.0 rows r.1 e) (Memᴰ.append_cases (edges_in s r.0 columns) r.2)

in_both : (s : Held) (p : ℕ) (d : Pass) (e : Edge) → Memᴰ e (edges_in s p d) → Memᴰ e (both s p)
in_both s p columns e m = Memᴰ.append_left (edges_in s p rows) m
in_both s p rows e m = Memᴰ.append_right (edges_in s p columns) m

always : (s : Held) (e : Edge) → IsEdge s e → Memᴰ e (edges_of s)
unfolding edges_of
always s e i =
    let z : e ≡ edge_in s e.plane e.pass e.x e.y e.class =
    ap (λ (l : ℕ). edge_of e.plane e.pass e.x e.y e.class l) i.level-is
    in
    mem-cat (both s) e.plane (planes s) i.plane-in
    (in_both s e.plane e.pass e
    (in_all s e.plane e.pass e.x e.y e i.x-in i.y-in
    (Memᴰ.cast z (at_all s e.plane e.pass e.x e.y e.class i.inner i.class-is))))
  where
    edge_of : ℕ → Pass → ℕ → ℕ → ℕ → ℕ → Edge
    edge_of p d x y c l = record { plane = p; pass = d; x = x; y = y; class = c; level = l }

pub promises : Promises
promises = record { listed = λ s e. record { only = only s e; always = always s e }; ordered = ordered }
