-- The test of a line says what the gap rule of neighbours says: no clash is six implications, each of two marks at most three units apart.
use mathlib.Core.Path.{◌≡◌, refl, sym, ap, ap₂, ◌∙◌}
use mathlib.Core.Bool.{Bool, true, false, ◌&&◌, ◌||◌, or-true, false≢true}
use mathlib.Core.Logic.{by_cases}
use mathlib.Core.Option.{Option, some, none}
use Prim.Native.Nat.{ℕ, zero, suc, ◌+◌, ◌-◌, ◌≤◌, ◌<◌}
use native.Mathlib.Decide.{ℕ_discrete, dec_le}
use native.Mathlib.Omega.{arith}
use lib.Dec.{eqb}
use borrow.Author.Tests.{eq-eqb, eqb-true, le-leb, lt-leb}
use Rattle.loops.proofs.Anys.{any-each, any_false}
use Rattle.loops.proofs.Bools.{or_off}
use Rattle.plane.specs.Gap.{Mark, an-edge, the-start, the_end, a-boundary, Allowed, GapRule, Close}
use Rattle.plane.proofs.Gaps.{gap-close, close-gap}
use Rattle.gap.specs.Line.{at_least, marked, prev, clashes, clash, line_broken}
use Rattle.gap.specs.Promises.{Nowhere}

-- ---- on Bools

and-off : (a b : Bool) → (a && b) ≡ false → a ≡ true → b ≡ false
and-off true b e t = e
and-off false b e t = absurd (false≢true t)

and-still : (a b : Bool) → (a ≡ true → b ≡ false) → (a && b) ≡ false
and-still true b h = h refl
and-still false b h = refl

or-still : (a b c : Bool) → (a ≡ true → c ≡ false) → (b ≡ true → c ≡ false) → (a || b) ≡ true → c ≡ false
or-still true b c h k e = h refl
or-still false b c h k e = k e

-- no clash, pair by pair
record Quiet (m a b m1 m2 m3 a1 b2 b3 : Bool) : Type 0 where
  left1 : m ≡ true → a1 ≡ false
  left2 : m ≡ true → b2 ≡ false
  left3 : m ≡ true → b3 ≡ false
  right1 : m1 ≡ true → a ≡ false
  right2 : m2 ≡ true → b ≡ false
  right3 : m3 ≡ true → b ≡ false

module _ (m a b m1 m2 m3 a1 b2 b3 : Bool) where
  quiet : clashes m a b m1 m2 m3 a1 b2 b3 ≡ false → Quiet m a b m1 m2 m3 a1 b2 b3
  unfolding clashes
  quiet e =
      let x = or_off ((m && ((a1 || b2) || b3)) || (m1 && a)) ((m2 || m3) && b) e in
      let y = or_off (m && ((a1 || b2) || b3)) (m1 && a) x.0 in
      record {
        left1 = λ t. (or_off a1 b2 (or_off (a1 || b2) b3 (and-off m _ y.0 t)).0).0;
        left2 = λ t. (or_off a1 b2 (or_off (a1 || b2) b3 (and-off m _ y.0 t)).0).1;
        left3 = λ t. (or_off (a1 || b2) b3 (and-off m _ y.0 t)).1;
        right1 = and-off m1 a y.1;
        right2 = λ t. and-off (m2 || m3) b x.1 (ap (λ (z : Bool). z || m3) t);
        right3 = λ t. and-off (m2 || m3) b x.1 (ap (λ (z : Bool). m2 || z) t ∙ or-true m2);
      }

  still : Quiet m a b m1 m2 m3 a1 b2 b3 → clashes m a b m1 m2 m3 a1 b2 b3 ≡ false
  unfolding clashes
  still q =
      ap₂ ◌||◌
      (ap₂ ◌||◌ (and-still m ((a1 || b2) || b3) (λ t. ap₂ ◌||◌ (ap₂ ◌||◌ (q.left1 t) (q.left2 t)) (q.left3 t))) (and-still m1 a q.right1))
      (and-still (m2 || m3) b (or-still m2 m3 b q.right2 q.right3))

-- ---- what held before

prev-on : (f : ℕ → Bool) (u : ℕ) → prev f u ≡ true → (v : ℕ) × (u ≡ suc v) × (f v ≡ true)
unfolding prev
prev-on f zero e = absurd (false≢true e)
prev-on f (suc u) e = (u, refl, e)

prev-off : (f : ℕ → Bool) (u : ℕ) → ((v : ℕ) → u ≡ suc v → f v ≡ false) → prev f u ≡ false
unfolding prev
prev-off f zero h = refl
prev-off f (suc u) h = h u refl

-- ---- edges and marks

at_low : (k : ℕ) (o : Option ℕ) → ((c : ℕ) → o ≡ some c → c < k) → at_least k o ≡ false
unfolding at_least
at_low k none h = refl
at_low k (some c) h = lt-leb k c (h c refl)

below : (k : ℕ) (o : Option ℕ) (c : ℕ) → at_least k o ≡ false → o ≡ some c → c < k
unfolding at_least
below k o c p e = by_cases (dec_le k c) (λ l. absurd (false≢true (sym p ∙ ap (at_least k) e ∙ le-leb k c l))) (λ n. omega arith)

module _ (edge : ℕ → Option ℕ) (end : ℕ) where
  abbrev M : ℕ → Type 0
  M = Mark edge Nowhere end

  abbrev m : ℕ → Bool
  m = marked edge end

  abbrev a : ℕ → Bool
  a u = at_least 1 (edge u)

  abbrev b : ℕ → Bool
  b u = at_least 2 (edge u)

  mark-true : (u : ℕ) → M u → m u ≡ true
  unfolding marked at_least
  mark-true u (a-boundary b) = elim b [ ]
  mark-true u (an-edge c e) =
      ap (λ (x : Bool). (eqb u 0 || eqb u end) || x) (ap (at_least 0) e ∙ le-leb 0 c (omega arith)) ∙ or-true (eqb u 0 || eqb u end)
  mark-true u (the-start p) = ap (λ (x : Bool). (x || eqb u end) || at_least 0 (edge u)) (eq-eqb u 0 p)
  mark-true u (the_end p) = ap (λ (x : Bool). x || at_least 0 (edge u)) (ap (λ (x : Bool). eqb u 0 || x) (eq-eqb u end p) ∙ or-true (eqb u 0))

  true-mark : (u : ℕ) → m u ≡ true → M u
  unfolding marked at_least
  true-mark u t = go (eqb u 0) (eqb u end) (edge u) refl refl refl t
    where
      go : (x y : Bool) (o : Option ℕ) → eqb u 0 ≡ x → eqb u end ≡ y → edge u ≡ o → ((x || y) || at_least 0 o) ≡ true → M u
      go true y o p q e z = the-start (eqb-true u 0 p)
      go false true o p q e z = the_end (eqb-true u end q)
      go false false (some c) p q e z = an-edge c e
      go false false none p q e z = absurd (false≢true z)

  -- ---- the rule gives no clash

  module _ (k : Close edge Nowhere end) where
    low1 : (u v : ℕ) → u ≡ suc v → m u ≡ true → a v ≡ false
    low1 u v e t = at_low 1 (edge v) (λ c p. omega (arith, (k.left v u (true-mark u t) (omega arith) c p).one (omega arith)))

    low2 : (u v : ℕ) → v < u → u ≤ v + 3 → m u ≡ true → b v ≡ false
    low2 u v l h t = at_low 2 (edge v) (λ c p. omega (arith, (k.left v u (true-mark u t) l c p).few (omega arith)))

    top1 : (u v : ℕ) → u ≡ suc v → m v ≡ true → a u ≡ false
    top1 u v e t = at_low 1 (edge u) (λ c p. omega (arith, (k.right v u (true-mark v t) (omega arith) c p).one (omega arith)))

    top2 : (u v : ℕ) → v < u → u ≤ v + 3 → m v ≡ true → b u ≡ false
    top2 u v l h t = at_low 2 (edge u) (λ c p. omega (arith, (k.right v u (true-mark v t) l c p).few (omega arith)))

    no-clash : (u : ℕ) → clash m a b u ≡ false
    unfolding clash
    no-clash u =
        still _ _ _ _ _ _ _ _ _
        (record {
          left1 = λ t. prev-off a u (λ v e. low1 u v e t);
          left2 = λ t. prev-off (prev b) u (λ v e. prev-off b v (λ w f. low2 u w (omega arith) (omega arith) t));
          left3 = λ t.
              prev-off (prev (prev b)) u
              (λ v e. prev-off (prev b) v (λ w f. prev-off b w (λ x g. low2 u x (omega arith) (omega arith) t)));
          right1 = λ t. let x = prev-on m u t in top1 u x.0 x.1 x.2;
          right2 = λ t.
              let x = prev-on (prev m) u t in
              let y = prev-on m x.0 x.2 in
              top2 u y.0 (omega arith) (omega arith) y.2;
          right3 = λ t.
              let x = prev-on (prev (prev m)) u t in
              let y = prev-on (prev m) x.0 x.2 in
              let z = prev-on m y.0 y.2 in
              top2 u z.0 (omega arith) (omega arith) z.2;
        })

    close-calm : line_broken edge end ≡ false
    unfolding line_broken
    close-calm = any_false (suc end) (clash m a b) (λ u _. no-clash u)

  -- ---- no clash gives the rule, for edges before the end

  module _ (inside : (u c : ℕ) → edge u ≡ some c → u < end) (e : line_broken edge end ≡ false) where
    to_end : (u : ℕ) → M u → u ≤ end
    to_end u (a-boundary b) = elim b [ ]
    to_end u (an-edge c p) = omega (arith, inside u c p)
    to_end u (the-start p) = omega arith
    to_end u (the_end p) = omega arith

    at : (u : ℕ) → u ≤ end → Quiet (m u) (a u) (b u) (prev m u) (prev (prev m) u) (prev (prev (prev m)) u) (prev a u) (prev (prev b) u) (prev (prev (prev b)) u)
    unfolding line_broken clash
    at u h = quiet _ _ _ _ _ _ _ _ _ (any-each (suc end) (clash m a b) e u (omega arith))

    module _ (x y c : ℕ) where
      left_one : M y → edge x ≡ some c → y ≡ suc x → c < 1
      unfolding prev
      left_one t p d = below 1 (edge x) c (sym (ap (prev a) d) ∙ (at y (to_end y t)).left1 (mark-true y t)) p

      left-two : M y → edge x ≡ some c → y ≡ suc (suc x) → c < 2
      unfolding prev
      left-two t p d = below 2 (edge x) c (sym (ap (prev (prev b)) d) ∙ (at y (to_end y t)).left2 (mark-true y t)) p

      left-three : M y → edge x ≡ some c → y ≡ suc (suc (suc x)) → c < 2
      unfolding prev
      left-three t p d = below 2 (edge x) c (sym (ap (prev (prev (prev b))) d) ∙ (at y (to_end y t)).left3 (mark-true y t)) p

      right-one : M x → edge y ≡ some c → y ≡ suc x → c < 1
      unfolding prev
      right-one t p d = below 1 (edge y) c ((at y (omega (arith, inside y c p))).right1 (ap (prev m) d ∙ mark-true x t)) p

      right-two : M x → edge y ≡ some c → y ≡ suc (suc x) → c < 2
      unfolding prev
      right-two t p d = below 2 (edge y) c ((at y (omega (arith, inside y c p))).right2 (ap (prev (prev m)) d ∙ mark-true x t)) p

      right-three : M x → edge y ≡ some c → y ≡ suc (suc (suc x)) → c < 2
      unfolding prev
      right-three t p d = below 2 (edge y) c ((at y (omega (arith, inside y c p))).right3 (ap (prev (prev (prev m))) d ∙ mark-true x t)) p

      allowed : x < y → (y ≡ suc x → c < 1) → (y ≡ suc (suc x) → c < 2) → (y ≡ suc (suc (suc x)) → c < 2) → Allowed (y - x) c
      allowed l f g h =
          record {
            one = λ d. omega (arith, f (omega arith));
            few = λ d.
                by_cases (ℕ_discrete y (suc x)) (λ p. omega (arith, f p))
                (λ n. by_cases (ℕ_discrete y (suc (suc x))) (λ p. omega (arith, g p)) (λ k. omega (arith, h (omega arith))));
          }

    calm-close : Close edge Nowhere end
    calm-close =
        record {
          left = λ x y t l c p. allowed x y c l (left_one x y c t p) (left-two x y c t p) (left-three x y c t p);
          right = λ x y t l c p. allowed x y c l (right-one x y c t p) (right-two x y c t p) (right-three x y c t p);
        }

pub line-keeps : (edge : ℕ → Option ℕ) (end : ℕ) → ((u c : ℕ) → edge u ≡ some c → u < end) → line_broken edge end ≡ false → GapRule edge Nowhere end
line-keeps edge end inside e = close-gap edge Nowhere end (calm-close edge end inside e)

pub line-breaks : (edge : ℕ → Option ℕ) (end : ℕ) → line_broken edge end ≡ true → ¬ GapRule edge Nowhere end
line-breaks edge end e g = false≢true (sym (close-calm edge end (gap-close edge Nowhere end (λ u. no (λ x. x)) g)) ∙ e)
