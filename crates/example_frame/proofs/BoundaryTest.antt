-- Whether an edge on a boundary keeps the gap rule with its upper neighbour, as a test of the three units above it: farther ones allow any class.
use mathlib.Core.Path.{◌≡◌, refl, sym, ap, ◌∙◌}
use mathlib.Core.Bool.{Bool, true, false, ◌&&◌, ◌||◌, or-true}
use mathlib.Core.Logic.{◌⊎◌, inl, inr, by_cases}
use mathlib.Core.Option.{Option, some}
use Prim.Native.Nat.{ℕ, ◌+◌, ◌-◌, ◌≤◌, ◌<◌}
use native.Mathlib.Decide.{ℕ_discrete}
use native.Mathlib.Omega.{arith}
use borrow.Author.Tests.{leb-false, le-leb}
use Rattle.loops.proofs.Bools.{or_off}
use Rattle.plane.specs.Gap.{Mark, an-edge, the-start, the_end, a-boundary, Neighbours, Allowed}
use Rattle.gap.specs.Line.{at_least}

left-off : (x y : Bool) → (x && y) ≡ false → y ≡ true → x ≡ false
left-off true y e f = sym f ∙ e
left-off false y e f = refl

below : (n cls : ℕ) (o : Option ℕ) → o ≡ some cls → at_least n o ≡ false → cls < n
unfolding at_least
below n cls o e f = leb-false n cls (ap (at_least n) (sym e) ∙ f)

module _ (e : ℕ → Option ℕ) (Bound : ℕ → Type 0) (end b : ℕ) where
  -- too near the one above
  abbrev pub near : Bool
  near = (at_least 1 (e b) && at_least 0 (e (b - 1))) || (at_least 2 (e b) && (at_least 0 (e (b - 2)) || at_least 0 (e (b - 3))))

  module _ (some-above : 4 ≤ b) (to : b ≤ end) (free : (a : ℕ) → b ≤ a + 3 → a < b → Bound a → ⊥) where
    edge-there : (a : ℕ) → b ≤ a + 3 → a < b → Mark e Bound end a → at_least 0 (e a) ≡ true
    unfolding at_least
    edge-there a h l (an-edge c f) = ap (at_least 0) f ∙ le-leb 0 c (omega arith)
    edge-there a h l (the-start z) = absurd (omega arith)
    edge-there a h l (the_end z) = absurd (omega arith)
    edge-there a h l (a-boundary z) = absurd (free a h l z)

    module _ (ok : near ≡ false) (cls a : ℕ) (is : e b ≡ some cls) (n : Neighbours e Bound end a b) where
      there : b ≤ a + 3 → at_least 0 (e a) ≡ true
      there h = edge-there a h n.order n.first

      one : b - a ≡ 1 → cls < 1
      one z =
          let i : a ≡ b - 1 = omega (arith, n.order) in
          below 1 cls (e b) is (left-off (at_least 1 (e b)) _ (or_off (at_least 1 (e b) && at_least 0 (e (b - 1))) _ ok).0 (ap (λ u. at_least 0 (e u)) (sym i) ∙ there (omega arith)))

      farther : (a ≡ b - 2) ⊎ (a ≡ b - 3) → cls < 2
      farther i = below 2 cls (e b) is (left-off (at_least 2 (e b)) _ (or_off (at_least 1 (e b) && at_least 0 (e (b - 1))) _ ok).1 (go i))
        where
          go : (a ≡ b - 2) ⊎ (a ≡ b - 3) → (at_least 0 (e (b - 2)) || at_least 0 (e (b - 3))) ≡ true
          go (inl i) = rw (ap (λ u. at_least 0 (e u)) (sym i) ∙ there (omega arith)) refl
          go (inr i) = rw (ap (λ u. at_least 0 (e u)) (sym i) ∙ there (omega arith)) (or-true (at_least 0 (e (b - 2))))

      pub allowed : Allowed (b - a) cls
      allowed =
          record {
            one = λ z. let h = one z in omega arith;
            few = λ z. by_cases (ℕ_discrete (b - a) 1) (λ x. let h = one x in omega arith)
                (λ x. by_cases (ℕ_discrete a (b - 2)) (λ y. let h = farther (inl y) in omega arith)
                (λ y. let h = farther (inr (omega (arith, n.order))) in omega arith));
          }
