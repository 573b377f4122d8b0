-- The gap rule over a whole line: two neighbours lie in one superblock row, since its boundaries are marks, and there the rule is known.
use mathlib.Core.Path.{◌≡◌, refl, sym, ◌∙◌}
use mathlib.Core.Logic.{by_cases}
use mathlib.Core.Option.{Option, some}
use Prim.Native.Nat.{ℕ, suc, ◌+◌, ◌-◌, ◌*◌, ◌/◌, ◌%◌, ◌≤◌, ◌<◌}
use native.Mathlib.Decide.{ℕ_discrete, dec_lt, dec_le}
use native.Mathlib.Nat.{div-add-mod', mod-lt, mul-mod_left, mul-le-mul_right, suc-mul}
use native.Mathlib.Omega.{arith}
use borrow.Author.Tests.{lt-ltb}
use Rattle.loops.proofs.Products.{row_in}
use Rattle.plane.specs.Gap.{Mark, an-edge, the-start, the_end, a-boundary, Neighbours, Allowed, GapRule}
use Rattle.gap.specs.Numbers.{part}
use Rattle.gap.specs.Promises.{Nowhere}

module _ (edge : ℕ → Option ℕ) (sb height : ℕ) (pos : 0 < sb) (whole : height % sb ≡ 0) where
  abbrev Bound : ℕ → Type 0
  Bound u = u % sb ≡ 0

  abbrev M : ℕ → Type 0
  M = Mark edge Bound height

  abbrev N : ℕ → ℕ → Type 0
  N = Neighbours edge Bound height

  -- the row of k
  abbrev Mₖ : ℕ → ℕ → Type 0
  Mₖ k = Mark (part (k * sb) sb edge) Nowhere sb

  abbrev Nₖ : ℕ → ℕ → ℕ → Type 0
  Nₖ k = Neighbours (part (k * sb) sb edge) Nowhere sb

  part-is : (k u : ℕ) → u < sb → part (k * sb) sb edge u ≡ edge (k * sb + u)
  unfolding part
  part-is k u h = rw (lt-ltb u sb h) refl

  -- no boundary lies within a row
  within : (k u : ℕ) → u % sb ≡ 0 → k * sb < u → u < k * sb + sb → ⊥
  within k u e h l =
      let f = div-add-mod' u sb in
      by_cases (dec_lt k (u / sb)) (λ s. omega (arith, f, row_in k (u / sb) sb s)) (λ n. omega (arith, f, mul-le-mul_right sb (not-lt n)))
    where
      not-lt : ¬ (k < u / sb) → u / sb ≤ k
      not-lt n = omega arith

  -- a mark past the row's start and before its end is one of its edges
  only-edge : (k u : ℕ) → 0 < u → u < sb → M (k * sb + u) → Mₖ k u
  only-edge k u h l (an-edge c e) = an-edge c (part-is k u l ∙ e)
  only-edge k u h l (the-start e) = absurd (omega arith)
  only-edge k u h l (the_end e) = absurd (within k (k * sb + u) (rw e whole) (omega arith) (omega arith))
  only-edge k u h l (a-boundary e) = absurd (within k (k * sb + u) e (omega arith) (omega arith))

  -- and a mark of the row is one of the line
  a-mark : (k u : ℕ) → 0 < u → u < sb → Mₖ k u → M (k * sb + u)
  a-mark k u h l (an-edge c e) = an-edge c (sym (part-is k u l) ∙ e)
  a-mark k u h l (the-start e) = absurd (omega arith)
  a-mark k u h l (the_end e) = absurd (omega arith)
  a-mark k u h l (a-boundary e) = absurd e

  first-mark : (k u : ℕ) → u < sb → M (k * sb + u) → Mₖ k u
  first-mark k u l m = by_cases (ℕ_discrete u 0) the-start (λ n. only-edge k u (omega arith) l m)

  last-mark : (k u : ℕ) → 0 < u → u ≤ sb → M (k * sb + u) → Mₖ k u
  last-mark k u h l m = by_cases (ℕ_discrete u sb) the_end (λ n. only-edge k u h (omega arith) m)

  -- neighbours are neighbours in the row of the first
  in_row : (k u v : ℕ) → u < sb → v ≤ sb → N (k * sb + u) (k * sb + v) → Nₖ k u v
  in_row k u v l g n =
      let o : u < v = omega (arith, n.order) in
      record {
        first = first-mark k u l n.first;
        second = last-mark k v (omega arith) g n.second;
        order = o;
        between = λ z p q m. n.between (k * sb + z) (omega arith) (omega arith) (a-mark k z (omega arith) (omega arith) m);
      }

  -- which reaches to the row's end at most
  near : (a b : ℕ) → N a b → b ≤ a / sb * sb + sb
  near a b n =
      let k = a / sb in
      let f = div-add-mod' a sb in
      let m = mod-lt a pos in
      by_cases (dec_le b (k * sb + sb)) (λ h. h)
      (λ h. absurd (n.between (k * sb + sb) (omega arith) (omega arith) (a-boundary (next k))))
    where
      next : (k : ℕ) → (k * sb + sb) % sb ≡ 0
      next k = let e : k * sb + sb ≡ suc k * sb = omega (arith, suc-mul k sb) in rw e (mul-mod_left (suc k) sb)

  module _ (rule : (k c u : ℕ) → edge (k * sb + u) ≡ some c → u < sb → GapRule (part (k * sb) sb edge) Nowhere sb)
      (upper : (k a c : ℕ) → edge (k * sb) ≡ some c → N a (k * sb) → Allowed (k * sb - a) c) where
    left : (a b : ℕ) → N a b → (c : ℕ) → edge a ≡ some c → Allowed (b - a) c
    left a b n c e =
        let k = a / sb in
        let u = a % sb in
        let l = mod-lt a pos in
        let fa : k * sb + u ≡ a = div-add-mod' a sb in
        let fb : k * sb + (b - k * sb) ≡ b = omega (arith, n.order) in
        let g = near a b n in
        let ea : edge (k * sb + u) ≡ some c = rw fa e in
        let m : N (k * sb + u) (k * sb + (b - k * sb)) = rw (fa, fb) n in
        let r = (rule k c u ea l).left u (b - k * sb) (in_row k u (b - k * sb) l (omega arith) m) c (part-is k u l ∙ ea) in
        let d : b - k * sb - u ≡ b - a = omega arith in
        rw (sym d) r

    right : (a b : ℕ) → N a b → (c : ℕ) → edge b ≡ some c → Allowed (b - a) c
    right a b n c e =
        let k = a / sb in
        let u = a % sb in
        let l = mod-lt a pos in
        let fa : k * sb + u ≡ a = div-add-mod' a sb in
        let fb : k * sb + (b - k * sb) ≡ b = omega (arith, n.order) in
        let g = near a b n in
        by_cases (dec_lt b (k * sb + sb))
        (λ h.
        let eb : edge (k * sb + (b - k * sb)) ≡ some c = rw fb e in
        let m : N (k * sb + u) (k * sb + (b - k * sb)) = rw (fa, fb) n in
        let v : b - k * sb < sb = omega arith in
        let r = (rule k c (b - k * sb) eb v).right u (b - k * sb) (in_row k u (b - k * sb) l (omega arith) m) c (part-is k (b - k * sb) v ∙ eb) in
        let d : b - k * sb - u ≡ b - a = omega arith in
        rw (sym d) r)
        (λ h.
        let s : b ≡ suc k * sb = omega (arith, suc-mul k sb) in
        rw s (upper (suc k) a c (rw (sym s) e) (rw (sym s) n)))

    pub gap-whole : GapRule edge Bound height
    gap-whole = record { left = left; right = right }
