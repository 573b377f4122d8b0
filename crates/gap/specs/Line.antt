-- The gap rule along one line of units as one test, which looks back three units.
--   at_least        an edge of class c or more
--   marked          a mark: the start, the end, or an edge
--   prev            what held one unit before; nothing does before the start
--   clashes         of m (marks), a (class 1 or more) and b (class 2): the unit and one of the three before it break the rule
--   clash           at unit u
--   line_broken     somewhere in the line
use Rattle.std.specs.Prelude.{Bool, false, ◌&&◌, ◌||◌, ℕ, zero, suc, eqb, leb}
use Rattle.std.proofs.Math.Option.{Option, some, none}
use Rattle.loops.specs.Any.{any_below}

unfoldable pub at_least : ℕ → Option ℕ → Bool
at_least c none = false
at_least c (some d) = leb c d

unfoldable pub marked : (ℕ → Option ℕ) → ℕ → ℕ → Bool
marked edge end u = (eqb u 0 || eqb u end) || at_least 0 (edge u)

unfoldable pub prev : (ℕ → Bool) → ℕ → Bool
prev f zero = false
prev f (suc u) = f u

unfoldable pub clashes : Bool → Bool → Bool → Bool → Bool → Bool → Bool → Bool → Bool → Bool
clashes m a b m1 m2 m3 a1 b2 b3 = ((m && ((a1 || b2) || b3)) || (m1 && a)) || ((m2 || m3) && b)

unfoldable pub clash : (ℕ → Bool) → (ℕ → Bool) → (ℕ → Bool) → ℕ → Bool
clash m a b u =
    clashes (m u) (a u) (b u) (prev m u) (prev (prev m) u) (prev (prev (prev m)) u) (prev a u) (prev (prev b) u) (prev (prev (prev b)) u)

unfoldable pub line_broken : (ℕ → Option ℕ) → ℕ → Bool
line_broken edge end = any_below (suc end) (clash (marked edge end) (λ u. at_least 1 (edge u)) (λ u. at_least 2 (edge u)))
