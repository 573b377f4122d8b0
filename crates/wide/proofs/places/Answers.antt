-- The line's samples stand behind one that is not looked at: by cases on the place.
use mathlib.Core.Path.{◌≡◌, ap}
use mathlib.Core.List.{◌∷◌}
use Prim.Native.Nat.{ℕ, zero, suc, ◌-◌, ◌≤◌}
use native.Mathlib.Omega.{arith}
use lib.ListN.{get_or}
use Rattle.line.specs.Place.{of}
use Rattle.line.specs.Rule.{span}
use Rattle.line.specs.declared.LineSamples.{LineSamples}
use Rattle.wide.proofs.places.Goals as goal

behind : (l : LineSamples) (k : ℕ) → 1 ≤ k → get_or (0 ∷ span (of l) 1 14) k 0 ≡ of l k
behind l zero h = absurd (omega arith)
behind l (suc k) h = let e : k ≡ suc k - 1 = omega arith in ap (λ i. get_or (span (of l) 1 14) i 0) e

pub returns : goal.returns
returns c = record { same = λ k w. behind c.args.l k (omega (arith, w.from)) }
