-- The test by a quotient is the test by a product.
use mathlib.Core.Path.{◌≡◌, ap}
use mathlib.Core.Bool.{Bool, ◌&&◌}
use mathlib.Core.Logic.{by_cases}
use Prim.Native.Nat.{ℕ, ◌*◌, ◌/◌, ◌<◌}
use native.Mathlib.Decide.{dec_le}
use native.Mathlib.Nat.{div-lt_iff_lt-mul, le-div_iff_mul-le}
use native.Mathlib.Omega.{arith}
use lib.Dec.{leb}
use borrow.Author.Tests.{le-leb, lt-leb}
use Rattle.units.proofs.memory.lines_ok.Goals as goal

leb-div : (k n m : ℕ) → 0 < m → leb k (n / m) ≡ leb (k * m) n
leb-div k n m p =
    by_cases (dec_le (k * m) n)
    (λ h. rw (le-leb _ _ h) (le-leb k (n / m) ((le-div_iff_mul-le p).1 h)))
    (λ f. rw (lt-leb (k * m) n (omega arith)) (lt-leb k (n / m) ((div-lt_iff_lt-mul p).1 (omega arith))))

pub returns : goal.returns
returns c =
    ap (λ (b : Bool). leb c.args.width c.args.stride && b)
    (leb-div c.args.stride c.args.len c.args.lines c.requires)
