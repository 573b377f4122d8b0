-- The width of a class, by the code's tests: below 3 classes the plane is chroma.
use Rattle.std.proofs.Common.{◌≡◌, ℕ, ◌<◌, ◌≤◌, true, false, ltb, refl, arith, le-ltb, lt-ltb}
use Rattle.walk.proofs.WidthsThresholds.{len-4, len-6, len-16}
use Rattle.walk.proofs.width_of.Goals as goal

in-chroma : (n : ℕ) → n < 3 → ltb 2 n ≡ false
in-chroma n h = le-ltb 2 n (omega arith)

in-luma : (n : ℕ) → 3 ≤ n → ltb 2 n ≡ true
in-luma n h = lt-ltb 2 n (omega arith)

pub returns-then-class-eq0 : goal.returns-then-class-eq0
returns-then-class-eq0 c = len-4 (ltb 2 c.args.classes) _ c.if-class-eq0.true

pub returns-then-classes-lt3 : goal.returns-then-classes-lt3
returns-then-classes-lt3 c = len-6 (ltb 2 c.args.classes) _ c.if-class-eq0.false (in-chroma _ c.if-classes-lt3.true)

pub returns-then-class-eq1 : goal.returns-then-class-eq1
returns-then-class-eq1 c = rw (in-luma c.args.classes c.if-classes-lt3.false, c.if-class-eq1.true) refl

pub returns-else-class-eq1 : goal.returns-else-class-eq1
returns-else-class-eq1 c =
    len-16 (ltb 2 c.args.classes) _ c.if-class-eq0.false c.if-class-eq1.false (in-luma _ c.if-classes-lt3.false)
