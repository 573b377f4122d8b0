-- The number of a call from its parts: the first of 2 to 8, then 9, then the first of 10 to 12; by cases on the tests.
use mathlib.Core.Bool.{Bool, true, false, cond}
use mathlib.Core.Path.{◌≡◌, refl, ap}
use Prim.Native.Nat.{ℕ}
use native.Mathlib.Omega.{arith}
use lib.Dec.{eqb}
use lib.ListN.{length}
use borrow.Author.Tests.{ne_eqb}
use Rattle.std.specs.Prelude.{Result, Ok, Err, IsErrAnd}
use Rattle.refusals.specs.Numbers.{number_of, answered}
use Rattle.refusals.specs.declared.Refusal.{Refusal}
use Rattle.refusals.specs.declared.Refusal.TheVariants.{Sharpness, Level, Depth, Shape, Block, Context, Length, LevelByte, Plane, Outside, Gap, MaskBit, Bits, Unwritable}
use Rattle.checks.specs.declared.Call.{Call}
use Rattle.checks.specs.Call.{Lent}
use Rattle.checks.specs.Tests.{level_bad, depth_bad, shape_bad, length_bad, levels_bad, planes_bad, given, marked, number}

-- ---- a refusal has a number

pub some-number : (r : Refusal) → ¬ (number_of r ≡ 0)
some-number Sharpness e = absurd (omega arith)
some-number Level e = absurd (omega arith)
some-number Depth e = absurd (omega arith)
some-number Shape e = absurd (omega arith)
some-number Block e = absurd (omega arith)
some-number Context e = absurd (omega arith)
some-number Length e = absurd (omega arith)
some-number LevelByte e = absurd (omega arith)
some-number Plane e = absurd (omega arith)
some-number Outside e = absurd (omega arith)
some-number Gap e = absurd (omega arith)
some-number MaskBit e = absurd (omega arith)
some-number Bits e = absurd (omega arith)
some-number Unwritable e = absurd (omega arith)

pub same-number : {A : Type 0} (r : Result A Refusal) (e : Refusal) → IsErrAnd r (λ x. x ≡ e) → answered r ≡ number_of e
same-number (Ok x) e h = absurd h
same-number (Err x) e h = ap number_of h

-- five tests, and x behind them
abbrev five : Bool → Bool → Bool → Bool → Bool → ℕ → ℕ
five a b d e f x = cond a 2 (cond b 3 (cond d 4 (cond e 7 (cond f 8 x))))

behind : (a b d e f : Bool) (x : ℕ) → five a b d e f x ≡ cond (eqb (five a b d e f 0) 0) x (five a b d e f 0)
behind true b d e f x = refl
behind false true d e f x = refl
behind false false true e f x = refl
behind false false false true f x = refl
behind false false false false true x = refl
behind false false false false false x = refl

module _ (c : Call) (m : Lent) where
  in_parts : number c m ≡ cond (eqb (given c m.levels (length m.masks)) 0) (cond (planes_bad c m) 9 (marked c m.masks)) (given c m.levels (length m.masks))
  unfolding number
  in_parts = behind (level_bad c) (depth_bad c) (shape_bad c) (length_bad c (length m.levels) (length m.masks)) (levels_bad c m.levels) _

  pub given-number : {r : ℕ} → r ≡ given c m.levels (length m.masks) → ¬ (r ≡ 0) → r ≡ number c m
  given-number {r} g h = rw (in_parts, ← g, ne_eqb r 0 h) refl

  module _ (z : given c m.levels (length m.masks) ≡ 0) where
    pub plane-number : planes_bad c m ≡ true → 9 ≡ number c m
    plane-number h = rw (in_parts, z, h) refl

    pub marked-number : {r : ℕ} → planes_bad c m ≡ false → r ≡ marked c m.masks → r ≡ number c m
    marked-number h e = rw (in_parts, z, h) e
