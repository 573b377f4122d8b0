-- A number stands for one refusal, and 0 for none: each refusal is read back from its number. So an answer is read back from its number and value.
use mathlib.Core.Bool.{cond}
use mathlib.Core.Path.{◌≡◌, refl, sym, ap, ◌∙◌}
use Prim.Native.Nat.{ℕ}
use native.Mathlib.Omega.{arith}
use borrow.Author.Tests.{ne_eqb}
use lib.Dec.{eqb, leb}
use Rattle.std.specs.Prelude.{Result, Ok, Err}
use Rattle.refusals.specs.Numbers.{number_of, answered}
use Rattle.refusals.specs.Promises.{Promises}
use Rattle.refusals.specs.declared.Refusal.{Refusal}
use Rattle.refusals.specs.declared.Refusal.TheVariants.{Sharpness, Level, Depth, Shape, Block, Context, Length, LevelByte, Plane, Outside, Gap, MaskBit, Bits, Unwritable}

low : ℕ → Refusal
low n =
    cond (eqb n 1) Sharpness (cond (eqb n 2) Level (cond (eqb n 3) Depth (cond (eqb n 4) Shape (cond (eqb n 5) Block (cond (eqb n 6) Context Length)))))

high : ℕ → Refusal
high n =
    cond (eqb n 8) LevelByte (cond (eqb n 9) Plane (cond (eqb n 10) Outside (cond (eqb n 11) Gap (cond (eqb n 12) MaskBit (cond (eqb n 23) Bits Unwritable)))))

pub refusal_in : ℕ → Refusal
refusal_in n = cond (leb n 7) (low n) (high n)

read_back : (r : Refusal) → refusal_in (number_of r) ≡ r
unfolding refusal_in low high
read_back Sharpness = refl
read_back Level = refl
read_back Depth = refl
read_back Shape = refl
read_back Block = refl
read_back Context = refl
read_back Length = refl
read_back LevelByte = refl
read_back Plane = refl
read_back Outside = refl
read_back Gap = refl
read_back MaskBit = refl
read_back Bits = refl
read_back Unwritable = refl

some : (r : Refusal) → ¬ (number_of r ≡ 0)
some Sharpness e = absurd (omega arith)
some Level e = absurd (omega arith)
some Depth e = absurd (omega arith)
some Shape e = absurd (omega arith)
some Block e = absurd (omega arith)
some Context e = absurd (omega arith)
some Length e = absurd (omega arith)
some LevelByte e = absurd (omega arith)
some Plane e = absurd (omega arith)
some Outside e = absurd (omega arith)
some Gap e = absurd (omega arith)
some MaskBit e = absurd (omega arith)
some Bits e = absurd (omega arith)
some Unwritable e = absurd (omega arith)

pub promises : Promises
promises = record {
  unique = λ r q e. sym (read_back r) ∙ ap refusal_in e ∙ read_back q;
  some = some;
}

-- The answer of a number and a value, which only an answer of 0 has.
abbrev pub result_in : {A : Type 0} → ℕ → A → Result A Refusal
result_in n a = cond (eqb n 0) (Ok a) (Err (refusal_in n))

pub refused_back : {A : Type 0} (r : Refusal) (a : A) → result_in (number_of r) a ≡ Err r
refused_back r a = rw (ne_eqb (number_of r) 0 (some r), read_back r) refl
