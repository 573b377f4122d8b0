-- A refusal has a number.
use Rattle.std.proofs.Common.{arith, ◌≤◌, ◌≡◌}
use Rattle.refusals.specs.Numbers.{number_of}
use Rattle.refusals.specs.declared.Refusal.{Refusal}
use Rattle.refusals.specs.declared.Refusal.TheVariants.{Sharpness, Level, Depth, Shape, Block, Context, Length, LevelByte, Plane, Outside, Gap, MaskBit, Bits, Unwritable}

pub numbered : (r : Refusal) → (1 ≤ number_of r) × (number_of r ≤ 24)
numbered Sharpness = (omega arith, omega arith)
numbered Level = (omega arith, omega arith)
numbered Depth = (omega arith, omega arith)
numbered Shape = (omega arith, omega arith)
numbered Block = (omega arith, omega arith)
numbered Context = (omega arith, omega arith)
numbered Length = (omega arith, omega arith)
numbered LevelByte = (omega arith, omega arith)
numbered Plane = (omega arith, omega arith)
numbered Outside = (omega arith, omega arith)
numbered Gap = (omega arith, omega arith)
numbered MaskBit = (omega arith, omega arith)
numbered Bits = (omega arith, omega arith)
numbered Unwritable = (omega arith, omega arith)

pub refused-some : (r : Refusal) → ¬ (number_of r ≡ 0)
refused-some r e = omega (arith, (numbered r).0)
