-- The numbers that a call returns.
--   number_of   a refusal's
--   answered    a call's, 0 for what is done
use Rattle.std.specs.Prelude.{ℕ, Result, Ok, Err}
use Rattle.refusals.specs.declared.Refusal.{Refusal}
use Rattle.refusals.specs.declared.Refusal.TheVariants.{Sharpness, Level, Depth, Shape, Block, Context, Length, LevelByte, Plane, Outside, Gap, MaskBit, Bits, Unwritable}

abbrev pub number_of : Refusal → ℕ
number_of Sharpness = 1
number_of Level = 2
number_of Depth = 3
number_of Shape = 4
number_of Block = 5
number_of Context = 6
number_of Length = 7
number_of LevelByte = 8
number_of Plane = 9
number_of Outside = 10
number_of Gap = 11
number_of MaskBit = 12
number_of Bits = 23
number_of Unwritable = 24

abbrev pub answered : {A : Type 0} → Result A Refusal → ℕ
answered (Ok _) = 0
answered (Err r) = number_of r
