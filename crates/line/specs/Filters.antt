-- A filter by its number in the choice.
--   number_of f   0 no filter, 1 the narrow one, else how many samples a side the wide one changes
use Rattle.std.specs.Prelude.{ℕ}
use Rattle.line.specs.declared.Filter.{Filter}
use Rattle.line.specs.declared.Filter.TheVariants.{None, Narrow, Wide6, Wide8, Wide16}

abbrev pub number_of : Filter → ℕ
number_of None = 0
number_of Narrow = 1
number_of Wide6 = 2
number_of Wide8 = 3
number_of Wide16 = 6
