-- An edge's class as a number.
--   no_class       where there is no edge
--   class_no o     the class, or no_class
--   class_in       of the bits e, e + 32 and e + 64 of the masks, the first n: the highest that is set
use Rattle.std.specs.Prelude.{List, ℕ, ◌+◌, ◌*◌}
use Rattle.std.proofs.Math.Option.{Option, some, none}
use Rattle.bits.specs.Mark.{is_set}
use Rattle.edges.specs.Edges.{highest}

abbrev pub no_class : ℕ
no_class = 3

abbrev pub class_no : Option ℕ → ℕ
class_no none = no_class
class_no (some c) = c

unfoldable pub class_in : List ℕ → ℕ → ℕ → ℕ
class_in ms n e = class_no (highest n (λ c. is_set ms (e + 32 * c)))
