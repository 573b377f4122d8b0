-- A number as a flag.
--   on n     it is not 0
use Rattle.std.specs.Prelude.{Bool, not, ℕ, eqb}

abbrev pub on : ℕ → Bool
on n = not (eqb n 0)
