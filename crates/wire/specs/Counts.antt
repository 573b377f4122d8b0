-- What the contracts on numbers of elements to lend cite.
--   IsPrefixLen n xs   `&xs[..n]` is in bounds, and has n elements
use Rattle.std.specs.Prelude.{◌≡◌, ℕ, ◌≤◌, List, length, take}

abbrev pub IsPrefixLen : {A : Type 0} → ℕ → List A → Type 0
IsPrefixLen n xs = (n ≤ length xs) × (n ≡ length (take n xs))
