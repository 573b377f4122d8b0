-- Words as numbers.
--   pack n s        the bytes s after the number n, in base 256
--   packed s        a word of at most 7 bytes, after a 1; 0 for a longer one
--   Bytes s         every byte is below 256
use Rattle.std.specs.Prelude.{cond, List, [], ◌∷◌, ℕ, ◌+◌, ◌*◌, ◌<◌, ltb, length, get_or}

abbrev pub pack : ℕ → List ℕ → ℕ
pack n [] = n
pack n (b ∷ s) = pack (n * 256 + b) s

unfoldable pub packed : List ℕ → ℕ
packed s = cond (ltb 7 (length s)) 0 (pack 1 s)

abbrev pub Bytes : List ℕ → Type 0
Bytes s = (i : ℕ) → get_or s i 0 < 256
