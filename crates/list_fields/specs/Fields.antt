-- Fields: bytes parted by a byte d, as a line is by spaces.
--   cut d s          how many bytes stand before the first d
--   rest d s         what stands after it
--   place d s k      where field k begins, counted from 0
--   field d s k      the bytes of field k
--   fields_of d s k n   n fields from field k on
--   parted d s n     s has n fields
--   joined d fs      the fields fs, parted by d
--   without d s      d is not among the bytes
use Rattle.std.specs.Prelude.{Bool, true, cond, not, ◌&&◌, List, [], ◌∷◌, ◌++◌, ℕ, zero, suc, ◌+◌, eqb, length, take, drop}

unfoldable pub cut : ℕ → List ℕ → ℕ
cut d [] = 0
cut d (b ∷ s) = cond (eqb b d) 0 (suc (cut d s))

abbrev pub rest : ℕ → List ℕ → List ℕ
rest d s = drop (cut d s + 1) s

unfoldable pub place : ℕ → List ℕ → ℕ → ℕ
place d s zero = 0
place d s (suc k) = place d s k + cut d (drop (place d s k) s) + 1

unfoldable pub field : ℕ → List ℕ → ℕ → List ℕ
field d s k = take (cut d (drop (place d s k) s)) (drop (place d s k) s)

abbrev pub fields_of : ℕ → List ℕ → ℕ → ℕ → List (List ℕ)
fields_of d s k zero = []
fields_of d s k (suc n) = field d s k ∷ fields_of d s (suc k) n

-- after the last field the next would begin past the end and one d more
abbrev pub parted : ℕ → List ℕ → ℕ → Bool
parted d s n = eqb (place d s n) (length s + 1)

abbrev pub joined : ℕ → List (List ℕ) → List ℕ
joined d [] = []
joined d (f ∷ []) = f
joined d (f ∷ g ∷ fs) = f ++ (d ∷ joined d (g ∷ fs))

abbrev pub without : ℕ → List ℕ → Bool
without d [] = true
without d (b ∷ s) = not (eqb b d) && without d s
