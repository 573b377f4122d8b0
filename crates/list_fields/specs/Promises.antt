-- What is promised of fields and words.
--   Promises     joined fields are found again, whatever has n fields is those joined, and no two words have one number
use Rattle.std.specs.Prelude.{true, List, [], ◌∷◌, ◌≡◌, ℕ, suc, ◌+◌, ◌<◌, ◌≤◌, length, get_or}
use Rattle.loops.specs.Run.{All}
use Rattle.list_fields.specs.Fields.{place, field, fields_of, joined, without}
use Rattle.list_fields.specs.Word.{packed, Bytes}

pub record Promises : Type 0 where
  pub count : (d : ℕ) (f : List ℕ) (fs : List (List ℕ)) → All (λ g. without d g ≡ true) (f ∷ fs)
      → place d (joined d (f ∷ fs)) (length (f ∷ fs)) ≡ length (joined d (f ∷ fs)) + 1
  pub found : (d : ℕ) (f : List ℕ) (fs : List (List ℕ)) → All (λ g. without d g ≡ true) (f ∷ fs)
      → (k : ℕ) → k < length (f ∷ fs) → field d (joined d (f ∷ fs)) k ≡ get_or (f ∷ fs) k []
  pub once : (d : ℕ) (s : List ℕ) (n m : ℕ) → place d s n ≡ length s + 1 → place d s m ≡ length s + 1 → n ≡ m
  pub whole : (d : ℕ) (s : List ℕ) (n : ℕ) → place d s (suc n) ≡ length s + 1 → s ≡ joined d (fields_of d s 0 (suc n))
  pub plain : (d : ℕ) (s : List ℕ) (k : ℕ) → without d (field d s k) ≡ true
  pub word : (s t : List ℕ) → Bytes s → Bytes t → length t ≤ 7 → packed s ≡ packed t → s ≡ t
