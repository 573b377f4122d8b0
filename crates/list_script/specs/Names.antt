-- Names of block and transform sizes, and the words of a script.
--   sized w h            the name of a size of w by h samples, as `8x16`
--   block_name b          of the block code b
--   tx_name t             of the transform code t
--   first n f            the least number below n that passes the test, n where none does
--   block_in n, tx_in n    the code whose name has the number n
--   block_code w, tx_code w   the code whose name is the word w; 22 and 19 where none is
--   frame_word, level_word, block_word, intra_word, no_word   `frame`, `level`, `block`, `I`, `-`
use Rattle.std.specs.Prelude.{Bool, cond, List, [], ◌∷◌, ◌++◌, ℕ, zero, suc, ◌*◌, eqb, ltb}
use Rattle.standard.specs.Sizes.{Num_4x4_Blocks_Wide, Num_4x4_Blocks_High, Tx_Wide, Tx_High}
use Rattle.list_decimal.specs.Decimal.{decimal}
use Rattle.list_fields.specs.Word.{packed}

abbrev pub sized : ℕ → ℕ → List ℕ
sized w h = decimal w ++ (120 ∷ decimal h)

unfoldable pub block_name : ℕ → List ℕ
block_name b = sized (4 * Num_4x4_Blocks_Wide b) (4 * Num_4x4_Blocks_High b)

unfoldable pub tx_name : ℕ → List ℕ
tx_name t = sized (4 * Tx_Wide t) (4 * Tx_High t)

unfoldable pub first : ℕ → (ℕ → Bool) → ℕ
first zero f = 0
first (suc n) f = cond (ltb (first n f) n) (first n f) (cond (f n) n (suc n))

abbrev pub block_in : ℕ → ℕ
block_in n = first 22 (λ b. eqb (packed (block_name b)) n)

abbrev pub tx_in : ℕ → ℕ
tx_in n = first 19 (λ t. eqb (packed (tx_name t)) n)

abbrev pub block_code : List ℕ → ℕ
block_code w = block_in (packed w)

abbrev pub tx_code : List ℕ → ℕ
tx_code w = tx_in (packed w)

abbrev pub frame_word : List ℕ
frame_word = 102 ∷ 114 ∷ 97 ∷ 109 ∷ 101 ∷ []

abbrev pub level_word : List ℕ
level_word = 108 ∷ 101 ∷ 118 ∷ 101 ∷ 108 ∷ []

abbrev pub block_word : List ℕ
block_word = 98 ∷ 108 ∷ 111 ∷ 99 ∷ 107 ∷ []

abbrev pub intra_word : List ℕ
intra_word = 73 ∷ []

abbrev pub no_word : List ℕ
no_word = 45 ∷ []
