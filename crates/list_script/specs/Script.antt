-- A line of a script: what it says, by its fields.
--   space             what parts fields
--   Has s n           the line s has n fields, and is not too long to count
--   at s k            field k of the line s
--   is_word s k w      it is the word w
--   number_at s k      it as a number
--   no_numbers s n     one of the n fields from field 1 on is no number
--   no_words s         one of the three sizes is empty
--   chroma_of w, uvtx_of w   the flag and the code of the chroma transform's field
--   frame_of, level_of, block_of, seven_of   a line of so many fields
--   line_of s          what the line s says
use Rattle.std.specs.Prelude.{Bool, cond, not, ◌||◌, List, [], ℕ, ◌+◌, ◌<◌, ◌≤◌, eqb, length}
use Rattle.loops.specs.Any.{any_below}
use Rattle.list_decimal.specs.Decimal.{number_of, no_number}
use Rattle.list_fields.specs.Fields.{place, field, parted}
use Rattle.list_fields.specs.Word.{packed}
use Rattle.list_script.specs.Names.{block_code, tx_code, frame_word, level_word, block_word, intra_word, no_word}
use Rattle.list_script.specs.Line.{Line, Frame, Level, Block, Form}

abbrev pub space : ℕ
space = 32

pub record Has (s : List ℕ) (n : ℕ) : Type 0 where
  pub small : length s + n < 18446744073709551615
  pub begins : (k : ℕ) → k < n → place space s k ≤ length s

abbrev pub at : List ℕ → ℕ → List ℕ
at s k = field space s k

abbrev pub is_word : List ℕ → ℕ → List ℕ → Bool
is_word s k w = eqb (packed (at s k)) (packed w)

abbrev pub number_at : List ℕ → ℕ → ℕ
number_at s k = number_of (at s k)

unfoldable pub no_numbers : List ℕ → ℕ → Bool
no_numbers s n = any_below n (λ k. eqb (number_at s (k + 1)) no_number)

-- a size is any word but the empty one
abbrev pub no_words : List ℕ → Bool
no_words s = is_word s 3 [] || is_word s 4 [] || is_word s 5 []

abbrev pub chroma_of : List ℕ → ℕ
chroma_of w = cond (eqb (packed w) (packed no_word)) 0 1

abbrev pub uvtx_of : List ℕ → ℕ
uvtx_of w = cond (eqb (packed w) (packed no_word)) 0 (tx_code w)

unfoldable pub frame_of : List ℕ → Line
frame_of s =
    cond (no_numbers s 6) Form
    (Frame (number_at s 1) (number_at s 2) (number_at s 3) (number_at s 4) (number_at s 5) (number_at s 6))

unfoldable pub level_of : List ℕ → Line
level_of s =
    cond (not (is_word s 0 level_word) || no_numbers s 4) Form (Level (number_at s 1) (number_at s 2) (number_at s 3) (number_at s 4))

unfoldable pub block_of : List ℕ → Line
block_of s =
    cond (no_numbers s 2 || no_words s || not (is_word s 6 intra_word)) Form
    (Block (number_at s 1) (number_at s 2) (block_code (at s 3)) (tx_code (at s 4)) (chroma_of (at s 5)) (uvtx_of (at s 5)))

unfoldable pub seven_of : List ℕ → Line
seven_of s = cond (is_word s 0 frame_word) (frame_of s) (cond (is_word s 0 block_word) (block_of s) Form)

unfoldable pub line_of : List ℕ → Line
line_of s =
    cond (parted space s 5) (level_of s) (cond (parted space s 7) (seven_of s) Form)
