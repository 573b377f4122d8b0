-- What document 01 promises of `list`, as theorems on its contract alone.
--   ended ls         the lines ls, each with its end
--   Plain ls         none has a line's end in it
--   Draws k s e      the line s, coming after k, is a block's, and the bit e of the masks is that of an edge of the block
--   Sets ls e        a line of ls draws the bit e
--   Stops ls l n     the first line of ls that is refused is line l, counted from 1, and its number is n
--   Promises
use Rattle.std.specs.Prelude.{true, ◌||◌, List, [], ◌∷◌, ◌++◌, ◌≡◌, ℕ, ◌+◌, ◌<◌, ◌≤◌, length, get_or, take}
use Rattle.loops.specs.Exactly.{Exactly}
use Rattle.loops.specs.Run.{All}
use Rattle.bits.specs.Mark.{is_set}
use Rattle.record.specs.Recorded.{luma_edge, chroma_edge}
use Rattle.list_fields.specs.Fields.{without}
use Rattle.list_script.specs.Line.{Block as BlockLine}
use Rattle.list_text.specs.Text.{end}
use Rattle.list_steps.specs.Steps.{Kept, said, block_of, step_of}
use Rattle.block.specs.Block.{at_block}
use Rattle.list_call.specs.Listing.{lines_of, start, after, output_of, room, ListAnswer, Left}

abbrev pub ended : List (List ℕ) → List ℕ
ended [] = []
ended (l ∷ ls) = l ++ (end ∷ ended ls)

abbrev pub Plain : List (List ℕ) → Type 0
Plain ls = All (λ l. without end l ≡ true) ls

pub record Draws (k : Kept) (s : List ℕ) (e : ℕ) : Type 0 where
  pub x : ℕ
  pub y : ℕ
  pub size : ℕ
  pub tx : ℕ
  pub chroma : ℕ
  pub uvtx : ℕ
  pub is : said s ≡ BlockLine x y size tx chroma uvtx
  pub edge : let b = block_of k.state x y size tx chroma uvtx in
      let m = at_block b k.memory in
      (luma_edge b [] m e || chroma_edge b m e) ≡ true

pub record Sets (ls : List (List ℕ)) (e : ℕ) : Type 0 where
  pub j : ℕ
  pub j-in : j < length ls
  pub line : Draws (after start (take j ls)) (get_or ls j []) e

pub record Stops (ls : List (List ℕ)) (l n : ℕ) : Type 0 where
  pub j : ℕ
  pub j-in : j < length ls
  pub here : l ≡ j + 1
  pub before : (after start (take j ls)).state.number ≡ 0
  pub refused : (step_of (after start (take j ls)) (get_or ls j [])).state.number ≡ n
  pub fault : ¬ (n ≡ 0)

pub record Promises : Type 0 where
  -- uniqueness: two answers that the contract admits are equal
  pub unique : (script : List ℕ) (n m : ℕ) (before a b : List ℕ)
      → ListAnswer script n before a → ListAnswer script m before b → (n ≡ m) × (a ≡ b)
  -- the room suffices, for every script that a slice can hold
  pub fits : (script : List ℕ) → length script < 18446744073709551616 → length (output_of script) ≤ room
  -- what is listed is of a proper frame, and a script that ends before its level line ends at the missing line
  pub left : (script : List ℕ) → Left (after start (lines_of script)).state
  -- lines are read as they are written, the last with its end or without
  pub lines : (ls : List (List ℕ)) → Plain ls → lines_of (ended ls) ≡ ls
  pub last : (ls : List (List ℕ)) (l : List ℕ) → Plain (l ∷ ls) → 0 < length l → lines_of (ended ls ++ l) ≡ ls ++ (l ∷ [])
  -- the masks that are listed hold exactly the edges that the script's blocks record
  pub drawn : (script : List ℕ) (e : ℕ) → (after start (lines_of script)).state.number ≡ 0
      → Exactly (is_set (after start (lines_of script)).memory.masks e ≡ true) (Sets (lines_of script) e)
  -- the number that is printed is that of the first refused line
  pub stops : (script : List ℕ) (l n : ℕ) → ¬ (n ≡ 0)
      → Exactly (((after start (lines_of script)).state.line ≡ l) × ((after start (lines_of script)).state.number ≡ n)) (Stops (lines_of script) l n)
