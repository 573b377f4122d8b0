-- The listing of a script: document 01, "Edge listing".
--   push b ls          the lines ls with the byte b before the first
--   lines_of s         the lines of a script: byte 10 ends a line, and a last line without it is a line
--   start              what is kept before the first line: masks cleared, luma contexts 2, chroma contexts 1
--   after k ls         what is kept after the lines ls
--   held_in            what the list is made of
--   text_in, text_of   the output, once the script has ended
--   output_of s        the output of the script s
--   room               bytes that suffice for any output
--   ListAnswer         the contract of `list`
--   Left s             of the states that a script leaves: the frame is proper, and each line before the level line was accepted
--   Texted             the contract of `put_text`
--   Listable           what the code asks of a state that is listed, and of the lengths of the lent memory
--   Taken              the contract of `take_lines`: of the bytes s, those before `at` are taken
use Rattle.std.specs.Prelude.{cond, List, [], ◌∷◌, ◌++◌, ◌≡◌, ℕ, ◌+◌, ◌<◌, ◌≤◌, eqb, leb, ltb, length, drop, replicate}
use Rattle.units.specs.Units.{units_of}
use Rattle.block.specs.Block.{lent}
use Rattle.list_decimal.specs.Decimal.{pasted}
use Rattle.list_fields.specs.Fields.{cut}
use Rattle.list_text.specs.Text.{end, refused_text, form_text, Put}
use Rattle.list_edges.specs.Listed.{Held, list_text}
use Rattle.list_put.specs.Written.{held_of}
use Rattle.list_steps.specs.State.{State, form, state_of}
use Rattle.list_steps.specs.Steps.{Kept, step_of}
use Rattle.list_steps.specs.Promises.{Proper}
use Rattle.loops.specs.Flag.{on}

abbrev pub push : ℕ → List (List ℕ) → List (List ℕ)
push b [] = (b ∷ []) ∷ []
push b (l ∷ ls) = (b ∷ l) ∷ ls

abbrev pub lines_of : List ℕ → List (List ℕ)
lines_of [] = []
lines_of (b ∷ s) = cond (eqb b end) ([] ∷ lines_of s) (push b (lines_of s))

unfoldable pub start : Kept
start =
    record {
      state = state_of 0 0 0 0 0 0;
      values = replicate 64 0;
      memory = lent (replicate 16384 0) (replicate 2560 0) (replicate 64 2) (replicate 64 2) (replicate 64 1) (replicate 64 1);
    }

abbrev pub after : Kept → List (List ℕ) → Kept
after k [] = k
after k (l ∷ ls) = after (step_of k l) ls

abbrev pub held_in : State → List ℕ → List ℕ → Held
held_in s = held_of s.layout (units_of s.width) (units_of s.height)

-- a refused line; a script that ends before its level line; the list
unfoldable pub text_in : State → List ℕ → List ℕ → List ℕ
text_in s levels masks =
    cond (eqb s.number form) (form_text s.line)
    (cond (on s.number) (refused_text s.line s.number)
    (cond (ltb s.phase 2) (form_text (s.line + 1)) (list_text (held_in s levels masks))))

abbrev pub text_of : Kept → List ℕ
text_of k = text_in k.state k.memory.levels k.memory.masks

unfoldable pub output_of : List ℕ → List ℕ
output_of s = text_of (after start (lines_of s))

abbrev pub room : ℕ
room = 393255

pub record ListAnswer (script : List ℕ) (n : ℕ) (before after : List ℕ) : Type 0 where
  pub long : n ≡ length (output_of script)
  pub stored : after ≡ cond (leb n (length before)) (pasted before 0 (output_of script)) before

pub record Left (s : State) : Type 0 where
  pub proper : Proper s
  pub early : s.number ≡ 0 → s.phase < 2 → s.line ≡ s.phase

pub record Texted (s : State) (levels masks before after : List ℕ) (r : ℕ) : Type 0 where
  pub short : r ≤ room
  pub long : length after ≡ length before
  pub stored : Left s → Put before 0 (text_in s levels masks) after r

pub record Listable (s : State) (levels masks out : ℕ) : Type 0 where
  pub width : s.width ≤ 256
  pub height : s.height ≤ 256
  pub levels-long : 16384 ≤ levels
  pub masks-long : 2560 ≤ masks
  pub room-long : room ≤ out

-- the rest has no whole line; whatever comes after s, the script goes on with the rest as it would have with s
pub record Taken (k : Kept) (s : List ℕ) (m : Kept) (at : ℕ) : Type 0 where
  pub part : at ≤ length s
  pub rest : cut end (drop at s) ≡ length (drop at s)
  pub same : (t : List ℕ) → after k (lines_of (s ++ t)) ≡ after m (lines_of (drop at s ++ t))
  pub line : m.state.line ≤ k.state.line + at
