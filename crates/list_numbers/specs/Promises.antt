-- What `list` prints of a script, exactly when: document 01, "Edge listing", and "Several at once: the lowest number".
--   NoForm ls j        line j has `form`
--   Formless ls l      line l has `form`, and no line before it has a fault
--   Refused ls l n     line l has its form and a fault, n is the lowest number that refuses it, and no line before it has a fault
--   Whole ls           frame and level line are there, and no line has a fault
--   list_of k          the list of what is kept
--   Ends ls            one of the three
--   Keeps ls j k       no line is refused yet; k has the frame of the frame line and the level values of the level line, if these are among the first j lines,
--                      and memory that suffices
--   Promises
-- Here l counts lines from 1, as the program does. A script is bytes.
use Rattle.std.specs.Prelude.{List, ◌≡◌, ℕ, ◌+◌, ◌<◌, ◌≤◌, length, take}
use Rattle.loops.specs.Exactly.{Exactly}
use Rattle.levels.specs.Levels.{LevelsAnswer}
use Rattle.block.specs.Block.{w4, at_block}
use Rattle.block.specs.Faults.{ContextsFault, LengthFault}
use Rattle.list_fields.specs.Word.{Bytes}
use Rattle.list_script.specs.Line.{Frame, Level}
use Rattle.list_text.specs.Text.{refused_text, form_text}
use Rattle.list_edges.specs.Listed.{list_text}
use Rattle.list_steps.specs.Steps.{Kept, bases, block_of}
use Rattle.list_call.specs.Listing.{lines_of, start, after, held_in, output_of}
use Rattle.list_numbers.specs.Faults.{At, FormFault, Fault, Sound}

-- a line that is there, or the line that is missing where the script ends before its level line
pub data NoForm (ls : List (List ℕ)) (j : ℕ) : Type 0 where
  faulty : j < length ls → FormFault ls j → NoForm ls j
  missing : j ≡ length ls → j < 2 → NoForm ls j

pub record Formless (ls : List (List ℕ)) (l : ℕ) : Type 0 where
  pub j : ℕ
  pub here : l ≡ j + 1
  pub before : (i : ℕ) → i < j → Sound ls i
  pub form : NoForm ls j

pub record Refused (ls : List (List ℕ)) (l n : ℕ) : Type 0 where
  pub j : ℕ
  pub here : l ≡ j + 1
  pub j-in : j < length ls
  pub before : (i : ℕ) → i < j → Sound ls i
  pub form : ¬ FormFault ls j
  pub fault : Fault ls j n
  pub lowest : (m : ℕ) → m < n → ¬ Fault ls j m

pub record Whole (ls : List (List ℕ)) : Type 0 where
  pub long : 2 ≤ length ls
  pub all : (j : ℕ) → j < length ls → Sound ls j

abbrev pub list_of : Kept → List ℕ
list_of k = list_text (held_in k.state k.memory.levels k.memory.masks)

pub data Ends (ls : List (List ℕ)) : Type 0 where
  formless : {l : ℕ} → Formless ls l → Ends ls
  refused : {l n : ℕ} → Refused ls l n → Ends ls
  whole : Whole ls → Ends ls

pub record Keeps (ls : List (List ℕ)) (j : ℕ) (k : Kept) : Type 0 where
  pub number : k.state.number ≡ 0
  pub frame : (width height layout depth superblock sharpness : ℕ) → 0 < j → At ls 0 (Frame width height layout depth superblock sharpness)
      → (k.state.width ≡ width) × (k.state.height ≡ height) × (k.state.layout ≡ layout)
  -- the first 64 values that `levels` leaves
  pub values : (columns rows u v : ℕ) (before after : List ℕ) → 1 < j → At ls 1 (Level columns rows u v)
      → LevelsAnswer k.state.layout (bases columns rows u v) 0 before after → k.values ≡ take 64 after
  -- of any block, nothing that 6 or 7 refuses
  pub room : (x y size tx chroma uvtx : ℕ) → 0 < j
      → let b = block_of k.state x y size tx chroma uvtx in
      (¬ ContextsFault b (at_block b k.memory)) × (¬ LengthFault b (w4 b) (at_block b k.memory))

pub record Promises : Type 0 where
  pub form : (script : List ℕ) (l : ℕ) → Bytes script → Exactly (output_of script ≡ form_text l) (Formless (lines_of script) l)
  -- each number, and so 1, 2, 3, 4 and 5
  pub number : (script : List ℕ) (l n : ℕ) → Bytes script → Exactly (output_of script ≡ refused_text l n) (Refused (lines_of script) l n)
  pub list : (script : List ℕ) → Bytes script → Exactly (output_of script ≡ list_of (after start (lines_of script))) (Whole (lines_of script))
  pub ends : (script : List ℕ) → Bytes script → Ends (lines_of script)
  -- 6 and 7 never come from a script
  pub to-5 : (script : List ℕ) (l n : ℕ) → Bytes script → output_of script ≡ refused_text l n → (1 ≤ n) × (n ≤ 5)
  pub keeps : (script : List ℕ) (j : ℕ) → Bytes script → j ≤ length (lines_of script) → ((i : ℕ) → i < j → Sound (lines_of script) i)
      → Keeps (lines_of script) j (after start (take j (lines_of script)))
