-- A script that is read in parts, to a buffer: its first `held` bytes were read, and those before `at` are taken.
--   IsPrefixLen   `&xs[..n]` is in bounds, and has n elements
--   rest          the bytes that are held and not yet taken
--   last n        the last n bytes that are held
--   Safe          what keeps the places inside the buffer, and the number of the line in range
--   Reads         of the bytes read so far, in all: as long as they do not fill the buffer they stand there;
--                 whatever comes after them, the script goes on with the rest as it would have with all of them
--   Roomy         the contract of `make_room`: r bytes are gone from the front, and no byte of the rest
--   Adds          the contract of `part`: what one read put into the buffer follows the bytes read before
--   All           `bytes` are all bytes read
--   Reached       the contract of `parts`
--   Ended         the contract of `read_script`: k is kept after the lines of all bytes read
--   ListedAnswer  the contract of `listed`: the text stored is the listing of all bytes read
use Rattle.std.specs.Prelude.{List, ◌++◌, ◌≡◌, ℕ, ◌+◌, ◌-◌, ◌<◌, ◌≤◌, length, take, drop}
use Rattle.list_text.specs.Text.{Put}
use Rattle.list_steps.specs.Steps.{Kept}
use Rattle.list_call.specs.Listing.{lines_of, after, output_of}

abbrev pub IsPrefixLen : ℕ → List ℕ → Type 0
IsPrefixLen n xs = (n ≤ length xs) × (n ≡ length (take n xs))

abbrev pub rest : ℕ → ℕ → List ℕ → List ℕ
rest at held buffer = take (held - at) (drop at buffer)

abbrev pub last : ℕ → ℕ → List ℕ → List ℕ
last n held buffer = take n (drop (held - n) buffer)

pub record Safe (line at held read size : ℕ) : Type 0 where
  pub part : at ≤ held
  pub room : held ≤ size
  pub fewer : held ≤ read
  pub lines : line + held ≤ read + at

pub record Reads (start : Kept) (bytes : List ℕ) (k : Kept) (at held read : ℕ) (buffer : List ℕ) : Type 0 where
  pub counted : read ≡ length bytes
  pub whole : read < length buffer → (held ≡ read) × (take held buffer ≡ bytes)
  pub same : (t : List ℕ) → after start (lines_of (bytes ++ t)) ≡ after k (lines_of (rest at held buffer ++ t))

pub record Roomy (before : List ℕ) (at held : ℕ) (after : List ℕ) (r : ℕ) : Type 0 where
  pub less : r ≤ at
  pub kept : rest (at - r) (held - r) after ≡ rest at held before
  pub early : held < length before → (r ≡ 0) × (after ≡ before)

pub record Adds (k : Kept) (at held read : ℕ) (before : List ℕ) (m : Kept) (at' held' read' : ℕ) (after : List ℕ) (most : ℕ) : Type 0 where
  pub safe : Safe m.state.line at' held' read' (length before)
  pub more : read ≤ read'
  pub few : read' ≤ read + most
  pub reads : (start : Kept) (bytes : List ℕ) → Reads start bytes k at held read before → Reads start (bytes ++ last (read' - read) held' after) m at' held' read' after

pub record All (bytes : List ℕ) (total read : ℕ) (buffer : List ℕ) : Type 0 where
  pub counted : read ≡ length bytes
  pub most : read ≤ total
  pub whole : read < length buffer → bytes ≡ take read buffer

pub record Reached (start : Kept) (total : ℕ) (k : Kept) (at held read : ℕ) (buffer : List ℕ) : Type 0 where
  pub safe : Safe k.state.line at held read (length buffer)
  pub most : read ≤ total
  pub bytes : List ℕ
  pub reads : Reads start bytes k at held read buffer

pub record Ended (start : Kept) (total : ℕ) (k : Kept) (read : ℕ) (buffer : List ℕ) : Type 0 where
  pub bytes : List ℕ
  pub all : All bytes total read buffer
  pub kept : k ≡ after start (lines_of bytes)

pub record ListedAnswer (total read : ℕ) (buffer : List ℕ) (stored : ℕ) (before after : List ℕ) : Type 0 where
  pub bytes : List ℕ
  pub all : All bytes total read buffer
  pub listing : Put before 0 (output_of bytes) after stored
  pub fits : IsPrefixLen stored after
