-- What is promised of the list as text: room that always suffices.
--   Promises     the list of a frame of 256 by 256 samples, with level bytes, has at most 393,255 bytes
use Rattle.std.specs.Prelude.{ℕ, ◌≤◌, ◌<◌, length, get_or}
use Rattle.list_edges.specs.Listed.{Held, list_text}

pub record Promises : Type 0 where
  pub room : (s : Held) → s.w4 ≤ 64 → s.h4 ≤ 64 → ((i : ℕ) → get_or s.levels i 0 < 256) → length (list_text s) ≤ 393255
