-- What is promised of the text: room that always suffices.
--   Promises     the line of an edge in a frame of 256 by 256 has at most 15 bytes, the last line at most 12 for a count below 100,000
use Rattle.std.specs.Prelude.{ℕ, ◌≤◌, ◌<◌, length}
use Rattle.list_text.specs.Text.{edge_text, total_text}

pub record Promises : Type 0 where
  pub edge : (plane pass x y class level : ℕ) → plane < 10 → pass < 10 → x < 100 → y < 100 → class < 10 → level < 100
      → length (edge_text plane pass x y class level) ≤ 15
  pub total : (n : ℕ) → n < 100000 → length (total_text n) ≤ 12
