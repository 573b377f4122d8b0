-- The contract of `correct_column` and `correct_row`.
--   start_of              the start of these arguments
--   column_of, row_of     that of a call
--   CorrectAnswer         number and masks after a call
--   Ready                 what the work behind the number asks in a plane
use Rattle.std.specs.Prelude.{Bool, true, false, cond, List, ◌≡◌, ℕ, ◌*◌, ◌≤◌, eqb, length}
use Rattle.units.specs.Frame.{frame_records}
use Rattle.correct.specs.declared.Start.{Start}
use Rattle.correct.specs.Start.{w4, h4, corrects, Shaped}
use Rattle.correct.specs.Correct.{done}
use Rattle.correct.specs.Tests.{units_along, number}

abbrev pub start_of : Bool → ℕ → ℕ → ℕ → ℕ → ℕ → ℕ → Start
start_of rowwise width height layout superblock row start =
    record {
      width = record { 0 = width };
      height = record { 0 = height };
      layout = layout;
      superblock = superblock;
      rowwise = rowwise;
      row = row;
      start = start;
    }

abbrev pub column_of : ℕ → ℕ → ℕ → ℕ → ℕ → ℕ → Start
column_of = start_of false

abbrev pub row_of : ℕ → ℕ → ℕ → ℕ → ℕ → Start
row_of width height layout superblock row = start_of true width height layout superblock row 0

pub record CorrectAnswer (t : Start) (context context-uv : List ℕ) (r : ℕ) (before after : List ℕ) : Type 0 where
  pub code : r ≡ number t (length before) context context-uv
  pub masks : after ≡ cond (eqb r 0) (done t context context-uv before) before

pub record Ready (t : Start) (luma : Bool) (masks context : ℕ) : Type 0 where
  pub shaped : Shaped t
  pub masks-long : 640 * frame_records (w4 t) (h4 t) ≤ masks
  pub context-long : corrects t luma ≡ true → units_along t luma ≤ context
