-- One edge piece as the standard filters it. Places of a line as in the standard's Masks: q0 at 8, p0 at 7.
--   limits_in a              e and i of an answer of `limits`
--   piece_level              the level used at a piece of plane n
--   sample_at d S p i k      the index of place k of line i of the piece at p
--   piece_line d S p i s     line i of it, in the list s
--   There d S n p size       n places a side of its four lines are in a list of that size
--   Standard                 each of its four lines is filtered by 7.14.6.1, and no other sample changes
use Rattle.std.specs.Prelude.{List, ◌≡◌, ℕ, ◌+◌, ◌-◌, ◌*◌, ◌≤◌, ◌<◌, length, get_or}
use Rattle.plane.specs.Line.{Pass, Piece, ix, Room}
use Rattle.standard.specs.Line.{filtered}
use Rattle.standard.specs.declared.Bounds.{Bounds}
use Rattle.line.specs.Width.{Within, reads}
use Rattle.limits.specs.Limits.{LimitAnswer}
use Rattle.filter.specs.Filter.{level_of}
use Rattle.checks.specs.declared.Call.{Call}
use Rattle.checks.specs.Call.{Lent}
use Rattle.apply.specs.Apply.{component_of, Limits, tables_of}

abbrev pub limits_in : LimitAnswer → Limits
limits_in a = record { e = a.table.e; i = a.table.i }

abbrev pub piece_level : Call → Limits → Lent → ℕ → Pass → Piece → ℕ
piece_level c l m n = level_of (component_of c n) (tables_of c l m)

abbrev pub sample_at : Pass → ℕ → Piece → ℕ → ℕ → ℕ
sample_at d S p i k = ix d S (4 * p.1 + i) (4 * p.0 + k - 8)

abbrev pub piece_line : Pass → ℕ → Piece → ℕ → List ℕ → ℕ → ℕ
piece_line d S p i s k = get_or s (sample_at d S p i k) 0

pub record There (d : Pass) (S n : ℕ) (p : Piece) (size : ℕ) : Type 0 where
  pub start : n ≤ 4 * p.0
  pub room : Room d S n p
  pub inside : (i k : ℕ) → i < 4 → Within n k → sample_at d S p i k < size

pub record Standard (d : Pass) (S len : ℕ) (t : Bounds) (p : Piece) (before after : List ℕ) : Type 0 where
  pub lines : (i k : ℕ) → i < 4 → Within (reads len) k → piece_line d S p i after k ≡ filtered len t (piece_line d S p i before) k
  pub others : (j : ℕ) → ((i k : ℕ) → i < 4 → Within (reads len) k → ¬ (j ≡ sample_at d S p i k)) → get_or after j 0 ≡ get_or before j 0
  pub long : length after ≡ length before
